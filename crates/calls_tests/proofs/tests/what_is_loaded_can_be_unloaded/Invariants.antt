use Rattle.calls_tests.proofs.tests.what_is_loaded_can_be_unloaded.Given as goal

-- the ledger that the counter's steps are on
abbrev pub ghosts-load_and_unload : goal.ghosts-load_and_unload
ghosts-load_and_unload g a = record { name = a.blank.name; parts = a.blank.parts }
