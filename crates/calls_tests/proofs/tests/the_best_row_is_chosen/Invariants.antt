use Rattle.calls_tests.proofs.tests.the_best_row_is_chosen.Given as goal

-- the ledger that the counter's steps are on
abbrev pub ghosts-chosen : goal.ghosts-chosen
ghosts-chosen g a = record { name = a.blank.name; parts = a.blank.parts }
