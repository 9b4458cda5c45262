use Rattle.registry_callers.proofs.answer.Given as goal

-- the ledger that the counter's steps are on
abbrev pub ghosts-run : goal.ghosts-run
ghosts-run g a = record { name = a.blank.name; parts = a.blank.parts }
