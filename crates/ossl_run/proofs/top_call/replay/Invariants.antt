use Rattle.ossl_run.proofs.top_call.replay.Given as goal

-- the ledger on which the registry counts
abbrev pub ghosts-perform : goal.ghosts-perform
ghosts-perform g a = record { name = a.blank.name; parts = a.blank.parts }
