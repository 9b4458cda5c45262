use Rattle.ossl_par.proofs.top_call.batch.Given as goal

-- the ledger on which the registry counts
abbrev pub ghosts-perform : goal.ghosts-perform
ghosts-perform g a = record { name = a.blank.name; parts = a.blank.parts }
