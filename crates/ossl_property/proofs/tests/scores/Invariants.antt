use Rattle.ossl_property.proofs.tests.scores.Given as goal

-- the ledger that the counter's steps are on
abbrev pub ghosts-scored : goal.ghosts-scored
ghosts-scored g a = record { name = a.blank.name; parts = a.blank.parts }
