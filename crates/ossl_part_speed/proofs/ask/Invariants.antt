use Rattle.ossl_part_speed.proofs.ask.Given as goal

-- the ledger that the store's steps are counted on
abbrev pub ghosts-best_of : goal.ghosts-best_of
ghosts-best_of a = record { name = a.blank.name; parts = a.blank.parts }
