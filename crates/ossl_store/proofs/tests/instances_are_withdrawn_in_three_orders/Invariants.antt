use Rattle.ossl_store.proofs.tests.instances_are_withdrawn_in_three_orders.Given as goal

-- the ledger that the counter's steps are on
abbrev pub ghosts-in_three_orders : goal.ghosts-in_three_orders
ghosts-in_three_orders g a = record { name = a.blank.name; parts = a.blank.parts }
