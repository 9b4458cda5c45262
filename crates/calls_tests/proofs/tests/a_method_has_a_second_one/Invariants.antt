use Rattle.calls_tests.proofs.tests.a_method_has_a_second_one.Given as goal

-- the ledger that the counter's steps are on
abbrev pub ghosts-fetch_and_up_ref : goal.ghosts-fetch_and_up_ref
ghosts-fetch_and_up_ref g a = record { name = a.blank.name; parts = a.blank.parts }
