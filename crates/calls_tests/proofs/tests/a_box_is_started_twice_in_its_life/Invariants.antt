use Rattle.calls_tests.proofs.tests.a_box_is_started_twice_in_its_life.Given as goal

-- the ledger that the counter's steps are on
abbrev pub ghosts-fetch_in_two : goal.ghosts-fetch_in_two
ghosts-fetch_in_two g a = record { name = a.blank.name; parts = a.blank.parts }
