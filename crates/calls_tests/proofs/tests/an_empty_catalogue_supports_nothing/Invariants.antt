use Rattle.calls_tests.proofs.tests.an_empty_catalogue_supports_nothing.Given as goal

-- the ledger that the counter's steps are on
abbrev pub ghosts-fetch_from_nothing : goal.ghosts-fetch_from_nothing
ghosts-fetch_from_nothing g a = record { name = a.blank.name; parts = a.blank.parts }
