use Rattle.std.proofs.Common.{◌≡◌, ℕ, ◌<◌, length}
use Rattle.ossl_property.specs.Bytes.{past, is_space}
use Rattle.ossl_property.specs.Grammar.{mentions}
use Rattle.ossl_property.specs.Names.{has}
use Rattle.ossl_property.specs.Reading.{list_at, more_at}
use Rattle.ossl_property.proofs.reader.Reader.clauses.Given as goal

-- the names are those of the clauses, and going on from here gives what the whole text gives
abbrev pub invariant-clauses : goal.invariant-clauses
invariant-clauses l = record {
  names : has l.names ≡ mentions l.clauses.items;
  whole : (fuel : ℕ) × (length l.self.rest.now < fuel) × (more_at fuel l.language l.clauses.items l.self.rest.now ≡ list_at l.language (past is_space l.fn.self.rest.now));
}

abbrev pub decreases-clauses : goal.decreases-clauses
decreases-clauses l = length l.self.rest.now
