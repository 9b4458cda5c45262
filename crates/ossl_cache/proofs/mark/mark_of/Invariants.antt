use Rattle.std.proofs.Common.{◌≡◌, take, fold}
use Rattle.std.specs.Hash as fed
use Rattle.std.specs.Hash.FoldHasher as folding
use Rattle.ossl_cache.specs.Marks.{with_clause}
use Rattle.ossl_cache.proofs.mark.mark_of.Given as goal

abbrev pub invariant-loop-clause : goal.invariant-loop-clause
invariant-loop-clause l = l.hasher ≡ fold with_clause (fold folding.write folding.initial (fed.u64 l.key.number)) (take l.clause-index l.key.query)
