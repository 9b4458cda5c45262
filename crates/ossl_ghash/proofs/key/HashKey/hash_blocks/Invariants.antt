use Rattle.std.proofs.Common.{◌≡◌}
use Rattle.ossl_ghash.specs.Ghash.{hashed}
use Rattle.ossl_ghash.proofs.key.HashKey.hash_blocks.Given as goal

abbrev pub invariant-block : goal.invariant-block
invariant-block l = l.hash ≡ hashed l.self l.i l.fn.value l.bytes
