use Rattle.std.proofs.Common.{◌≡◌, ◌*◌, ◌/◌, ◌^◌}
use Rattle.ossl_ghash.specs.Ghash.{times}
use Rattle.ossl_ghash.proofs.key.HashKey.product.Given as goal

abbrev pub invariant-byte : goal.invariant-byte
invariant-byte l = (l.sum ≡ times (8 * l.i) l.x l.self) × (l.rest ≡ l.x / 2 ^ (8 * l.i))
