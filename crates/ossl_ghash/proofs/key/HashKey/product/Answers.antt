use Rattle.std.proofs.Common.{◌≡◌, ℕ, ◌/◌, ◌%◌, bit_xor, slice_index, arith, ap, ◌∙◌}
use Rattle.ossl_ghash.specs.Nibbles.{multiples_of}
use Rattle.ossl_ghash.proofs.Nibbles.{multiple_at, byte_step, rest_step, product_none, rest_none}
use Rattle.ossl_ghash.proofs.key.HashKey.product.Goals as goal

pub byte-init : goal.byte-init
byte-init c = (product_none c.args.x c.args.self.now, rest_none c.args.x)

pub byte-preserved : goal.byte-preserved
byte-preserved c =
    let h = c.args.self.now in
    let x = c.args.x in
    let rest = c.byte.rest in
    let table = c.self.inside.multiples in
    let all : table ≡ multiples_of h = c.self.invariant ∙ ap multiples_of c.self.view_is in
    let low : ℕ = slice_index table (rest % 256 % 16) in
    let high : ℕ = slice_index table (rest % 256 / 16) in (
      byte_step c.byte.i x h rest c.byte.sum (bit_xor c.halved_4.result low) _ low high c.byte.invariant.0 c.byte.invariant.1
          (multiple_at table h (rest % 256 % 16) all (omega arith)) (multiple_at table h (rest % 256 / 16) all (omega arith))
          (ap (λ (v : ℕ). bit_xor v low) c.halved_4.ensures) (ap (λ (v : ℕ). bit_xor v high) c.halved_4-in-byte.ensures),
      rest_step c.byte.i x rest c.byte.invariant.1,
    )
