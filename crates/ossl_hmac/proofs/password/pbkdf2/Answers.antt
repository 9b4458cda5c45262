use Rattle.std.proofs.Common.{◌≡◌, ◌+◌, ◌-◌, ◌*◌, ◌<◌, ◌≤◌, ◌∙◌, ℕ, length, take, min, ap, sym, arith}
use Rattle.std.proofs.Math.Seq.{take-nil}
use Rattle.std.specs.Int.{div_ceil}
use Rattle.ossl_digests.specs.Digest.{output_len}
use Rattle.ossl_hmac.specs.Pbkdf2.{derived_block, derived_blocks}
use Rattle.ossl_hmac.proofs.Derivation.{begins_within, cut_front, derived_blocks_more, filled_more, length-derived_block, length-derived_blocks, some_digest}
use Rattle.ossl_hmac.proofs.password.pbkdf2.Goals as goal

pub loop-i-init : goal.loop-i-init
unfolding derived_blocks
loop-i-init c =
    let first : min (0 * output_len c.args.hash) (length c.args.out.now) ≡ 0 = omega arith in
    ap (λ n. take n c.args.out.now) first ∙ sym (take-nil {A = ℕ} (length c.args.out.now))

pub loop-i-preserved : goal.loop-i-preserved
loop-i-preserved c =
    let hash = c.args.hash in
    let size = output_len hash in
    let i = c.loop-i.i in
    let len = length c.args.out.now in
    let start = i * c.output_len-size.result in
    let end = c.min-end.result in
    let is_size : c.output_len-size.result ≡ size = c.output_len-size.ensures in
    let begins : start ≡ i * size = ap (λ n. i * n) is_size in
    let below : i < div_ceil len size = omega (arith, c.div_ceil-i-end.ensures, ap (div_ceil len) is_size) in
    let room : i * size < len = begins_within i len size (some_digest hash) below in
    let blocks = derived_blocks hash c.args.password.now c.args.salt.now c.args.rounds i in
    let block = derived_block hash c.args.password.now c.args.salt.now c.args.rounds (i + 1) in
    let is_end : end ≡ min len (start + size) = omega (arith, c.min-end.ensures, is_size) in
    let fits : end - start ≤ size = omega (arith, is_end) in
    let mid : c.copy_from_slice.new.self ≡ take (end - start) block =
    c.copy_from_slice.ensures.after ∙ cut_front (end - start) size c.derived_block-block.result block fits
    (c.derived_block-block.ensures hash c.args.password.now c.new-keyed.ensures) in
    filled_more c.loop-i.out blocks block c.copy_from_slice.new.self _ i size len start end begins c.loop-i.invariant
    (length-derived_blocks hash c.args.password.now c.args.salt.now c.args.rounds i)
    (length-derived_block hash c.args.password.now c.args.salt.now c.args.rounds (i + 1)) room is_end mid
    ∙ ap (take len) (sym (derived_blocks_more hash c.args.password.now c.args.salt.now c.args.rounds i))
