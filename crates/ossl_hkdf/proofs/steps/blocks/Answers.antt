use Rattle.std.proofs.Common.{◌≡◌, ◌-◌, ◌∙◌, ap, drop, length, arith}
use Rattle.std.proofs.lemmas.List.{take_rest}
use Rattle.ossl_digests.specs.Digest.{output_len}
use Rattle.ossl_hkdf.specs.Hkdf.{blocks}
use Rattle.ossl_hkdf.proofs.Expansion.{blocks_grow}
use Rattle.ossl_hkdf.proofs.steps.blocks.Goals as goal

pub loop-i-init : goal.loop-i-init
unfolding blocks
loop-i-init c = c.in_ok-bytes.ensures.items

pub loop-i-preserved : goal.loop-i-preserved
loop-i-preserved c =
    let items = c.loop-i.bytes.items in
    let s = c.as_slice.result.now in
    let k = c.saturating_sub-before.result in
    let place : k ≡ length items - output_len c.args.hash =
    omega (arith, c.saturating_sub-before.ensures, c.len.ensures, c.as_slice.ensures.len, ap length c.as_slice.ensures.value, c.output_len-size.ensures) in
    blocks_grow c.args.hash c.args.key.now c.args.info.now c.loop-i.i items _ _ _ c.loop-i.invariant c.in_ok-extend_from_slice.ensures.items
    (c.as_slice-in-loop-i.ensures.value ∙ c.next_block-block.ensures c.args.hash c.args.key.now c.new-keyed.ensures)
    (take_rest s k ∙ ap (drop k) c.as_slice.ensures.value ∙ ap (λ n. drop n items) place)

pub returns : goal.returns
returns c =
    let done : c.loop-i.i ≡ c.args.count = omega arith in
    c.loop-i.invariant ∙ ap (blocks c.args.hash c.args.key.now c.args.info.now) done
