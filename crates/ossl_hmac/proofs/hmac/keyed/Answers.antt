use Rattle.std.proofs.Common.{rules, ◌≡◌, [], length, map, take, refl, arith}
use Rattle.std.specs.Prelude.{bit_xor}
use Rattle.ossl_digests.specs.Digest.{block_len}
use Rattle.ossl_hmac.specs.Hmac.{filled_key}
use Rattle.ossl_hmac.proofs.Keys.{xored_more, xored_all, block_len_bound}
use Rattle.ossl_hmac.proofs.hmac.keyed.Goals as goal

pub loop-i-init : goal.loop-i-init
loop-i-init c = (refl, refl, search rules)

pub loop-i-preserved : goal.loop-i-preserved
loop-i-preserved c =
    xored_more c.args.pad c.args.key.now c.loop-i.block c.loop-i.i _ c.loop-i.invariant.0 c.loop-i.invariant.1 c.loop-i.invariant.2 (omega arith)
    (omega (arith, block_len_bound c.args.hash)) refl

pub returns : goal.returns
returns c =
    let end : c.loop-i.i ≡ length c.args.key.now = omega arith in
    let whole : take (block_len c.args.hash) c.loop-i.block ≡ map (λ byte. bit_xor c.args.pad byte) (filled_key c.args.hash c.args.key.now) =
    xored_all c.args.pad c.args.hash c.args.key.now c.loop-i.block c.loop-i.i c.loop-i.invariant.0 c.loop-i.invariant.1 c.loop-i.invariant.2 end c.requires in
    rw (c.block_len.ensures, whole) at (c.feed.ensures c.args.hash [] c.new-digester.ensures)
