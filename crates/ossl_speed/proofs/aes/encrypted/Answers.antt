use Rattle.std.proofs.Common.{ap, refl, ◌∙◌, sym}
use Rattle.ossl_speed.specs.Aes.{repeated}
use Rattle.ossl_speed.proofs.Chains.{repeated_more}
use Rattle.ossl_speed.proofs.aes.encrypted.Goals as goal

pub loop-i-init : goal.loop-i-init
unfolding repeated
loop-i-init g c = refl

pub loop-i-preserved : goal.loop-i-preserved
loop-i-preserved g c =
    let f = g.C.Block.enc c.args.cipher.now in
    c.encrypt-next.ensures ∙ ap f c.loop-i.invariant ∙ sym (repeated_more f c.loop-i._i c.args.first)
