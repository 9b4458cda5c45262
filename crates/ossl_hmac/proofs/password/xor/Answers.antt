use Rattle.std.proofs.Common.{◌∙◌, sym, arith}
use Rattle.ossl_hmac.proofs.Derivation.{xored_more, xored_end}
use Rattle.ossl_hmac.proofs.password.xor.Goals as goal

pub loop-i-preserved : goal.loop-i-preserved
loop-i-preserved c = c.loop-i.invariant ∙ xored_more c.loop-i.sum c.args.code.now c.loop-i.i (omega arith) (omega arith)

pub returns : goal.returns
returns c = sym (c.loop-i.invariant ∙ xored_end c.loop-i.sum c.args.code.now c.loop-i.i (omega arith))
