use Rattle.std.proofs.Common.{refl}
use Rattle.ossl_codes.specs.declared.code.Bits.TheVariants.{B256}
use Rattle.ossl_op.proofs.BeginLaws.{aes_begun}
use Rattle.ossl_op.proofs.begin.begin_aes_256.Goals as goal

pub returns-clause-begun : goal.returns-clause-begun
returns-clause-begun c = λ inner.
    aes_begun _ B256 8 c.args.mode inner c.args.params.now refl c.mode_of.ensures.text c.mode_of.ensures.unchecked
