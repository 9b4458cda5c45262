use Rattle.std.proofs.Common.{◌∙◌}
use Rattle.ossl_digests.specs.Holds.{HoldsMd4}
use Rattle.ossl_digests.proofs.Blocks.{digest_of_held}
use Rattle.ossl_digests.proofs.digester.State.finish.Goals as goal

pub returns-in-Md4 : goal.returns-in-Md4
returns-in-Md4 c = λ fed held.
    let was_fed : HoldsMd4 c.in-Md4.s fed = rw c.in-Md4.is at held in
    rw c.in-Md4.is (c.of-in-Md4.ensures ∙ digest_of_held c.in-Md4.s fed _ was_fed c.finish.ensures)
