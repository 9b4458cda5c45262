use Rattle.std.proofs.Common.{◌/◌, ◌++◌, length, length-append, ap, arith, ◌∙◌}
use Rattle.ossl_digests.specs.Md4.{registers_after}
use Rattle.ossl_digests.proofs.Blocks.{registers-twice}
use Rattle.ossl_digests.proofs.md4.RegistersBlockTaker64.take.Goals as goal

pub returns : goal.returns
returns c =
    let xs = c.args.first.now in
    let ys = c.args.rest.now in
    c.compress_all-2.ensures ∙ ap (λ h. registers_after h (length ys / 64) ys) c.compress_all.ensures
    ∙ registers-twice (length xs / 64) (length ys / 64) (length (xs ++ ys) / 64) c.args.self.now.0 xs ys (omega arith) (omega (arith, length-append xs ys))
