use Rattle.std.proofs.Common.{ℕ, List, ◌/◌, ◌++◌, length, length-append, ap, arith, ◌∙◌}
use Rattle.ossl_cmac.specs.Cmac.{chained}
use Rattle.ossl_cmac.proofs.Steps.{chained_twice}
use Rattle.ossl_cmac.proofs.mac.ChainBlockTaker16.take.Goals as goal

pub returns : goal.returns
returns g c =
    let chain = c.args.self.now in
    let xs = c.args.first.now in
    let ys = c.args.rest.now in
    let e = g.C.Block.enc chain.cipher in
    let value = c.chain_blocks-2.ensures ∙ ap (λ (v : List ℕ). chained e (length ys / 16) v ys) c.chain_blocks.ensures
    ∙ chained_twice e (length xs / 16) (length ys / 16) (length (xs ++ ys) / 16) chain.value xs ys (omega arith) (omega (arith, length-append xs ys)) in
    λ i. record { cipher = chain.cipher; value = value i }
