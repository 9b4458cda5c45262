use Rattle.std.proofs.Common.{◌≡◌, [], map, drop, ap, arith}
use Rattle.std.specs.Prelude.{sum}
use Rattle.std.proofs.lemmas.List.{drop_all}
use Rattle.ossl_commands.specs.Fits.{declared_in}
use Rattle.ossl_commands.proofs.amount.total_declared.Goals as goal

pub returns : goal.returns
returns c =
    let none : drop c.loop-line.line-index c.args.lines.now ≡ [] = drop_all _ _ c.loop-line-test.false in
    let left : sum (map (declared_in c.args.lengths.now) (drop c.loop-line.line-index c.args.lines.now)) ≡ 0 = ap (λ lines. sum (map (declared_in c.args.lengths.now) lines)) none in
    omega (arith, c.loop-line.invariant.amount, c.loop-line.invariant.small, left)
