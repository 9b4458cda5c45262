use Rattle.std.proofs.Common.{◌≡◌, [], drop, ap, arith}
use Rattle.std.specs.Prelude.{sum_by}
use Rattle.std.proofs.lemmas.List.{drop_all}
use Rattle.ossl_commands.specs.Counts.{arguments_in}
use Rattle.ossl_commands.specs.Fits.{declared_by}
use Rattle.ossl_commands.proofs.amount.declared_in.Goals as goal

pub returns : goal.returns
returns c =
    let none : drop c.loop-argument.argument-index c.arguments-argument-items.result.now ≡ [] = drop_all _ _ c.loop-argument-test.false in
    let left : sum_by (declared_by c.args.lengths.now) (drop c.loop-argument.argument-index c.arguments-argument-items.result.now) ≡ 0 = ap (sum_by (declared_by c.args.lengths.now)) none in
    let all : sum_by (declared_by c.args.lengths.now) c.arguments-argument-items.result.now ≡ sum_by (declared_by c.args.lengths.now) (arguments_in c.args.line.now.command) =
    ap (sum_by (declared_by c.args.lengths.now)) c.arguments-argument-items.ensures.arguments
    in
    omega (arith, c.loop-argument.invariant.amount, c.loop-argument.invariant.small, left, all)
