use Rattle.std.proofs.Common.{◌≡◌, [], ◌+◌, max, map, drop, ap, sym, ◌∙◌, arith}
use Rattle.std.specs.Prelude.{fold}
use Rattle.std.proofs.lemmas.List.{drop_all, drop_more}
use Rattle.ossl_commands.specs.Fits.{capped, declared_in}
use Rattle.ossl_commands.proofs.AmountLaws.{capped_greatest}
use Rattle.ossl_commands.proofs.amount.greatest_declared.Goals as goal

pub loop-line-preserved : goal.loop-line-preserved
loop-line-preserved c =
    let rest = map (declared_in c.args.lengths.now) (drop (c.loop-line.line-index + 1) c.args.lines.now) in
    record {
      amount =
          ap (λ m. capped (fold max m rest)) (c.max-most.ensures ∙ ap (λ n. max c.loop-line.most n) c.declared_in.ensures)
          ∙ capped_greatest c.loop-line.most (declared_in c.args.lengths.now c.line-item.result) rest
          ∙ ap (λ line. capped (fold max (max c.loop-line.most (declared_in c.args.lengths.now line)) rest)) c.line-item.is
          ∙ sym (ap (λ lines. capped (fold max c.loop-line.most (map (declared_in c.args.lengths.now) lines))) (drop_more c.args.lines.now c.loop-line.line-index c.line-item.result c.loop-line-test.true))
          ∙ c.loop-line.invariant.amount;
      small = omega (arith, c.loop-line.invariant.small, c.max-most.ensures, c.declared_in.ensures);
    }

pub returns : goal.returns
returns c =
    let none : drop c.loop-line.line-index c.args.lines.now ≡ [] = drop_all _ _ c.loop-line-test.false in
    let left : fold max c.loop-line.most (map (declared_in c.args.lengths.now) (drop c.loop-line.line-index c.args.lines.now)) ≡ c.loop-line.most =
    ap (λ lines. fold max c.loop-line.most (map (declared_in c.args.lengths.now) lines)) none
    in
    omega (arith, c.loop-line.invariant.amount, c.loop-line.invariant.small, left)
