use Rattle.std.proofs.Common.{max, drop, ◌++◌, ◌+◌, ap, sym, ◌∙◌, arith}
use Rattle.std.specs.Prelude.{fold, flat_map}
use Rattle.std.proofs.lemmas.List.{drop_more}
use Rattle.std.proofs.lemmas.List.Sums.{fold-append}
use Rattle.ossl_commands.specs.Counts.{libs_in}
use Rattle.ossl_commands.proofs.AmountLaws.{greatest_more}
use Rattle.ossl_commands.proofs.amount.contexts.Goals as goal

pub loop-line-preserved : goal.loop-line-preserved
loop-line-preserved c =
    let rest = flat_map (λ line. libs_in line.command) (drop (c.loop-line.line-index + 1) c.args.lines.now) in
    record {
      greatest =
          ap (λ m. fold max m rest) (c.max-most.ensures ∙ ap (λ n. max c.loop-line.most n) c.greatest_lib.ensures)
          ∙ greatest_more c.loop-line.most (libs_in c.line-item.result.command) rest
          ∙ sym (fold-append max c.loop-line.most (libs_in c.line-item.result.command) rest)
          ∙ ap (λ line. fold max c.loop-line.most (libs_in line.command ++ rest)) c.line-item.is
          ∙ sym (ap (λ lines. fold max c.loop-line.most (flat_map (λ line. libs_in line.command) lines)) (drop_more c.args.lines.now c.loop-line.line-index c.line-item.result c.loop-line-test.true))
          ∙ c.loop-line.invariant.greatest;
      small = omega (arith, c.loop-line.invariant.small, c.max-most.ensures, c.greatest_lib.type_inv);
    }

pub overflow_add-result : goal.overflow_add-result
overflow_add-result c = omega (arith, c.loop-line.invariant.small, c.from.ensures)
