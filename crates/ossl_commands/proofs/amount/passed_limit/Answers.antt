use Rattle.std.proofs.Common.{ap, sym, ◌∙◌}
use Rattle.std.specs.Prelude.{is_some}
use Rattle.ossl_commands.proofs.AmountLaws.{file_passed, whole_passed}
use Rattle.ossl_commands.proofs.amount.passed_limit.Goals as goal

pub returns-then-is_file_passed : goal.returns-then-is_file_passed
returns-then-is_file_passed c = record {
  limit = sym (file_passed c.args.all c.args.lines.now c.args.lengths.now
      (ap is_some (sym c.passed-by_text.ensures) ∙ sym c.is_some.ensures ∙ c.if-is_some.false)
      (sym c.is_file_passed.ensures ∙ c.if-is_file_passed.true));
}

pub returns : goal.returns
returns c = record {
  limit = c.passed.ensures ∙ sym (whole_passed c.args.all c.args.lines.now c.args.lengths.now
      (ap is_some (sym c.passed-by_text.ensures) ∙ sym c.is_some.ensures ∙ c.if-is_some.false)
      (sym c.is_file_passed.ensures ∙ c.if-is_file_passed.false));
}
