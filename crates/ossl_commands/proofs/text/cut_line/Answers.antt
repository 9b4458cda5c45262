use Rattle.std.proofs.Common.{◌≡◌, ◌+◌, ◌<◌, ◌≤◌, [], ◌∷◌, length, get_or, drop, ap, sym, ◌∙◌, arith}
use Rattle.std.specs.Str.Lines.{lines, strip_carriage_return}
use Rattle.std.proofs.lemmas.Bool.{eqb-false, eqb-true}
use Rattle.std.proofs.lemmas.List.{drop_all, drop_more, take_all}
use Rattle.ossl_commands.proofs.TextLaws.{line_ended, line_last}
use Rattle.ossl_commands.proofs.text.cut_line.Goals as goal

pub returns-then-is_empty-clause-line : goal.returns-then-is_empty-clause-line
returns-then-is_empty-clause-line c =
    let left : length c.split_at-cut.result.1.now ≡ 0 = eqb-true _ _ (sym c.is_empty.ensures ∙ c.if-is_empty.true) in
    let long : length c.args.text.now ≤ c.line_len-end.result = omega (arith, left, c.split_at-cut.ensures.back_len) in
    let none : drop c.line_len-end.result c.args.text.now ≡ [] = drop_all _ _ long in
    line_last c.args.text.now c.requires (sym c.line_len-end.ensures.behind ∙ none) (sym c.line_len-end.ensures.line ∙ take_all _ _ long)
    ∙ sym (ap (λ rest. c.args.text.now ∷ lines rest) (c.split_at-cut.ensures.back ∙ none))

pub returns-clause-line : goal.returns-clause-line
returns-clause-line c =
    let left = eqb-false (length c.split_at-cut.result.1.now) 0 (sym c.is_empty.ensures ∙ c.if-is_empty.false) in
    let below : c.line_len-end.result < length c.args.text.now = omega (arith, left, c.split_at-cut.ensures.back_len) in
    line_ended c.args.text.now (get_or c.args.text.now c.line_len-end.result 0) (drop (c.line_len-end.result + 1) c.args.text.now)
    (sym c.line_len-end.ensures.behind ∙ drop_more c.args.text.now c.line_len-end.result 0 below)
    ∙ ap (λ line. line ∷ lines (drop (c.line_len-end.result + 1) c.args.text.now))
    (sym (c.without_return.ensures ∙ ap strip_carriage_return (c.split_at-cut.ensures.front ∙ c.line_len-end.ensures.line)))
    ∙ ap (λ rest. c.without_return.result.now ∷ lines rest) (sym c.split_at-behind.ensures.back)
