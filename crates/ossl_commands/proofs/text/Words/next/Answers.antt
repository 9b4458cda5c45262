use Rattle.std.proofs.Common.{◌≡◌, ◌<◌, ◌∷◌, length, ap, sym, ◌∙◌, arith}
use Rattle.std.proofs.lemmas.Bool.{eqb-false, eqb-true}
use Rattle.ossl_property.specs.Bytes.{past}
use Rattle.ossl_commands.specs.Lines.{is_within_word, words_of}
use Rattle.ossl_commands.proofs.TextLaws.{first_word, no_words}
use Rattle.ossl_commands.proofs.text.Words.next.Goals as goal

pub returns-then-is_empty : goal.returns-then-is_empty
returns-then-is_empty c =
    let none : length c.past_blanks-text.result.now ≡ 0 = eqb-true _ _ (sym c.is_empty.ensures ∙ c.if-is_empty.true) in
    record { word = rw (← c.self.view_is) (no_words c.self.inside.text.now _ (sym c.past_blanks-text.ensures) none) }

pub returns : goal.returns
returns c =
    let other = eqb-false (length c.past_blanks-text.result.now) 0 (sym c.is_empty.ensures ∙ c.if-is_empty.false) in
    let some : 0 < length c.past_blanks-text.result.now = omega (arith, other) in
    record {
      word = rw (← c.self.view_is) (
          first_word c.self.inside.text.now _ (sym c.past_blanks-text.ensures) some
          ∙ ap (λ word. word ∷ words_of (past is_within_word c.past_blanks-text.result.now)) (sym (c.split_at.ensures.front ∙ c.word_len.ensures.word))
          ∙ ap (λ rest. c.split_at.result.0.now ∷ words_of rest) (sym (c.split_at.ensures.back ∙ c.word_len.ensures.behind)));
    }
