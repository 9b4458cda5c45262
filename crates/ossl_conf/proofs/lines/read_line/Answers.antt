use Rattle.std.proofs.Common.{◌≡◌, ℕ, ◌+◌, List, [], ◌∷◌, ◌++◌, length, take, drop, true, false, ap, sym, subst, ◌∙◌, arith, length-drop}
use Rattle.ossl_conf.specs.Lines.{LogicalLine, is_joined, lines_at, lines_from, pieces, without_last, without_return}
use Rattle.ossl_conf.proofs.LineLaws.{lines_from-ended, lines_from-joined, lines_from-last}
use Rattle.ossl_conf.proofs.lines.read_line.Goals as goal

abbrev line_of : ℕ → List ℕ → LogicalLine
line_of number text = record { number = number; text = text }

pub returns-in_default-clause-read : goal.returns-in_default-clause-read
returns-in_default-clause-read c = λ number.
    let line = c.pieces.line.items in
    let rest = c.pieces.rest.now in
    let piece : c.without_return-piece.result.now ≡ without_return (take c.pieces.at rest) = c.without_return-piece.ensures in
    let whole : is_joined (without_return (take c.pieces.at rest)) ≡ false = subst (λ p. is_joined p ≡ false) piece c.in_default.ensures.cases in
    let text : line ++ without_return (take c.pieces.at rest) ≡ c.extend_from_slice.new.self.items =
    sym (c.in_ok-extend_from_slice.ensures.items ∙ ap (λ text. line ++ text) piece) in
    let count : (number + c.pieces.lines) + 1 ≡ number + (c.pieces.lines + 1) = omega arith in
    let behind : drop (c.pieces.at + 1) rest ≡ c.past-rest.result.now = sym c.past-rest.ensures in
    c.pieces.invariant.lines number
    ∙ lines_from-ended (line_of number line) (number + c.pieces.lines) c.pieces.at rest c.pieces.invariant.feed c.pieces-test.true whole
    ∙ (λ i. line_of number (text i) ∷ lines_at (count i) (behind i))

pub pieces-preserved : goal.pieces-preserved
pieces-preserved c =
    let line = c.pieces.line.items in
    let rest = c.pieces.rest.now in
    let piece : c.without_return-piece.result.now ≡ without_return (take c.pieces.at rest) = c.without_return-piece.ensures in
    let joined : is_joined (without_return (take c.pieces.at rest)) ≡ true = subst (λ p. is_joined p ≡ true) piece c.in-Some.ensures.cases.0 in
    let text : line ++ without_last (without_return (take c.pieces.at rest)) ≡ c.extend_from_slice-in-pieces.new.self.items =
    sym (c.in_ok-extend_from_slice-2.ensures.items ∙ ap (λ text. line ++ text) (c.in-Some.ensures.cases.1 ∙ ap without_last piece)) in
    let behind : drop (c.pieces.at + 1) rest ≡ c.past-rest.result.now = sym c.past-rest.ensures in
    record {
      feed = c.run_len-at-in-pieces.ensures.run;
      lines = λ number.
          let count : (number + c.pieces.lines) + 1 ≡ number + (c.pieces.lines + 1) = omega arith in
          c.pieces.invariant.lines number
          ∙ lines_from-joined (line_of number line) (number + c.pieces.lines) c.pieces.at rest c.pieces.invariant.feed c.pieces-test.true joined
          ∙ (λ i. lines_from (line_of number (text i)) (count i) (pieces (behind i)));
      count = omega (arith, c.pieces.invariant.count, c.pieces-test.true, ap length behind, length-drop (c.pieces.at + 1) rest);
    }

pub returns-clause-read : goal.returns-clause-read
returns-clause-read c = λ number.
    let line = c.pieces.line.items in
    c.pieces.invariant.lines number
    ∙ lines_from-last (line_of number line) (number + c.pieces.lines) c.pieces.rest.now (omega (arith, c.pieces.invariant.feed, c.pieces-test.false))
    ∙ ap (λ text. line_of number text ∷ []) (sym c.in_ok-extend_from_slice-3.ensures.items)
