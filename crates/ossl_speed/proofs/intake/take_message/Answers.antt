use Rattle.std.proofs.Common.{◌≡◌, ◌+◌, ◌*◌, ◌%◌, ◌++◌, List, ℕ, subst, ◌∙◌, ap, sym, arith}
use Rattle.ossl_speed.specs.Message.{message}
use Rattle.ossl_speed.proofs.Pieces.{message-add}
use Rattle.ossl_speed.proofs.Texts.{on_ok}
use Rattle.ossl_speed.proofs.intake.take_message.Goals as goal

pub loop-i-init : goal.loop-i-init
unfolding message
loop-i-init g c = g.met.I.Intake.nothing c.args.intake.now

pub loop-i-preserved : goal.loop-i-preserved
loop-i-preserved g c =
    let i = c.loop-i._i in
    let next : 16384 * i + 16384 ≡ 16384 * (i + 1) = omega arith in
    let grown : message (16384 * i) ++ c.args.piece.now ≡ message (16384 * (i + 1)) =
    ap (λ p. message (16384 * i) ++ p) c.requires ∙ sym (message-add (16384 * i) 16384 (omega arith)) ∙ ap message next in
    subst (λ (m : List ℕ). g.I.Intake.fed c.args.intake.now m c.take_piece.new.self) grown
    (g.met.I.Intake.joined c.args.intake.now c.loop-i.intake c.take_piece.new.self (message (16384 * i)) c.args.piece.now c.loop-i.invariant c.in_ok-take_piece.ensures)

pub returns : goal.returns
returns g c =
    let i = c.loop-i._i in
    let left = c.args.length % 16384 in
    let all : 16384 * i + left ≡ c.args.length = omega arith in
    let whole : message (16384 * i) ++ c.front.result.now ≡ message c.args.length =
    ap (λ p. message (16384 * i) ++ p) c.front.ensures.value ∙ sym (message-add (16384 * i) left (omega arith)) ∙ ap message all in
    on_ok c.take_piece-2.result
    (λ last. subst (λ (m : List ℕ). g.I.Intake.fed c.args.intake.now m c.take_piece-2.new.self) whole
    (g.met.I.Intake.joined c.args.intake.now c.loop-i.intake c.take_piece-2.new.self (message (16384 * i)) c.front.result.now c.loop-i.invariant last))
    c.take_piece-2.ensures
