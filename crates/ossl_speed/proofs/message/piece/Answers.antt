use Rattle.std.proofs.Common.{◌≡◌, ◌%◌, ◌∷◌, [], ◌++◌, ◌∙◌, ap, sym, refl, rules, arith}
use Rattle.std.proofs.lemmas.List.{take_more_set, take_all}
use Rattle.ossl_speed.specs.Message.{message}
use Rattle.ossl_speed.proofs.Pieces.{message_more}
use Rattle.ossl_speed.proofs.message.piece.Goals as goal

pub loop-i-init : goal.loop-i-init
unfolding message
loop-i-init c = (search rules, refl)

pub loop-i-preserved : goal.loop-i-preserved
loop-i-preserved c =
    let i = c.loop-i.i in (
      search rules,
      take_more_set c.loop-i.bytes i (i % 256) (omega arith)
          ∙ ap (λ xs. xs ++ i % 256 ∷ []) c.loop-i.invariant.1 ∙ sym (message_more i),
    )

pub returns : goal.returns
returns c =
    let done : c.loop-i.i ≡ 16384 = omega arith in
    sym (take_all 16384 c.loop-i.bytes (omega arith)) ∙ rw done at c.loop-i.invariant.1
