use Rattle.std.proofs.Common.{◌≡◌, [], ◌∷◌, ◌++◌, All, ap, ◌∙◌, subst, arith, append_assoc}
use Rattle.ossl_turn.specs.Passes.{PassFacts, claim_seen}
use Rattle.ossl_turn.proofs.Views.{all_middle}
use Rattle.ossl_turn.proofs.Keeps.{joins}
use Rattle.ossl_turn.proofs.Calls.{joined_more}
use Rattle.ossl_turn.proofs.returned.take_over.Goals as goal

pub join_seat-requires : goal.join_seat-requires
join_seat-requires g c = let w = c.loop-pass.invariant in let free = c.requires.first in let other = c.pass.invariant in let e = w.2.2 in
    let all : All (λ (p : PassFacts g.row.O-Call.Denot g.row.O-Reply.Denot g.row.O.Denot). p.of ≡ c.args.table.now.table_id) ((c.pop.new.self.items ++ c.in-Some.pass ∷ []) ++ w.2.0) =
    subst (All (λ (p : PassFacts g.row.O-Call.Denot g.row.O-Reply.Denot g.row.O.Denot). p.of ≡ c.args.table.now.table_id)) (w.2.1 ∙ ap (λ l. l ++ w.2.0) c.in-Some.ensures.items) c.requires.others in (
      w.0 ∙ c.requires.table.0,
      ap (λ (z : PassFacts g.row.O-Call.Denot g.row.O-Reply.Denot g.row.O.Denot). z.of) c.pass.view_is ∙ all_middle (λ (p : PassFacts g.row.O-Call.Denot g.row.O-Reply.Denot g.row.O.Denot). p.of ≡ c.args.table.now.table_id) _ _ _ all,
      other.0,
      omega (arith, c.requires.table.1),
      joins _ _ _ _ _ _ _ _ (ap (λ m. m.0.live) e ∙ free.1) (ap (λ m. m.0.stage) e ∙ free.2) (ap (λ m. m.0.claim.number) e ∙ free.4) other.1 other.2,
    )

pub loop-pass-preserved : goal.loop-pass-preserved
loop-pass-preserved g c = let w = c.loop-pass.invariant in let e = c.join_seat.ensures in (
  e.0 ∙ w.0,
  e.1 ∙ w.1,
  (
    c.in-Some.pass ∷ w.2.0,
    w.2.1 ∙ (ap (λ l. l ++ w.2.0) c.in-Some.ensures.items ∙ append_assoc c.pop.new.self.items (c.in-Some.pass ∷ []) w.2.0),
    joined_more c.args.seat.now.me.0 c.pass.inside.seat.me.0 w.2.0 c.in-Some.pass c.loop-pass.seat.me c.join_seat.new.seat.me c.args.seat.now.me.1 w.2.2
        (ap (λ (z : PassFacts g.row.O-Call.Denot g.row.O-Reply.Denot g.row.O.Denot). claim_seen z) c.pass.view_is) e.2,
  ),
)
