use Rattle.std.proofs.Common.{◌≡◌, ◌<◌, All, length, ap, sym, ◌∙◌, subst}
use Rattle.ossl_turn.specs.Passes.{PassFacts, SharedFacts, Confirms}
use Rattle.ossl_turn.specs.History.{IsHistory}
use Rattle.ossl_turn.proofs.Passes.{all_came, ends}
use Rattle.ossl_turn.proofs.shared.Shared.close.Goals as goal

pub take_over-requires-clause-table : goal.take_over-requires-clause-table
take_over-requires-clause-table g c κs within =
    let came = all_came c.args.self _ _ c.take_first-first.result _ c.take_first-first.ensures.taken c.requires.from (ap (λ (z : SharedFacts g.row.O.Denot). z.of) (sym c.self.view_is)) in
    (ap (λ (z : PassFacts g.row.O-Call.Denot g.row.O-Reply.Denot g.row.O.Denot). z.of) c.first.view_is ∙ came.0, c.self.invariant.0)

pub take_over-requires-clause-others : goal.take_over-requires-clause-others
take_over-requires-clause-others g c κs within =
    (all_came c.args.self _ _ c.take_first-first.result _ c.take_first-first.ensures.taken c.requires.from (ap (λ (z : SharedFacts g.row.O.Denot). z.of) (sym c.self.view_is))).1

pub close_with-closed-requires : goal.close_with-closed-requires
close_with-closed-requires g c =
    let came = all_came c.args.self _ _ c.take_first-first.result _ c.take_first-first.ensures.taken c.requires.from (ap (λ (z : SharedFacts g.row.O.Denot). z.of) (sym c.self.view_is)) in
    c.take_over.ensures.table.0 ∙ (ap (λ (z : PassFacts g.row.O-Call.Denot g.row.O-Reply.Denot g.row.O.Denot). z.of) c.first.view_is ∙ came.0)

module _ (g : _) (c : goal.After-free g) where
  whole : (g.O.Object.fixed c.take-object.result ≡ g.O.Object.fixed c.self.inside.table.shared.key.value) × All (Confirms (g.O.Object.history c.take-object.result)) c.args.passes.items
      × All (λ e. e.caller < length c.args.passes.items) (g.O.Object.history c.take-object.result) × IsHistory (g.O.Object.follows (g.O.Object.fixed c.self.inside.table.shared.key.value)) (g.O.Object.history c.take-object.result)
  whole = let o = g.O.Object in ends o.history o.fixed o.follows _ _ c.first.inside.seat.table_id _ c.first.inside.number c.first.inside.made c.first.inside.seat.me c.args.passes.items c.take_first-first.new.passes.items c.take_first-first.result _ _ c.take-object.result
      c.requires.all c.take_first-first.ensures.taken c.take_first-first.ensures.number c.first.invariant c.first.view_is (ap (λ m. m.0) c.take_over.ensures.taken) c.close_with-closed.ensures.values.2 c.take-object.ensures.value

  same_fixed : g.O.Object.fixed c.self.inside.table.shared.key.value ≡ g.O.Object.fixed c.args.self.origin
  same_fixed = ap (λ (z : SharedFacts g.row.O.Denot). g.O.Object.fixed z.origin) c.self.view_is

pub returns-clause-fixed : goal.returns-clause-fixed
returns-clause-fixed g c = (whole g c).0 ∙ same_fixed g c

pub returns-clause-confirmed : goal.returns-clause-confirmed
returns-clause-confirmed g c = (whole g c).1

pub returns-clause-within : goal.returns-clause-within
returns-clause-within g c = (whole g c).2

pub returns-clause-lawful : goal.returns-clause-lawful
returns-clause-lawful g c = subst (λ z. IsHistory (g.O.Object.follows z) (g.O.Object.history c.take-object.result)) (same_fixed g c) (whole g c).3
