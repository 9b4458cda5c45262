use Rattle.std.proofs.Common.{rules, ◌≡◌, ◌+◌, [], ap, ◌∙◌, arith}
use Rattle.ossl_turn.specs.Kinds.{newcomer}
use Rattle.ossl_turn.specs.Passes.{PassFacts}
use Rattle.ossl_turn.proofs.Calls.{new_lawful}
use Rattle.ossl_turn.proofs.Keeps.{draws_number, splits}
use Rattle.ossl_turn.proofs.shared.Shared.split.Goals as goal

pub fetch_add-number-requires : goal.fetch_add-number-requires
fetch_add-number-requires g c = let free = c.first.invariant in let zero = ap (λ (z : PassFacts g.row.O-Call.Denot g.row.O-Reply.Denot g.row.O.Denot). z.number) c.first.view_is ∙ c.requires.first.0 in
    (search rules, search rules, draws_number _ _ _ _ _ _ _ free.1 free.2 zero free.3)

pub split_seat-seat-requires : goal.split_seat-seat-requires
split_seat-seat-requires g c = let free = c.first.invariant in let v = c.first.inside.seat.me.0 in let e = c.fetch_add-number.ensures.2.0 in
    let zero = ap (λ (z : PassFacts g.row.O-Call.Denot g.row.O-Reply.Denot g.row.O.Denot). z.number) c.first.view_is ∙ c.requires.first.0 in
    let made = ap (λ (z : PassFacts g.row.O-Call.Denot g.row.O-Reply.Denot g.row.O.Denot). z.made) c.first.view_is in
    let drawn : c.fetch_add-number.new.seat.me.0.drawn ≡ v.drawn + 1 = ap (λ m. m.0.drawn) e in let still : c.fetch_add-number.new.seat.me.0.made ≡ v.made = ap (λ m. m.0.made) e in
    let level : v.drawn ≡ v.made = free.3 in let few = c.requires.first.1 in let same : v.made ≡ c.args.first.now.made = made in
    (search rules, search rules, splits _ _ _ _ _ _ (ap (λ m. m.0.live) e ∙ free.1) (ap (λ m. m.0.stage) e ∙ free.2) (ap (λ m. m.0.claim.number) e ∙ zero) (omega arith) (omega arith))

pub returns-clause-lawful : goal.returns-clause-lawful
returns-clause-lawful g c = let o = g.O.Object in let drew = c.fetch_add-number.ensures.2 in
    new_lawful o.fixed o.follows c.split_seat-seat.result.table_id c.args.self.now.origin c.first.inside.seat.me.0 c.split_seat-seat.result.me
    (c.split_seat-seat.ensures.4 ∙ ap (λ z. (newcomer z.0, [])) drew.0)
    (ap (λ (z : PassFacts g.row.O-Call.Denot g.row.O-Reply.Denot g.row.O.Denot). z.origin) c.first.view_is ∙ c.requires.pass.1)
    drew.2 drew.3
