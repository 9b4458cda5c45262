use Rattle.std.proofs.Common.{◌≡◌, sym, ◌∙◌, position, ◌==◌, Some, ◌∷◌, IsPermutation}
use Rattle.ossl_turn.specs.Passes.{PassFacts}
use Rattle.ossl_turn.proofs.Passes.{some_first, first_taken}
use Rattle.ossl_turn.proofs.returned.take_first.Goals as goal

pub unreachable-requires : goal.unreachable-requires
unreachable-requires g c = some_first c.args.passes.now.items c.requires (rw (← c.as_slice.ensures.value) (sym c.find_first.ensures ∙ c.in_default.is))

both : (g : _) (c : goal.After-swap_remove g) → (c.swap_remove.result.number ≡ 0) × IsPermutation c.args.passes.now.items (c.swap_remove.result ∷ c.swap_remove.new.self.items)
both g c = let e = c.swap_remove.ensures in
    let found : position (λ (q : PassFacts g.row.O-Call.Denot g.row.O-Reply.Denot g.row.O.Denot). q.number == 0) c.args.passes.now.items ≡ Some c.in-Some.i = rw (← c.as_slice.ensures.value) (sym c.find_first.ensures ∙ c.in-Some.is) in
    first_taken _ _ c.in-Some.i c.swap_remove.result found e.value e.items

pub returns-clause-number : goal.returns-clause-number
returns-clause-number g c = (both g c).0

pub returns-clause-taken : goal.returns-clause-taken
returns-clause-taken g c = (both g c).1
