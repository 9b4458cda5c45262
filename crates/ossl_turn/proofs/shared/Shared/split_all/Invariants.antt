use Rattle.std.proofs.Common.{◌≡◌, ◌<◌, length, All, vec_capacity}
use Rattle.ossl_turn.specs.Passes.{CameFrom, AreNumbered, HasHistory, IsAfterSplits, IsFresh}
use Rattle.ossl_turn.proofs.shared.Shared.split_all.Given as goal

abbrev pub invariant-loop : goal.invariant-loop
invariant-loop g l = record {
  came : CameFrom l.self l.first;
  zero_number : l.first.number ≡ 0;
  made : l.first.made ≡ l.counter;
  stays : IsAfterSplits l.counter l.fn.first l.first;
  count : length l.passes.items ≡ l.counter;
  room : l.count < vec_capacity l.passes;
  all_came : All (CameFrom l.self) l.passes.items;
  numbered : AreNumbered l.passes.items;
  fresh : All (IsFresh l.fn.first) l.passes.items;
  lawful : All (HasHistory (g.O.Object.follows (g.O.Object.fixed l.self.origin))) l.passes.items;
  within : 0 < l.counter → All (λ e. e.caller ≡ 0) l.fn.first.seen;
}
