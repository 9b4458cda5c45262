use Rattle.std.proofs.Common.{◌≡◌, ◌≤◌, ◌++◌, length, map, vec_capacity}
use Rattle.ossl_turn.specs.Passes.{CameFrom}
use Rattle.turn_counter.specs.Adding.{HasAdded}
use Rattle.turn_counter.proofs.callers.add_often.Given as goal

abbrev pub invariant-loop : goal.invariant-loop
invariant-loop g l = record {
  came : CameFrom l.shared l.pass;
  number : l.pass.number ≡ l.fn.pass.number;
  made : l.pass.made ≡ l.fn.pass.made;
  count : length l.heard.items ≡ l.counter;
  room : l.times ≤ vec_capacity l.heard;
  heard : map (λ e. e.reply) l.pass.own ≡ map (λ e. e.reply) l.fn.pass.own ++ l.heard.items;
  added : HasAdded l.amount l.heard.items l.fn.pass l.pass;
}
