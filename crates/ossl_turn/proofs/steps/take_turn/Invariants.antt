use Rattle.std.proofs.Common.{◌≡◌}
use Rattle.ossl_turn.specs.Kinds.{IsWaiting}
use Rattle.ossl_turn.proofs.steps.take_turn.Given as goal

abbrev pub invariant-loop : goal.invariant-loop
invariant-loop g l = (l.seat.table_id ≡ l.fn.seat.table_id) × (l.seat.id ≡ l.fn.seat.id) × IsWaiting l.fn.seat.me.0 l.ticket l.seat.me
