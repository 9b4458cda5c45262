use Rattle.std.proofs.Common.{◌≡◌, length}
use Rattle.ossl_ordered.specs.Work.{AreFresh, AreReady}
use Rattle.ossl_ordered.proofs.player.players.Given as goal

-- the callers so far
abbrev pub invariant-loop-place : goal.invariant-loop-place
invariant-loop-place l = record {
  each : length l.players.items ≡ l.place;
  ready : AreReady l.players.items;
  work : AreFresh l.script.commands l.contents l.players.items;
}
