use Rattle.std.proofs.Common.{◌≡◌, length}
use Rattle.ossl_crew.specs.Crew.{AreScripts}
use Rattle.ossl_crew.proofs.crew.scripts.Given as goal

-- the scripts so far
abbrev pub invariant-loop-place : goal.invariant-loop-place
invariant-loop-place l = record {
  each : length l.scripts.items ≡ l.place;
  scripts : AreScripts (record { lines = l.script.commands; contents = l.contents }) l.scripts.items;
}
