use Rattle.std.proofs.Common.{◌≡◌, ◌+◌, ◌≤◌, take}
use Rattle.std.specs.Prelude.{count_by}
use Rattle.std.specs.List.{list_any}
use Rattle.ossl_property.specs.Choosing.{counts, refuses}
use Rattle.ossl_property.proofs.scoring.score.Given as goal

-- what the clauses so far count and refuse, and a step for each
abbrev pub invariant-loop-clause : goal.invariant-loop-clause
invariant-loop-clause g l = record {
  met : l.met ≡ count_by (counts l.fn.definition) (take l.clause-index l.clause-items);
  is_refused : l.is_refused ≡ list_any (refuses l.fn.definition) (take l.clause-index l.clause-items);
  steps : l.steps ≡ l.fn.steps + l.clause-index;
  few : l.met ≤ l.clause-index;
}
