use Rattle.std.proofs.Common.{◌≡◌, ◌++◌, map}
use Rattle.ossl_crew.specs.Crew.{AreEnded}
use Rattle.ossl_script.specs.View.{printed_of}
use Rattle.ossl_par.proofs.running.results_of.Given as goal

-- the results of the callers so far, and the callers that are left
abbrev pub invariant-loop-script : goal.invariant-loop-script
invariant-loop-script l = record {
  ended : AreEnded l.script-iterator.rest.items;
  told : map (λ rs. rs.items) l.results.items ++ map printed_of l.script-iterator.rest.items
      ≡ map printed_of l.fn.scripts.items;
}
