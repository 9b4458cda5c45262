use Rattle.std.proofs.Common.{Global, Vec}
use Rattle.ossl_script.specs.declared.caller.LineResult.{LineResult}
use Rattle.ossl_par.proofs.ResultsLaws.{ended_left, results_more}
use Rattle.ossl_par.proofs.running.results_of.Goals as goal

pub loop-script-preserved : goal.loop-script-preserved
loop-script-preserved c =
    let script = c.in-Some.script in
    let first = c.in-Some.ensures.steps.0 in
    record {
      ended = ended_left script _ _ first c.loop-script.invariant.ended;
      told = results_more (λ (rs : Vec LineResult Global). rs.items) c.loop-script.results.items c.push.new.self.items
          c.results.result script _ c.next.new.self.rest.items _ c.in_ok-push.ensures.items
          c.results.ensures.results first c.loop-script.invariant.told;
    }
