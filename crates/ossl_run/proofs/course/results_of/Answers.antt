use Rattle.std.proofs.Common.{Global, Vec}
use Rattle.ossl_script.specs.declared.caller.LineResult.{LineResult}
use Rattle.ossl_run.proofs.CallerLaws.{ended_left, results_more}
use Rattle.ossl_run.proofs.course.results_of.Goals as goal

pub loop-player-preserved-in_ok-push : goal.loop-player-preserved-in_ok-push
loop-player-preserved-in_ok-push c =
    let player = c.in-Some.player in
    let first = c.in-Some.ensures.steps.0 in
    record {
      ended = ended_left player _ _ first c.loop-player.invariant.ended;
      told = results_more (λ (rs : Vec LineResult Global). rs.items) c.loop-player.results.items c.push.new.self.items
          c.results.result player _ c.next.new.self.rest.items _ c.in_ok-push.ensures.items
          c.results.ensures.results first c.loop-player.invariant.told;
    }

pub loop-player-preserved-in_ok-push-2 : goal.loop-player-preserved-in_ok-push-2
loop-player-preserved-in_ok-push-2 c =
    let player = c.in-Some.player in
    let first = c.in-Some.ensures.steps.0 in
    record {
      ended = ended_left player _ _ first c.loop-player.invariant.ended;
      told = results_more (λ (rs : Vec LineResult Global). rs.items) c.loop-player.results.items c.push.new.self.items
          c.results.result player _ c.next.new.self.rest.items _ c.in_ok-push.ensures.items
          c.results.ensures.results first c.loop-player.invariant.told;
    }

pub loop-player-preserved-in_ok-push-3 : goal.loop-player-preserved-in_ok-push-3
loop-player-preserved-in_ok-push-3 c =
    let player = c.in-Some.player in
    let first = c.in-Some.ensures.steps.0 in
    record {
      ended = ended_left player _ _ first c.loop-player.invariant.ended;
      told = results_more (λ (rs : Vec LineResult Global). rs.items) c.loop-player.results.items c.push.new.self.items
          c.results.result player _ c.next.new.self.rest.items _ c.in_ok-push.ensures.items
          c.results.ensures.results first c.loop-player.invariant.told;
    }

pub loop-player-preserved-in_ok-push-4 : goal.loop-player-preserved-in_ok-push-4
loop-player-preserved-in_ok-push-4 c =
    let player = c.in-Some.player in
    let first = c.in-Some.ensures.steps.0 in
    record {
      ended = ended_left player _ _ first c.loop-player.invariant.ended;
      told = results_more (λ (rs : Vec LineResult Global). rs.items) c.loop-player.results.items c.push.new.self.items
          c.results.result player _ c.next.new.self.rest.items _ c.in_ok-push.ensures.items
          c.results.ensures.results first c.loop-player.invariant.told;
    }

pub loop-player-preserved : goal.loop-player-preserved
loop-player-preserved c =
    let player = c.in-Some.player in
    let first = c.in-Some.ensures.steps.0 in
    record {
      ended = ended_left player _ _ first c.loop-player.invariant.ended;
      told = results_more (λ (rs : Vec LineResult Global). rs.items) c.loop-player.results.items c.push.new.self.items
          c.results.result player _ c.next.new.self.rest.items _ c.in_ok-push.ensures.items
          c.results.ensures.results first c.loop-player.invariant.told;
    }
