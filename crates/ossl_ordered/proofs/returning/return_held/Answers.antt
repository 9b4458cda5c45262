use Rattle.std.proofs.Common.{sym}
use Rattle.std.proofs.lemmas.Bool.{true≢false}
use Rattle.ossl_calls.specs.Registry.{fixed_of, state_of}
use Rattle.ossl_ordered.proofs.ReturnLaws.{all_back, back_allowed, back_no_memory}
use Rattle.ossl_ordered.proofs.returning.return_held.Goals as goal

pub apply-requires : goal.apply-requires
apply-requires g c =
    let made = c.loop-call.invariant.made in
    let gives = rw c.in-Some.is at c.give_back.ensures.call in
    record {
      allowed = back_allowed c.args.desk.now.entries c.loop-call.desk.entries c.args.player.now c.loop-call.player made.0 made.1 c.loop-call.invariant.kept made.2 c.requires.giving
          (fixed_of g.P.Provider.facts c.loop-call.desk) c.loop-call.invariant.legal c.in-Some.call gives.1.0 gives.1.1;
    }

pub unreachable-requires : goal.unreachable-requires
unreachable-requires g c =
    let gives = rw c.in-Some.is at c.give_back.ensures.call in
    let ok = c.apply.ensures.no_memory (back_no_memory (state_of g.P.Provider.facts c.loop-call.desk) c.loop-call.player.work c.loop-call.player.work.given c.in-Some.call gives.1.0 gives.1.1) in
    true≢false (sym (rw c.in-Err.is at ok))

pub returns-clause-returned : goal.returns-clause-returned
returns-clause-returned g c =
    let made = c.loop-call.invariant.made in
    let gives = rw c.in_default.is at c.give_back.ensures.call in
    (made.0, made.1, all_back c.args.desk.now.entries c.loop-call.desk.entries c.args.player.now c.loop-call.player made.0 made.1 c.loop-call.invariant.kept made.2 c.requires.giving gives.1)
