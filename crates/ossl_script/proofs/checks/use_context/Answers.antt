use Rattle.std.proofs.Common.{ℕ, List, None, Some, sym, ap, ◌∙◌}
use Rattle.ossl_script.specs.declared.bound.Bound.TheVariants as kept
use Rattle.ossl_script.specs.declared.checks.Halt.TheVariants.{Said}
use Rattle.ossl_script.specs.declared.outcome.Outcome.TheVariants as outcomes
use Rattle.ossl_script.specs.Course.{by_context, uses_context}
use Rattle.ossl_script.specs.Names.{Agree}
use Rattle.ossl_script.proofs.CheckLaws.{found_finished, found_running, halts, kept_at, no_context, nothing_there}
use Rattle.ossl_script.proofs.checks.use_context.Goals as goal

pub returns-in-Running : goal.returns-in-Running
returns-in-Running c = λ bindings go agree.
    found_running c.args.name.now bindings go c.in-Running.running (bindings c.args.name.now)
    (kept_at c.args.names.now c.as_slice.result.now c.args.name.now (Some (kept.Running c.in-Running.running)) c.as_slice.ensures.bytes
    (sym (ap Some c.in-Running.is) ∙ c.in-Some.ensures.value) bindings agree)

pub returns-in-Finished : goal.returns-in-Finished
returns-in-Finished c = λ bindings go agree.
    found_finished c.args.name.now bindings go c.in-Finished.token (bindings c.args.name.now)
    (kept_at c.args.names.now c.as_slice.result.now c.args.name.now (Some (kept.Finished c.in-Finished.token)) c.as_slice.ensures.bytes
    (sym (ap Some c.in-Finished.is) ∙ c.in-Some.ensures.value) bindings agree)

pub returns-in_ok-copy-in_default-bound : goal.returns-in_ok-copy-in_default-bound
returns-in_ok-copy-in_default-bound c =
    halts (Agree c.args.names.now) (uses_context c.args.name.now) c.wrong_kind.result (outcomes.WrongKind c.args.name.now)
    (c.wrong_kind.ensures ∙ ap (λ (name : List ℕ). Said (outcomes.WrongKind name)) c.in_ok-copy-in_default-bound.ensures.equal)
    (λ bindings go agree. no_context c.args.name.now bindings go c.in-Some.bound.now (bindings c.args.name.now) c.in_default-bound.not-Running c.in_default-bound.not-Finished
    (kept_at c.args.names.now c.as_slice.result.now c.args.name.now (Some c.in-Some.bound.now) c.as_slice.ensures.bytes
    c.in-Some.ensures.value bindings agree))

pub returns-in_default : goal.returns-in_default
returns-in_default c =
    halts (Agree c.args.names.now) (uses_context c.args.name.now) c.unknown.result (outcomes.UnknownName c.args.name.now)
    (c.unknown.ensures ∙ ap (λ (name : List ℕ). Said (outcomes.UnknownName name)) c.in_ok-copy.ensures.equal)
    (λ bindings go agree. ap (by_context c.args.name.now bindings go) (nothing_there (bindings c.args.name.now)
    (kept_at c.args.names.now c.as_slice.result.now c.args.name.now None c.as_slice.ensures.bytes
    c.in_default.ensures.value bindings agree)))
