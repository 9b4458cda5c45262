use Rattle.std.proofs.Common.{ℕ, List, None, Some, sym, ap, ◌∙◌}
use Rattle.ossl_script.specs.declared.bound.Bound.TheVariants as kept
use Rattle.ossl_script.specs.declared.checks.Halt.TheVariants.{Said}
use Rattle.ossl_script.specs.declared.outcome.Outcome.TheVariants as outcomes
use Rattle.ossl_script.specs.Course.{by_activation, uses_activation}
use Rattle.ossl_script.specs.Course.Course.{said}
use Rattle.ossl_script.specs.Names.{Agree}
use Rattle.ossl_script.proofs.CheckLaws.{found_activation, halts, kept_at, no_activation, nothing_there}
use Rattle.ossl_script.proofs.checks.use_activation.Goals as goal

pub returns-in-Activation : goal.returns-in-Activation
returns-in-Activation c = λ bindings go agree.
    found_activation c.args.name.now bindings go c.in-Activation.token (bindings c.args.name.now)
    (kept_at c.args.names.now c.as_slice.result.now c.args.name.now (Some (kept.Activation c.in-Activation.token)) c.as_slice.ensures.bytes
    (sym (ap Some c.in-Activation.is) ∙ c.in-Some.ensures.value) bindings agree)

pub returns-in_ok-copy-in_default-bound : goal.returns-in_ok-copy-in_default-bound
returns-in_ok-copy-in_default-bound c =
    halts (Agree c.args.names.now) (uses_activation c.args.name.now) c.wrong_kind.result (outcomes.WrongKind c.args.name.now)
    (c.wrong_kind.ensures ∙ ap (λ (name : List ℕ). Said (outcomes.WrongKind name)) c.in_ok-copy-in_default-bound.ensures.equal)
    (λ bindings go agree. no_activation c.args.name.now bindings go c.in-Some.bound.now (bindings c.args.name.now) c.in_default-bound.not-Activation
    (kept_at c.args.names.now c.as_slice.result.now c.args.name.now (Some c.in-Some.bound.now) c.as_slice.ensures.bytes
    c.in-Some.ensures.value bindings agree))

pub returns-in_default : goal.returns-in_default
returns-in_default c = λ bindings go agree.
    ap (by_activation c.args.name.now bindings go) (nothing_there (bindings c.args.name.now)
    (kept_at c.args.names.now c.as_slice.result.now c.args.name.now None c.as_slice.ensures.bytes
    c.in_default.ensures.value bindings agree))
    ∙ ap (λ (name : List ℕ). said (outcomes.NotLoaded name) bindings) (sym c.in_ok-copy.ensures.equal)
