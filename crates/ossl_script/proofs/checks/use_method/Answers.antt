use Rattle.std.proofs.Common.{ℕ, List, None, Some, sym, ap, ◌∙◌}
use Rattle.ossl_script.specs.declared.bound.Bound.TheVariants as kept
use Rattle.ossl_script.specs.declared.checks.Halt.TheVariants.{Said}
use Rattle.ossl_script.specs.declared.outcome.Outcome.TheVariants as outcomes
use Rattle.ossl_script.specs.Course.{by_method, uses_method}
use Rattle.ossl_script.specs.Names.{Agree}
use Rattle.ossl_script.proofs.CheckLaws.{found_method, halts, kept_at, no_method, nothing_there}
use Rattle.ossl_script.proofs.checks.use_method.Goals as goal

pub returns-in-Method : goal.returns-in-Method
returns-in-Method c = λ bindings go agree.
    found_method c.args.name.now bindings go c.in-Method.method (bindings c.args.name.now)
    (kept_at c.args.names.now c.as_slice.result.now c.args.name.now (Some (kept.Method c.in-Method.method)) c.as_slice.ensures.bytes
    (sym (ap Some c.in-Method.is) ∙ c.in-Some.ensures.value) bindings agree)

pub returns-in_ok-copy-in_default-bound : goal.returns-in_ok-copy-in_default-bound
returns-in_ok-copy-in_default-bound c =
    halts (Agree c.args.names.now) (uses_method c.args.name.now) c.wrong_kind.result (outcomes.WrongKind c.args.name.now)
    (c.wrong_kind.ensures ∙ ap (λ (name : List ℕ). Said (outcomes.WrongKind name)) c.in_ok-copy-in_default-bound.ensures.equal)
    (λ bindings go agree. no_method c.args.name.now bindings go c.in-Some.bound.now (bindings c.args.name.now) c.in_default-bound.not-Method
    (kept_at c.args.names.now c.as_slice.result.now c.args.name.now (Some c.in-Some.bound.now) c.as_slice.ensures.bytes
    c.in-Some.ensures.value bindings agree))

pub returns-in_default : goal.returns-in_default
returns-in_default c =
    halts (Agree c.args.names.now) (uses_method c.args.name.now) c.unknown.result (outcomes.UnknownName c.args.name.now)
    (c.unknown.ensures ∙ ap (λ (name : List ℕ). Said (outcomes.UnknownName name)) c.in_ok-copy.ensures.equal)
    (λ bindings go agree. ap (by_method c.args.name.now bindings go) (nothing_there (bindings c.args.name.now)
    (kept_at c.args.names.now c.as_slice.result.now c.args.name.now None c.as_slice.ensures.bytes
    c.in_default.ensures.value bindings agree)))
