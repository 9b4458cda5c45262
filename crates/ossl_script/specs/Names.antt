-- The names that a caller at work keeps, against what they are bound to.
use Rattle.std.specs.Prelude.{◌≡◌, ℕ, ⊤, Option, Some, None, List, Vec, if◌then◌else◌}
use Rattle.std.specs.BTreeMap.{BTreeMap, get_by}
use Rattle.std.specs.Cmp.Lexicographic.{slice_cmp}
use Rattle.std.specs.Ordering.{nat_cmp}
use Rattle.std.specs.Str.{bytes_eq}
use Rattle.std.specs.declared.alloc.Global.{Global}
use Rattle.ossl_op.specs.Running.{Runs}
use Rattle.ossl_op.specs.Work.{Work}
use Rattle.ossl_script.specs.declared.bound.Bound.{Bound}
use Rattle.ossl_script.specs.declared.bound.Bound.TheVariants as kept
use Rattle.ossl_script.specs.Bindings.{Binding, Bindings, Operating}
use Rattle.ossl_script.specs.Bindings.Binding.{activation, method, running, finished}

abbrev pub Names : Type 0
Names = BTreeMap (Vec ℕ Global) Bound

-- what is kept at a name
abbrev pub bound_at : Names → List ℕ → Option Bound
bound_at names name = get_by (λ key. slice_cmp nat_cmp name key.items) names

-- at one name this is kept, or nothing, and at others what was kept before
abbrev pub Rebinds : Names → Names → List ℕ → Option Bound → Type 0
Rebinds old new name bound =
    (other : List ℕ) → bound_at new other ≡ (if bytes_eq name other then bound else bound_at old other)

-- an operation under way that gave this
abbrev pub work_of : Operating → List ℕ → Work
work_of operating given = record {
  code = operating.code;
  inner = operating.inner;
  params = operating.params;
  fed = operating.fed;
  given = given;
}

-- what is kept at a name stands for what the name is bound to
abbrev pub StandsFor : Option Bound → Option Binding → Type 0
StandsFor None None = ⊤
StandsFor (Some (kept.Activation token)) (Some (activation bound)) = token ≡ bound
StandsFor (Some (kept.Method one)) (Some (method bound)) = one ≡ bound
StandsFor (Some (kept.Running one)) (Some (running bound)) =
    (one.token ≡ bound.token) × Runs one.context (work_of bound one.given.items)
StandsFor (Some (kept.Finished token)) (Some (finished bound)) = token ≡ bound
StandsFor one bound = ⊥

-- all that is kept stands for all that is bound
pub record Agree (names : Names) (bindings : Bindings) : Type 0 where
  pub at : (name : List ℕ) → StandsFor (bound_at names name) (bindings name)
