-- An operation context that is fed a message, of whose text the last bytes are kept.
use Rattle.std.specs.Prelude.{◌≡◌, ℕ, List, [], ◌++◌, Option, Ok}
use Rattle.std.proofs.Common.{sym, subst}
use Rattle.std.proofs.lemmas.List.{append-nil, append_assoc}
use Rattle.ossl_codes.specs.declared.code.Code.{Code}
use Rattle.ossl_op.specs.declared.context.OpCtx.{OpCtx}
use Rattle.ossl_op.specs.declared.params.Params.{Params}
use Rattle.ossl_op.specs.Running.{Runs}
use Rattle.ossl_op.specs.Standard.{standard_result}
use Rattle.ossl_op.specs.Work.{Work, carried_on}
use Rattle.ossl_speed.specs.declared.algorithm.Algorithm.{Algorithm}
use Rattle.ossl_speed.specs.Operations.{code_of, inner_of}
use Rattle.ossl_speed.specs.Values.{last}

-- the bytes are the last of the standard's text of a message
abbrev pub IsEndOf : Code → Option Code → Params → List ℕ → List ℕ → Type 0
IsEndOf code inner params m end =
    (text : List ℕ) × (standard_result code inner params m ≡ Ok text) × (end ≡ last 64 text)

-- the context runs the work, and what is kept ends as all text given
abbrev pub Keeps : OpCtx → List ℕ → Work → Type 0
Keeps context kept work = Runs context work × (last 64 kept ≡ last 64 work.given)

-- whatever work the first ran, the second runs it after the bytes x
abbrev pub IsContextFed : OpCtx → List ℕ → List ℕ → OpCtx → List ℕ → Type 0
IsContextFed a out x b new = (work : Work) → Keeps a out work → (text : List ℕ) × Keeps b new (carried_on work x text)

pub context-nothing : (a : OpCtx) (out : List ℕ) → IsContextFed a out [] a out
context-nothing a out work was = (
  [],
  subst (Keeps a out)
      (λ i. record work { fed = sym (append-nil work.fed) i; given = sym (append-nil work.given) i }) was,
)

pub context-joined : (a b c : OpCtx) (old mid new x y : List ℕ) → IsContextFed a old x b mid
    → IsContextFed b mid y c new
    → IsContextFed a old (x ++ y) c new
context-joined a b c old mid new x y f g work was =
    let first = f work was in
    let second = g (carried_on work x first.0) first.1 in (
      first.0 ++ second.0,
      subst (Keeps c new)
          (λ i. record work { fed = append_assoc work.fed x y i; given = append_assoc work.given first.0 second.0 i })
          second.1,
    )

-- the bytes are the last of what the algorithm's operation gives of a message, with some parameters
abbrev pub GivesEnd : Algorithm → List ℕ → List ℕ → Type 0
GivesEnd algorithm m end = (params : Params) × IsEndOf (code_of algorithm) (inner_of algorithm) params m end
