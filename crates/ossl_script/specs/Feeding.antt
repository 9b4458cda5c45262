-- An operation context that is fed and finished, whatever work it runs.
use Rattle.std.specs.Prelude.{◌≡◌, ℕ, List, ◌++◌, Result}
use Rattle.ossl_op.specs.FinishRefused.{FinishRefused}
use Rattle.ossl_op.specs.declared.context.OpCtx.{OpCtx}
use Rattle.ossl_op.specs.Running.{Runs}
use Rattle.ossl_op.specs.Work.{Work, carried_on, result_of}

-- whatever work ran before, it runs on after these bytes and has given what came behind the old text
pub record Fed (before after : OpCtx) (bytes old new : List ℕ) : Type 0 where
  pub text : List ℕ
  pub appended : new ≡ old ++ text
  pub runs : (work : Work) → Runs before work → Runs after (carried_on work bytes text)

-- whatever work the context runs that gave this, its result is the standard's
abbrev pub Ends : OpCtx → List ℕ → Result (List ℕ) FinishRefused → Type 0
Ends context given result = (work : Work) → work.given ≡ given → Runs context work → result_of work ≡ result
