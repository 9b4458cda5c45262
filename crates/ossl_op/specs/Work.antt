-- An operation under way: what it computes, what came in, and what went out.
use Rattle.std.specs.Prelude.{◌≡◌, ◌⊎◌, ℕ, List, [], ◌++◌, Option, Result, Ok, Err}
use Rattle.ossl_codes.specs.declared.code.Code.{Code}
use Rattle.ossl_modes.specs.declared.kinds.FinishRefused.{FinishRefused}
use Rattle.ossl_modes.specs.declared.kinds.FinishRefused.TheVariants.{NoMemory}
use Rattle.ossl_op.specs.declared.params.Params.{Params}
use Rattle.ossl_op.specs.Standard.{standard_result, unchecked_text}

-- the code with its inner code and parameters, all bytes that the operation was fed, and all text that it has given,
-- joined
pub record Work : Type 0 where
  pub code : Code
  pub inner : Option Code
  pub params : Params
  pub fed : List ℕ
  pub given : List ℕ

-- the operation before any byte
abbrev pub begun : Code → Option Code → Params → Work
begun code inner params = record { code = code; inner = inner; params = params; fed = []; given = [] }

-- the operation after it was fed these bytes and gave this text
abbrev pub carried_on : Work → List ℕ → List ℕ → Work
carried_on work bytes text = record work { fed = work.fed ++ bytes; given = work.given ++ text }

-- the standard's result of all bytes fed
abbrev pub result_of : Work → Result (List ℕ) FinishRefused
result_of work = standard_result work.code work.inner work.params work.fed

-- the text without the last check, of all bytes fed
abbrev pub unchecked_of : Work → List ℕ
unchecked_of work = unchecked_text work.code work.params work.fed

-- the same two, where the bytes rest come yet
abbrev pub result_with : Work → List ℕ → Result (List ℕ) FinishRefused
result_with work rest = result_of (record work { fed = work.fed ++ rest })

abbrev pub unchecked_with : Work → List ℕ → List ℕ
unchecked_with work rest = unchecked_of (record work { fed = work.fed ++ rest })

-- what stood in a vector stands there still, and some text after it
abbrev pub Appends : List ℕ → List ℕ → Type 0
Appends old new = (text : List ℕ) × (new ≡ old ++ text)

-- the text begins with what was given
abbrev pub IsBeginning : List ℕ → List ℕ → Type 0
IsBeginning given text = (rest : List ℕ) × (given ++ rest ≡ text)

-- whatever work was run before, it is run after these bytes, and has given what was appended since
abbrev pub CarriesOn : (Work → Type 0) → (Work → Type 0) → List ℕ → List ℕ → List ℕ → Type 0
CarriesOn runs_before runs_after bytes old new =
    (work : Work) (text : List ℕ) → new ≡ old ++ text → runs_before work → runs_after (carried_on work bytes text)

-- whatever work was run, all text given, and what was appended since, is the standard's result of all bytes fed
abbrev pub EndsWell : (Work → Type 0) → List ℕ → List ℕ → Type 0
EndsWell runs old new =
    (work : Work) (text : List ℕ) → new ≡ old ++ text → runs work → result_of work ≡ Ok (work.given ++ text)

-- whatever work was run, the standard refuses all bytes fed with this refusal, or it is that of memory
abbrev pub EndsRefused : (Work → Type 0) → FinishRefused → Type 0
EndsRefused runs refusal = (work : Work) → runs work → (refusal ≡ NoMemory) ⊎ (result_of work ≡ Err refusal)

-- whatever work was run, all text given is a beginning of the text without the last check
abbrev pub GaveBeginning : (Work → Type 0) → Type 0
GaveBeginning runs = (work : Work) → runs work → IsBeginning work.given (unchecked_of work)
