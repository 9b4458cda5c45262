-- Where commands stand while their calls wait, and the courses behind the replies.
use Rattle.std.specs.Prelude.{◌≡◌, ℕ, ⊤, Option, Some, None, Result, Ok, Err, List, [], ◌∷◌}
use Rattle.std.specs.declared.alloc.AllocError.{AllocError}
use Rattle.ossl_commands.specs.declared.command.Command.{Command}
use Rattle.ossl_codes.specs.declared.code.Code.{Code}
use Rattle.ossl_op.specs.declared.params.BeginRefused.{BeginRefused}
use Rattle.ossl_op.specs.declared.params.Params.{Params}
use Rattle.ossl_state.specs.declared.call.Call.{Call}
use Rattle.ossl_state.specs.declared.call.Reply.{Reply}
use Rattle.ossl_script.specs.declared.stage.Asking.{Asking}
use Rattle.ossl_script.specs.declared.stage.Course.{Course as Left}
use Rattle.ossl_script.specs.declared.stage.Course.TheVariants as left
use Rattle.ossl_script.specs.declared.stage.Asked.{Asked}
use Rattle.ossl_script.specs.declared.stage.Stage.{Stage}
use Rattle.ossl_script.specs.declared.stage.Stage.TheVariants as stages
use Rattle.ossl_script.specs.declared.stage.Unfreed.{Unfreed}
use Rattle.ossl_script.specs.declared.stage.Unfreed.TheVariants.{Nothing, One, Two}
use Rattle.ossl_script.specs.declared.checks.Halt.{Halt}
use Rattle.ossl_script.specs.declared.checks.Halt.TheVariants.{Said, NoMemory}
use Rattle.ossl_script.specs.declared.bound.Bound.TheVariants as kept
use Rattle.ossl_script.specs.declared.bound.Running.{Running}
use Rattle.ossl_script.specs.declared.outcome.Outcome.{Outcome}
use Rattle.ossl_script.specs.Bindings.{Bindings, Method, Operating}
use Rattle.ossl_script.specs.Commands.{after_call, after_fetch, after_giving, after_load, after_open, after_up_ref}
use Rattle.ossl_script.specs.Commands.{course_of}
use Rattle.ossl_script.specs.Course.{Course, uses_running}
use Rattle.ossl_script.specs.Course.Course.{ask, said}
use Rattle.ossl_script.specs.Given.{content_by}
use Rattle.ossl_script.specs.Names.{Agree, Names, Rebinds, bound_at}
use Rattle.ossl_script.specs.Whole as whole
use Rattle.ossl_script.specs.Whole.{Whole, begun, freed}

-- a whole operation on these bytes, where this is bound
abbrev pub whole_of : List ℕ → Bindings → Asked → Whole
whole_of fed bindings request =
    record { options = request.options; query = request.query; fed = fed; bindings = bindings }

abbrev pub tokens_in : Unfreed → List ℕ
tokens_in Nothing = []
tokens_in (One token) = token ∷ []
tokens_in (Two first last) = first ∷ last ∷ []

-- the course behind the reply to the call that waits, of a command that is given these bytes
abbrev pub after : List ℕ → Bindings → Stage → Reply → Course
after fed bindings (stages.Load name) reply = after_load name bindings reply
after fed bindings (stages.Fetch name) reply = after_fetch name bindings reply
after fed bindings (stages.UpRef name code) reply = after_up_ref name code bindings reply
after fed bindings (stages.Open name code inner params) reply =
    after_open name (λ n. record { token = n; code = code; inner = inner; params = params; fed = [] }) bindings reply
after fed bindings (stages.GiveBack name) reply = after_giving name bindings reply
after fed bindings stages.Unbound reply = after_call bindings reply
after fed bindings (stages.Method request) reply = whole.after_fetch (whole_of fed bindings request) reply
after fed bindings (stages.Inner request provider used) reply =
    whole.after_inner (whole_of fed bindings request) provider used reply
after fed bindings (stages.Context request provider used inner) reply =
    whole.after_context (whole_of fed bindings request) provider used inner reply
after fed bindings (stages.Ending unfreed outcome) reply = freed (tokens_in unfreed) outcome bindings

-- the course that is meant, of a command that is given these bytes, where this is bound
abbrev pub meant : List ℕ → Bindings → Left → Course
meant fed bindings (left.Asks asking) = ask asking.call (after fed bindings asking.stage)
meant fed bindings (left.Said outcome) = said outcome bindings

-- whatever is bound by what is kept, a check lets a command go on with this, or halts it
abbrev pub Checks : {A : Type 0} → (Bindings → Type 0) → Result A Halt → (Bindings → (A → Course) → Course) → Type 0
Checks {A} IsBound (Ok found) check =
    (bindings : Bindings) (go : A → Course) → IsBound bindings → check bindings go ≡ go found
Checks {A} IsBound (Err (Said outcome)) check =
    (bindings : Bindings) (go : A → Course) → IsBound bindings → check bindings go ≡ said outcome bindings
Checks {A} IsBound (Err NoMemory) check = ⊤

-- whatever is bound by what is kept, a command asks this, or halts
abbrev pub Starts : List ℕ → (Bindings → Type 0) → Result Asking Halt → (Bindings → Course) → Type 0
Starts fed IsBound (Ok asking) course =
    (bindings : Bindings) → IsBound bindings → course bindings ≡ ask asking.call (after fed bindings asking.stage)
Starts fed IsBound (Err (Said outcome)) course =
    (bindings : Bindings) → IsBound bindings → course bindings ≡ said outcome bindings
Starts fed IsBound (Err NoMemory) course = ⊤

-- what is kept now stands for what is bound, and the course is the one that is meant there
pub record Leads (fed : List ℕ) (names : Names) (course : Left) (spec : Course) : Type 0 where
  pub bindings : Bindings
  pub agree : Agree names bindings
  pub same : spec ≡ meant fed bindings course

-- the course of a command that is given no bytes
abbrev pub course_in : Command → Bindings → Course
course_in command bindings = course_of (content_by []) bindings command

-- an operation begins by this call, or is refused
abbrev pub Begins : Method → Option Method → Params → Result Call BeginRefused → Type 0
Begins used inner params (Ok call) =
    (refused : BeginRefused → Course) (made : Reply → Course) → begun used inner params refused made ≡ ask call made
Begins used inner params (Err refusal) =
    (refused : BeginRefused → Course) (made : Reply → Course) → begun used inner params refused made ≡ refused refusal

-- an operation context that has just begun
abbrev pub opening_with : Code → Option Code → Params → ℕ → Operating
opening_with code inner params n = record { token = n; code = code; inner = inner; params = params; fed = [] }

-- whatever was bound by what was kept, a command that makes no further call ends with this, and what is kept now stands
-- for what is bound then
abbrev pub Settles : Names → Names → Outcome → (Bindings → Course) → Type 0
Settles old new outcome course = (bindings : Bindings) → Agree old bindings
    → (later : Bindings) × Agree new later × (course bindings ≡ said outcome later)

-- likewise of a command that may halt
abbrev pub Tells : Names → Names → Result Outcome Halt → (Bindings → Course) → Type 0
Tells old new (Ok outcome) course = Settles old new outcome course
Tells old new (Err (Said outcome)) course = Settles old new outcome course
Tells old new (Err NoMemory) course = ⊤

-- what is bound to the name is an operation that runs, and it is taken away; or it is another, and nothing changes
abbrev pub TakesRunning : Names → Names → List ℕ → Result Running Halt → Type 0
TakesRunning old new name (Ok taken) = (bound_at old name ≡ Some (kept.Running taken)) × Rebinds old new name None
TakesRunning old new name (Err (Said outcome)) = (bindings : Bindings) (go : Operating → Course) → Agree old bindings
    → Agree new bindings × (uses_running name bindings go ≡ said outcome bindings)
TakesRunning old new name (Err NoMemory) = ⊤

-- what is left of a command by how it started
abbrev pub IsAsked : Result Asking Halt → Left → Type 0
IsAsked (Ok asking) course = course ≡ left.Asks asking
IsAsked (Err (Said outcome)) course = course ≡ left.Said outcome
IsAsked (Err NoMemory) course = ⊥

-- likewise of a command that makes no call
abbrev pub IsTold : Result Outcome Halt → Left → Type 0
IsTold (Ok outcome) course = course ≡ left.Said outcome
IsTold (Err (Said outcome)) course = course ≡ left.Said outcome
IsTold (Err NoMemory) course = ⊥

-- likewise of a command that does not halt
abbrev pub IsSaid : Result Outcome AllocError → Left → Type 0
IsSaid (Ok outcome) course = course ≡ left.Said outcome
IsSaid (Err refused) course = ⊥
