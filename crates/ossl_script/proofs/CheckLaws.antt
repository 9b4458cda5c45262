-- What the checks of commands find in what is kept.
use Rattle.std.proofs.Common.{◌≡◌, ℕ, true, List, Option, None, Some, refl, sym, ap, ◌∙◌, subst}
use Rattle.std.specs.Prelude.{⊤, Result, Ok, Err, IfOk, is_some}
use Rattle.std.specs.Result.{IsErr, IsErrAnd}
use Rattle.ossl_commands.specs.declared.command.Command.{Command}
use Rattle.ossl_commands.specs.Counts.{arguments_in}
use Rattle.ossl_script.specs.declared.bound.Bound.{Bound}
use Rattle.ossl_script.specs.declared.bound.Bound.TheVariants as kept
use Rattle.ossl_script.specs.declared.bound.Running.{Running}
use Rattle.ossl_script.specs.declared.checks.Halt.{Halt}
use Rattle.ossl_script.specs.declared.checks.Halt.TheVariants.{Said, NoMemory}
use Rattle.ossl_script.specs.declared.outcome.Outcome.{Outcome}
use Rattle.ossl_script.specs.declared.stage.Asking.{Asking}
use Rattle.ossl_script.specs.declared.stage.Course.{Course as Left}
use Rattle.ossl_script.specs.declared.stage.Stage.{Stage}
use Rattle.ossl_state.specs.declared.call.Reply.{Reply}
use Rattle.ossl_script.specs.Commands.{course_of}
use Rattle.ossl_script.specs.Given.{Content, fed_by}
use Rattle.ossl_script.specs.declared.outcome.Outcome.TheVariants.{WrongKind}
use Rattle.ossl_script.specs.Bindings.{Binding, Bindings, Method}
use Rattle.ossl_script.specs.Bindings.Binding.{activation, method, running, finished}
use Rattle.ossl_script.specs.Course.{Course, by_activation, by_context, by_method}
use Rattle.ossl_script.specs.Course.Course.{said}
use Rattle.ossl_script.specs.Names.{Agree, Names, StandsFor, bound_at}
use Rattle.ossl_script.specs.Stages.{Checks, IsAsked, Leads, Starts, after, meant}

-- 1. What is bound where something is kept.

pub found_activation : (name : List ℕ) (bindings : Bindings) (go : ℕ → Course) (token : ℕ) (binding : Option Binding)
    → StandsFor (Some (kept.Activation token)) binding → by_activation name bindings go binding ≡ go token
found_activation name bindings go token (Some (activation bound)) stands = ap go (sym stands)
found_activation name bindings go token binding stands = absurd stands

pub found_method : (name : List ℕ) (bindings : Bindings) (go : Method → Course) (one : Method) (binding : Option Binding)
    → StandsFor (Some (kept.Method one)) binding → by_method name bindings go binding ≡ go one
found_method name bindings go one (Some (method bound)) stands = ap go (sym stands)
found_method name bindings go one binding stands = absurd stands

pub found_running : (name : List ℕ) (bindings : Bindings) (go : ℕ → Course) (one : Running) (binding : Option Binding)
    → StandsFor (Some (kept.Running one)) binding → by_context name bindings go binding ≡ go one.token
found_running name bindings go one (Some (running bound)) stands = ap go (sym stands.0)
found_running name bindings go one binding stands = absurd stands

pub found_finished : (name : List ℕ) (bindings : Bindings) (go : ℕ → Course) (token : ℕ) (binding : Option Binding)
    → StandsFor (Some (kept.Finished token)) binding → by_context name bindings go binding ≡ go token
found_finished name bindings go token (Some (finished bound)) stands = ap go (sym stands)
found_finished name bindings go token binding stands = absurd stands

-- 2. What is bound where something of another kind is kept.

pub no_activation : (name : List ℕ) (bindings : Bindings) (go : ℕ → Course) (one : Bound) (binding : Option Binding)
    → ((token : ℕ) → one ≡ kept.Activation token → ⊥) → StandsFor (Some one) binding
    → by_activation name bindings go binding ≡ said (WrongKind name) bindings
no_activation name bindings go (kept.Activation token) binding other stands = absurd (other token refl)
no_activation name bindings go one (Some (method bound)) other stands = refl
no_activation name bindings go one (Some (running bound)) other stands = refl
no_activation name bindings go one (Some (finished bound)) other stands = refl
no_activation name bindings go one binding other stands = absurd stands

pub no_method : (name : List ℕ) (bindings : Bindings) (go : Method → Course) (one : Bound) (binding : Option Binding)
    → ((used : Method) → one ≡ kept.Method used → ⊥) → StandsFor (Some one) binding
    → by_method name bindings go binding ≡ said (WrongKind name) bindings
no_method name bindings go (kept.Method used) binding other stands = absurd (other used refl)
no_method name bindings go one (Some (activation bound)) other stands = refl
no_method name bindings go one (Some (running bound)) other stands = refl
no_method name bindings go one (Some (finished bound)) other stands = refl
no_method name bindings go one binding other stands = absurd stands

pub no_context : (name : List ℕ) (bindings : Bindings) (go : ℕ → Course) (one : Bound) (binding : Option Binding)
    → ((used : Running) → one ≡ kept.Running used → ⊥) → ((token : ℕ) → one ≡ kept.Finished token → ⊥) → StandsFor (Some one) binding
    → by_context name bindings go binding ≡ said (WrongKind name) bindings
no_context name bindings go (kept.Running used) binding other another stands = absurd (other used refl)
no_context name bindings go (kept.Finished token) binding other another stands = absurd (another token refl)
no_context name bindings go one (Some (activation bound)) other another stands = refl
no_context name bindings go one (Some (method bound)) other another stands = refl
no_context name bindings go one binding other another stands = absurd stands

-- 3. What is bound where nothing is kept.

pub nothing_there : (binding : Option Binding) → StandsFor None binding → binding ≡ None
nothing_there None stands = refl
nothing_there (Some bound) stands = absurd stands

pub something_there : (one : Bound) (binding : Option Binding) → StandsFor (Some one) binding → is_some binding ≡ true
something_there one (Some bound) stands = refl
something_there one None stands = absurd (by one stands)
  where
    by : (one : Bound) → StandsFor (Some one) None → ⊥
    by (kept.Activation token) stands = stands
    by (kept.Method used) stands = stands
    by (kept.Running used) stands = stands
    by (kept.Finished token) stands = stands

-- what stands for the binding at a name
pub stands_at : (names : Names) (bindings : Bindings) (name : List ℕ) (one : Option Bound) → bound_at names name ≡ one → Agree names bindings
    → StandsFor one (bindings name)
stands_at names bindings name one same agree = subst (λ (o : Option Bound). StandsFor o (bindings name)) same (agree.at name)

-- the same, by the slice with which the name was looked up
pub kept_at : (names : Names) (slice name : List ℕ) (one : Option Bound) → slice ≡ name → one ≡ bound_at names slice
    → (bindings : Bindings) → Agree names bindings → StandsFor one (bindings name)
kept_at names slice name one same found bindings agree =
    stands_at names bindings name one (ap (bound_at names) (sym same) ∙ sym found) agree

-- 4. What halts, and what goes on.

-- a check that halts with this
pub halts : {A : Type 0} (IsBound : Bindings → Type 0) (check : Bindings → (A → Course) → Course) (halt : Halt) (outcome : Outcome)
    → halt ≡ Said outcome → ((bindings : Bindings) (go : A → Course) → IsBound bindings → check bindings go ≡ said outcome bindings)
    → Checks IsBound (Err halt) check
halts {A} IsBound check halt outcome same so = subst (λ (h : Halt). Checks {A = A} IsBound (Err h) check) (sym same) so

-- a command halts where a check halts
pub stops : {A : Type 0} (fed : List ℕ) (IsBound : Bindings → Type 0) (halt : Halt) (check : Bindings → (A → Course) → Course)
    (rest : Bindings → A → Course) → Checks IsBound (Err halt) check → Starts fed IsBound (Err halt) (λ bindings. check bindings (rest bindings))
stops fed IsBound (Said outcome) check rest checks = λ bindings bound. checks bindings (rest bindings) bound
stops fed IsBound NoMemory check rest checks = tt

-- and goes on where it does not
pub passes : {A : Type 0} (fed : List ℕ) (IsBound : Bindings → Type 0) (result : Result Asking Halt) (check : Bindings → (A → Course) → Course)
    (rest : Bindings → A → Course) (found : A) → Checks IsBound (Ok found) check → Starts fed IsBound result (λ bindings. rest bindings found)
    → Starts fed IsBound result (λ bindings. check bindings (rest bindings))
passes fed IsBound (Ok asking) check rest found checks starts = λ bindings bound. checks bindings (rest bindings) bound ∙ starts bindings bound
passes fed IsBound (Err (Said outcome)) check rest found checks starts = λ bindings bound. checks bindings (rest bindings) bound ∙ starts bindings bound
passes fed IsBound (Err NoMemory) check rest found checks starts = tt

-- a check that asks nothing of what is bound
pub anyhow : {A : Type 0} (IsBound : Bindings → Type 0) (result : Result A Halt) (check : Bindings → (A → Course) → Course)
    → Checks (λ bindings. ⊤) result check → Checks IsBound result check
anyhow IsBound (Ok found) check checks = λ bindings go bound. checks bindings go tt
anyhow IsBound (Err (Said outcome)) check checks = λ bindings go bound. checks bindings go tt
anyhow IsBound (Err NoMemory) check checks = tt

-- the error that a `?` hands on
pub handed : {T E : Type 0} (result : Result T E) (e : E) → IsErr result × IsErrAnd result (λ given. given ≡ e) → result ≡ Err e
handed (Ok x) e h = absurd h.1
handed (Err given) e h = ap Err h.1

-- a command that asks nothing of what is bound
pub starts_anyhow : (fed : List ℕ) (IsBound : Bindings → Type 0) (result : Result Asking Halt) (course : Bindings → Course)
    → Starts fed (λ bindings. ⊤) result course → Starts fed IsBound result course
starts_anyhow fed IsBound (Ok asking) course starts = λ bindings bound. starts bindings tt
starts_anyhow fed IsBound (Err (Said outcome)) course starts = λ bindings bound. starts bindings tt
starts_anyhow fed IsBound (Err NoMemory) course starts = tt

-- 5. How a command begins.

-- the course of a line's command
abbrev pub leads_of : Content → Names → Command → Left → Type 0
leads_of content names command course = (bindings : Bindings) → Agree names bindings
    → Leads (fed_by content (arguments_in command)) names course (course_of content bindings command)

at_asked : (content : Content) (names : Names) (command : Command) (started : Result Asking Halt) (course : Left)
    → Starts (fed_by content (arguments_in command)) (Agree names) started (λ bindings. course_of content bindings command)
    → IsAsked started course → leads_of content names command course
at_asked content names command (Ok asking) course starts asked = λ bindings agree. record {
  bindings = bindings;
  agree = agree;
  same = starts bindings agree ∙ ap (meant (fed_by content (arguments_in command)) bindings) (sym asked);
}
at_asked content names command (Err (Said outcome)) course starts asked = λ bindings agree. record {
  bindings = bindings;
  agree = agree;
  same = starts bindings agree ∙ ap (meant (fed_by content (arguments_in command)) bindings) (sym asked);
}
at_asked content names command (Err NoMemory) course starts asked = absurd asked

pub asked_course : {E : Type 0} (content : Content) (names : Names) (command written : Command) (started : Result Asking Halt) (result : Result Left E)
    → command ≡ written
    → Starts (fed_by content (arguments_in written)) (Agree names) started (λ bindings. course_of content bindings written)
    → IfOk result (IsAsked started) → IfOk result (leads_of content names command)
asked_course content names command written started (Ok course) same starts asked =
    subst (λ (c : Command). leads_of content names c course) (sym same) (at_asked content names written started course starts asked)
asked_course content names command written started (Err e) same starts asked = asked

-- a command that goes on behind the reply to its call
pub resumed_course : {E : Type 0} (fed : List ℕ) (names : Names) (stage written : Stage) (reply : Reply) (result : Result Left E) → stage ≡ written
    → IfOk result (λ course. (bindings : Bindings) → after fed bindings written reply ≡ meant fed bindings course)
    → IfOk result (λ course. (bindings : Bindings) → Agree names bindings → Leads fed names course (after fed bindings stage reply))
resumed_course fed names stage written reply (Ok course) same means = λ bindings agree. record {
  bindings = bindings;
  agree = agree;
  same = ap (λ (s : Stage). after fed bindings s reply) same ∙ means bindings;
}
resumed_course fed names stage written reply (Err e) same means = means
