-- Answers, step by step: a refusal ends them, and want of memory is always one.
use Rattle.std.proofs.Common.{◌≡◌, ℕ, Result, Ok, Err, List, [], ◌∷◌, refl, ap, sym, ◌∙◌}
use Rattle.std.specs.Result.{IsErr, IsErrAnd}
use Rattle.ossl_base.specs.declared.files.FileRefusal.{FileRefusal}
use Rattle.ossl_base.specs.Files.{Entries}
use Rattle.ossl_conf.specs.declared.refusal.ConfRefused.{ConfRefused}
use Rattle.ossl_conf.specs.declared.refusal.ConfRefused.TheVariants.{Line, NoVariable, NoSection, BadActivate, BadQuery, File, NoMemory}
use Rattle.ossl_conf.specs.Answers.{mapped, Answers, ButForMemory, Then}
use Rattle.ossl_conf.specs.Reading.{◌>>=◌}

-- a refusal that comes from another one's fact
pub refusal_from : {A B : Type 0} (refusal : ConfRefused) (P : Result A ConfRefused → Type 0) (Q : Result B ConfRefused → Type 0)
    → (P (Err refusal) → Q (Err refusal)) → ButForMemory (Err refusal) P → ButForMemory (Err refusal) Q
refusal_from (Line number kind) P Q go h = go h
refusal_from (NoVariable number name) P Q go h = go h
refusal_from (NoSection name) P Q go h = go h
refusal_from (BadActivate word) P Q go h = go h
refusal_from (BadQuery place) P Q go h = go h
refusal_from (File name refusal) P Q go h = go h
refusal_from NoMemory P Q go h = tt

-- a step that is refused is the answer to all
pub refused_step : {A B : Type 0} (refusal : ConfRefused) (said : Result A ConfRefused) (next : A → Result B ConfRefused)
    → Answers (Err refusal) said → Answers (Err refusal) (said >>= next)
refused_step {A} {B} refusal said next =
    refusal_from refusal (λ given. said ≡ given) (λ given. (said >>= next) ≡ given) (λ e. ap (λ s. s >>= next) e)

-- a step that is not refused goes on
pub step_on : {A B : Type 0} (x : A) (said : Result A ConfRefused) (next : A → Result B ConfRefused) (answer : Result B ConfRefused)
    → said ≡ Ok x → Answers answer (next x) → Answers answer (said >>= next)
step_on x said next answer e h = rw e h

-- what holds of every answer but want of memory
pub answer_from : {A : Type 0} (answer : Result A ConfRefused) (P Q : Result A ConfRefused → Type 0) → ((given : Result A ConfRefused) → P given → Q given) → ButForMemory answer P → ButForMemory answer Q
answer_from (Ok x) P Q go h = go (Ok x) h
answer_from (Err refusal) P Q go h = refusal_from refusal P Q (go (Err refusal)) h

-- what `?` hands over is the error itself
pub handed : {T E : Type 0} (result : Result T E) (e : E) → IsErr result × IsErrAnd result (λ given. given ≡ e) → result ≡ Err e
handed (Ok x) e h = absurd h.1
handed (Err given) e h = ap Err h.1
