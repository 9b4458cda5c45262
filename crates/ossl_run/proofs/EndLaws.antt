-- How a call ends by what is sent.
use Rattle.std.proofs.Common.{◌≡◌, ℕ, List, [], Result, Ok, Err, Option, Some, None, inl, inr, subst, sym, ◌∙◌}
use Rattle.std.specs.Io.KnownBytes.{Appends}
use Rattle.std.specs.Prelude.{All, IfOk}
use Rattle.std.proofs.lemmas.List.{append-nil}
use Rattle.std.specs.declared.alloc.AllocError.{AllocError}
use Rattle.ossl_base.specs.declared.entry.Entry.{Entry}
use Rattle.ossl_provider.specs.Sheet.{Facts, Sheet}
use Rattle.ossl_calls.specs.Registry.{IsCatalogue, IsDown}
use Rattle.ossl_commands.specs.Counts.{contexts_of}
use Rattle.ossl_state.specs.declared.call.Call.{Call}
use Rattle.ossl_state.specs.declared.call.Reply.{Reply}
use Rattle.ossl_prepare.specs.declared.error_line.ErrorLine.{ErrorLine}
use Rattle.ossl_prepare.specs.declared.reading.Task.{Task}
use Rattle.ossl_prepare.specs.ErrorLine.{error_status, error_text}
use Rattle.ossl_prepare.specs.Task.{Inputs, IsDueRun}
use Rattle.ossl_run.specs.declared.answer.Answer.{Answer}
use Rattle.ossl_run.specs.Ending.{Boxes, Ends, IsLeft, IsSent, IsUntouched, Sunk}
use Rattle.ossl_run.specs.Middle.{IsToldOf, Sends}

-- boxes that were never started are down
pub idle_down : (facts : List Facts) (sheets : List Sheet) → IsCatalogue facts sheets → All IsDown sheets
idle_down facts sheets catalogue k d within = (catalogue.idle k d within).0

-- where nothing is written nothing is appended
appends_none : (known : Option (List ℕ)) → Appends known known []
appends_none None = tt
appends_none (Some bytes) = sym (append-nil bytes)

module _ (inputs : Inputs) (boxes : Boxes) (sunk : Sunk) (status : ℕ) (entries : List (Entry Call Reply))
    (callers : List ℕ) where
  -- an error line that is due
  pub refused_ends : (error : ErrorLine) (answer : Result Answer AllocError) (sent : ℕ) → IsDueRun inputs (Err error)
      → IfOk answer (λ a. a.status ≡ error_status error) → IfOk answer (λ a. a.text.items ≡ error_text error)
      → IsUntouched boxes entries callers → status ≡ sent → Sends sunk answer sent
      → Ends inputs boxes sunk status entries callers
  refused_ends error (Err e) sent due said text untouched same (nine, none) = inr (same ∙ nine, none, inl untouched)
  refused_ends error (Ok a) sent due said text untouched same sends =
      inl (
        a.status,
        a.text.items,
        inl (record { error = error; due = due; status = said; text = text; untouched = untouched }),
        subst (IsSent sunk a.status a.text.items) (sym same) sends,
      )

  -- a run that is due
  pub run_ends : (task : Task) (answer : Result Answer AllocError) → IsDueRun inputs (Ok task)
      → IsLeft boxes (contexts_of task.prepared.script.commands) entries
      → IsToldOf inputs.threads task boxes.facts entries answer callers
      → Sends sunk answer status → Ends inputs boxes sunk status entries callers
  run_ends task (Err e) due left told (nine, none) =
      inr (nine, none, inr (record { task = task; due = due; named = told; left = left }))
  run_ends task (Ok a) due left told sends =
      inl (a.status, a.text.items, inr (record { task = task; due = due; answered = told; left = left }), sends)

  -- want of memory before a registry is opened
  pub unopened_ends : status ≡ 9 → sunk.now ≡ sunk.taken → IsUntouched boxes entries callers
      → Ends inputs boxes sunk status entries callers
  unopened_ends nine same untouched =
      let appended = subst (λ known. Appends sunk.taken known []) (sym same) (appends_none sunk.taken) in
      inr (nine, appended, inl untouched)
