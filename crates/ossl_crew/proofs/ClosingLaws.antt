-- What the closing of a run in threads leaves.
use Rattle.std.proofs.Common.{◌≡◌, ℕ, Global, Vec, List, sym, subst, ◌∙◌}
use Rattle.std.specs.Prelude.{All, Err, IfErr, IfOk, Ok, OnOk, Result}
use Rattle.std.specs.declared.alloc.AllocError.{AllocError}
use Rattle.ossl_base.specs.declared.entry.Entry.{Entry}
use Rattle.ossl_calls.specs.Registry.{HasSheets, IsDown}
use Rattle.ossl_conf.specs.View.{SettingsView}
use Rattle.ossl_crew.specs.declared.course.Course.{Course}
use Rattle.ossl_crew.specs.declared.course.Course.TheVariants.{Finished, Refused}
use Rattle.ossl_crew.specs.Course.{AreOf, Came, HaveEnded, IsCourse}
use Rattle.ossl_crew.specs.Crew.{HaveGivenBack}
use Rattle.ossl_crew.proofs.CourseLaws.{finished, none_up, refused_run}
use Rattle.ossl_ordered.specs.declared.opening.OpeningRefused.{OpeningRefused}
use Rattle.ossl_ordered.specs.declared.opening.OpeningRefused.TheVariants.{Provider, NoMemory}
use Rattle.ossl_ordered.specs.Opened.{EndsOpening, IsLoading}
use Rattle.ossl_ordered.specs.Opening.{IsOpened, activations_of}
use Rattle.ossl_ordered.specs.Owned.{AreClosed, ClosesBy, Follow}
use Rattle.ossl_print.specs.Batched.{Batch}
use Rattle.ossl_provider.specs.Sheet.{Sheet}
use Rattle.ossl_script.specs.View.{ScriptCallerView}
use Rattle.ossl_state.specs.declared.call.Call.{Call}
use Rattle.ossl_state.specs.declared.call.Reply.{Reply}
use Rattle.ossl_state.specs.History.{Fixed, IsLegal}

-- callers that did their lines, behind an opening that is not refused
pub came_ended : (P : Type 0) (contexts : ℕ) (scripts : List ScriptCallerView)
    (opening entries : List (Entry Call Reply))
    (opened : Result Unit OpeningRefused) (u : Unit) (r : Result (Vec ScriptCallerView Global) AllocError)
    (left : Vec ScriptCallerView Global) → opened ≡ Ok u → r ≡ Ok left
    → IfOk r (λ left. (batch : Batch) → AreOf batch contexts scripts → HaveEnded P batch opening entries left.items)
    → Came P contexts scripts opening entries opened (Ok (Finished left))
came_ended P contexts scripts opening entries opened u r left went is all =
    subst (λ o. Came P contexts scripts opening entries o (Ok (Finished left))) (sym went)
    (subst (λ r. IfOk r (λ left. (batch : Batch) → AreOf batch contexts scripts
    → HaveEnded P batch opening entries left.items)) is all)

-- behind the closing no box is up, for a registry for which nothing has changed that never changes
pub down_after : (fixed : Fixed) (tokens : List ℕ) (opening before : List (Entry Call Reply))
    → IsLoading fixed opening tokens → HaveGivenBack opening before
    → (now : Fixed) (contexts : ℕ) (after : List (Entry Call Reply)) → now ≡ fixed → contexts ≡ fixed.contexts
    → (closing : List (Entry Call Reply)) × Follow before after closing
    → IsLegal now after → AreClosed contexts now after
    → (sheets : List Sheet) → HasSheets now sheets after → All IsDown sheets
down_after fixed tokens opening before loading back now contexts after same count follow legal closed sheets kept =
    none_up fixed tokens opening before loading back after follow.0 follow.1 (subst (λ f. IsLegal f after) same legal)
    (subst (λ n. AreClosed n fixed after) count (subst (λ f. AreClosed contexts f after) same closed))
    sheets (subst (λ f. HasSheets f sheets after) same kept)

-- what a run comes to, by what its opening and its callers came to
module _ (P : Type 0) (settings : SettingsView) (contexts : ℕ) (tokens : List ℕ) (scripts : List ScriptCallerView)
    (opening before after : List (Entry Call Reply)) (answered : tokens ≡ activations_of opening)
    (adds : ClosesBy contexts tokens before after) where
  pub course_after : (opened : Result Unit OpeningRefused) (course : Result Course AllocError)
      → OnOk opened (IsOpened settings opening) → IfErr opened (EndsOpening settings opening)
      → Came P contexts scripts opening before opened course
      → IfOk course (λ course. (batch : Batch) → AreOf batch contexts scripts → IsCourse P settings batch after course)
  course_after (Ok u) (Ok (Finished left)) begun ended came = λ batch of.
      finished P settings batch contexts tokens opening before after left.items of.few answered begun
      (came batch of) adds
  course_after (Ok u) (Ok (Refused name)) begun ended came = absurd came
  course_after (Ok u) (Err e) begun ended came = tt
  course_after (Err (Provider named)) (Ok (Finished left)) begun ended came = absurd came
  course_after (Err (Provider named)) (Ok (Refused name)) begun ended came = λ batch of.
      refused_run settings batch contexts name tokens opening before after of.few answered ended.0
      (came.0 ∙ ended.1) came.1 adds
  course_after (Err (Provider named)) (Err e) begun ended came = tt
  course_after (Err NoMemory) (Ok course) begun ended came = absurd came
  course_after (Err NoMemory) (Err e) begun ended came = tt

  -- over as many library contexts by another registry
  pub course_of : (before_it after_it : ℕ) → contexts ≡ before_it → after_it ≡ before_it
      → (opened : Result Unit OpeningRefused) (course : Result Course AllocError)
      → OnOk opened (IsOpened settings opening) → IfErr opened (EndsOpening settings opening)
      → Came P after_it scripts opening before opened course
      → IfOk course (λ course. (batch : Batch) → AreOf batch before_it scripts → IsCourse P settings batch after course)
  course_of before_it after_it count kept opened course begun ended came =
      subst (λ n. IfOk course (λ course. (batch : Batch) → AreOf batch n scripts
      → IsCourse P settings batch after course)) count
      (course_after opened course begun ended
      (subst (λ n. Came P n scripts opening before opened course) (kept ∙ sym count) came))
