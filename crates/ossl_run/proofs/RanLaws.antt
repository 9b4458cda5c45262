-- What a run over boxes leaves, for what is answered to it.
use Rattle.std.proofs.Common.{◌≡◌, ℕ, Bool, List, [], Result, Ok, Err, Option, Some, None, refl, subst, sym}
use Rattle.std.specs.Prelude.{All, IfOk}
use Rattle.std.specs.declared.alloc.AllocError.{AllocError}
use Rattle.ossl_base.specs.declared.entry.Entry.{Entry}
use Rattle.ossl_calls.specs.Registry.{HasSheets, IsDown}
use Rattle.ossl_commands.specs.Counts.{contexts_of}
use Rattle.ossl_prepare.specs.declared.reading.Task.{Task}
use Rattle.ossl_provider.specs.Sheet.{Facts, Sheet}
use Rattle.ossl_state.specs.History.{Fixed, IsLegal}
use Rattle.ossl_state.specs.State.{opening_state}
use Rattle.ossl_state.specs.declared.call.Call.{Call}
use Rattle.ossl_state.specs.declared.call.Reply.{Reply}
use Rattle.ossl_watch.specs.Changes.{IsHistory}
use Rattle.ossl_ordered.proofs.FixedLaws.{same_opened}
use Rattle.ossl_run.specs.declared.answer.Answer.{Answer}
use Rattle.ossl_run.specs.declared.course.Course.{Course}
use Rattle.ossl_run.specs.Ending.{Boxes, IsLeft, registry_over}
use Rattle.ossl_run.specs.Middle.{IsCourse, IsRan, IsToldOf}

-- what a run over boxes leaves and came to, where the registry was opened over them
pub ran_over : (threads : Bool) (task : Task) (boxes : Boxes) (fixed : Fixed) (result : Result Course AllocError)
    (entries : List (Entry Call Reply))
    → fixed ≡ registry_over boxes (contexts_of task.prepared.script.commands) → IsLegal fixed entries
    → HasSheets fixed boxes.after entries
    → ((sheets : List Sheet) → HasSheets fixed sheets entries → All IsDown sheets)
    → IfOk result (λ course. IsCourse threads course task entries) → IsRan threads (Some result) task boxes entries
ran_over threads task boxes fixed result entries same legal kept down came = of result came
  where
    left : IsLeft boxes (contexts_of task.prepared.script.commands) entries
    left = record {
      legal = subst (λ f. IsLegal f entries) same legal;
      sheets = subst (λ f. HasSheets f boxes.after entries) same kept;
      down = down boxes.after kept;
    }

    of : (result : Result Course AllocError) → IfOk result (λ course. IsCourse threads course task entries)
        → IsRan threads (Some result) task boxes entries
    of (Ok course) came = (left, came)
    of (Err e) came = left

module _ (threads : Bool) (task : Task) (boxes : Boxes) (entries : List (Entry Call Reply))
    (ran : Option (Result Course AllocError)) (did : IsRan threads ran task boxes entries) where
  abbrev contexts : ℕ
  contexts = contexts_of task.prepared.script.commands

  -- where no registry was opened the boxes are as they came
  pub none_opened : ((course : Result Course AllocError) → ran ≡ Some course → ⊥) → boxes.after ≡ boxes.before
  none_opened none = of ran refl did
    where
      of : (o : Option (Result Course AllocError)) → ran ≡ o → IsRan threads o task boxes entries
          → boxes.after ≡ boxes.before
      of None is did = did.1
      of (Some course) is did = absurd (none course is)

  module _ (course : Result Course AllocError) (is : ran ≡ Some course) where
    did_some : IsRan threads (Some course) task boxes entries
    did_some = subst (λ o. IsRan threads o task boxes entries) is did

    pub left_behind : IsLeft boxes contexts entries
    left_behind = of course did_some
      where
        of : (r : Result Course AllocError) → IsRan threads (Some r) task boxes entries → IsLeft boxes contexts entries
        of (Ok course) did = did.0
        of (Err e) did = did

    module _ (facts : List Facts) (history : List (Entry Call Reply)) (facts_are : facts ≡ boxes.facts)
        (history_is : history ≡ entries) where
      -- no rule looks at the counts of faults that the boxes had before
      pub legal_behind : IsHistory facts contexts history
      legal_behind =
          let over = opening_state contexts in
          let legal = same_opened boxes.facts contexts boxes.opened [] over [] entries left_behind.legal in
          subst (λ fs. IsHistory fs contexts history) (sym facts_are)
          (subst (λ es. IsHistory boxes.facts contexts es) (sym history_is) legal)

      pub course_behind : IfOk course (λ course. IsCourse threads course task history)
      course_behind =
          subst (λ es. IfOk course (λ course. IsCourse threads course task es)) (sym history_is) (of course did_some)
        where
          of : (r : Result Course AllocError) → IsRan threads (Some r) task boxes entries
              → IfOk r (λ course. IsCourse threads course task entries)
          of (Ok course) did = did.1
          of (Err e) did = tt

      pub told_behind : (answer : Result Answer AllocError) (callers : List ℕ)
          → IsToldOf threads task facts history answer callers
          → IsToldOf threads task boxes.facts entries answer callers
      told_behind answer callers told =
          subst (λ fs. IsToldOf threads task fs entries answer callers) facts_are
          (subst (λ es. IsToldOf threads task facts es answer callers) history_is told)
