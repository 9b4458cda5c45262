-- An operation on its way through the pieces of a text.
use Rattle.std.proofs.Common.{◌≡◌, inl, inr, ℕ, List, [], ◌++◌, Result, Ok, Err, refl, sym, ap, subst, ◌∙◌}
use Rattle.std.proofs.Common.{append_assoc}
use Rattle.std.proofs.lemmas.List.{append-nil}
use Rattle.ossl_modes.specs.declared.kinds.FinishRefused.{FinishRefused}
use Rattle.ossl_modes.specs.declared.kinds.FinishRefused.TheVariants as finish
use Rattle.ossl_op.specs.declared.context.OpCtx.{OpCtx}
use Rattle.ossl_op.specs.declared.params.BeginRefused.{BeginRefused}
use Rattle.ossl_op.specs.declared.params.BeginRefused.TheVariants as begin
use Rattle.ossl_op.specs.Begins.{begins}
use Rattle.ossl_op.specs.Running.{Runs}
use Rattle.ossl_op.specs.Work.{Work, Appends, CarriesOn, EndsRefused, EndsWell, GaveBeginning, IsBeginning}
use Rattle.ossl_op.specs.Work.{result_of}
use Rattle.ossl_op.specs.Work.{unchecked_of}
use Rattle.ossl_op_run.specs.Whole.{RunsTo, not_begun, not_finished}

-- the work so far: the bytes fed and the rest are all bytes, and what was appended is what was given
pub record IsFed (context : OpCtx) (start : Work) (old now rest all : List ℕ) : Type 0 where
  pub bytes : List ℕ
  pub text : List ℕ
  pub joined : bytes ++ rest ≡ all
  pub appended : now ≡ old ++ text
  pub runs : Runs context (record start { fed = bytes; given = text })

-- one piece more
pub fed_more : (before after : OpCtx) (start : Work) (old now new piece rest all : List ℕ)
    → IsFed before start old now (piece ++ rest) all → Appends now new
    → CarriesOn (Runs before) (Runs after) piece now new
    → IsFed after start old new rest all
fed_more before after start old now new piece rest all was given goes_on = record {
  bytes = was.bytes ++ piece;
  text = was.text ++ given.0;
  joined = append_assoc was.bytes piece rest ∙ was.joined;
  appended = given.1 ∙ ap (λ (t : List ℕ). t ++ given.0) was.appended ∙ append_assoc old was.text given.0;
  runs = goes_on (record start { fed = was.bytes; given = was.text }) given.0 given.1 was.runs;
}

-- all pieces are fed
pub all_fed : (context : OpCtx) (start : Work) (old now rest all : List ℕ) → rest ≡ []
    → IsFed context start old now rest all
    → (text : List ℕ) × (now ≡ old ++ text) × Runs context (record start { fed = all; given = text })
all_fed context start old now rest all none was =
    let whole : was.bytes ≡ all =
    sym (append-nil was.bytes) ∙ ap (λ (t : List ℕ). was.bytes ++ t) (sym none) ∙ was.joined in (
      was.text,
      was.appended,
      subst (λ (bytes : List ℕ). Runs context (record start { fed = bytes; given = was.text }))
          whole was.runs,
    )

-- the end is accepted
pub run_accepted : (context : OpCtx) (start : Work) (old now new all : List ℕ)
    → (text : List ℕ) × (now ≡ old ++ text) × Runs context (record start { fed = all; given = text })
    → Appends now new → EndsWell (Runs context) now new
    → (text : List ℕ) × (new ≡ old ++ text) × (result_of (record start { fed = all }) ≡ Ok text)
run_accepted context start old now new all was more ends = (
  was.0 ++ more.0,
  more.1 ∙ ap (λ (t : List ℕ). t ++ more.0) was.1 ∙ append_assoc old was.0 more.0,
  ends (record start { fed = all; given = was.0 }) more.0 more.1 was.2,
)

-- the end is refused, and not for want of memory
pub run_refused : (context : OpCtx) (start : Work) (old now new all : List ℕ) (refusal : FinishRefused)
    → (text : List ℕ) × (now ≡ old ++ text) × Runs context (record start { fed = all; given = text })
    → new ≡ now → ¬ (refusal ≡ finish.NoMemory) → EndsRefused (Runs context) refusal → GaveBeginning (Runs context)
    → (text : List ℕ) × (new ≡ old ++ text) × (result_of (record start { fed = all }) ≡ Err refusal)
    × IsBeginning text (unchecked_of (record start { fed = all }))
run_refused context start old now new all refusal was same some ends begins_so =
    let work : Work = record start { fed = all; given = was.0 } in
    let why : result_of work ≡ Err refusal =
    elim (ends work was.2) [ inl memory ↦ absurd (some memory) | inr why ↦ why ] in
    (was.0, same ∙ was.1, why, begins_so work was.2)

-- whatever the refusal of the end
pub end_refused : (context : OpCtx) (start : Work) (old now new all : List ℕ) (refusal : FinishRefused)
    → (text : List ℕ) × (now ≡ old ++ text) × Runs context (record start { fed = all; given = text })
    → new ≡ now → EndsRefused (Runs context) refusal → GaveBeginning (Runs context)
    → RunsTo {U = Unit {0}} old new (Err (not_finished refusal)) (record start { fed = all })
end_refused context start old now new all finish.NoMemory was same ends begins_so = (was.0, same ∙ was.1)
end_refused context start old now new all finish.BadDecrypt was same ends begins_so =
    run_refused context start old now new all finish.BadDecrypt was same (λ e. absurd (cc)) ends begins_so
end_refused context start old now new all (finish.WrongFinalBlock rest) was same ends begins_so =
    run_refused context start old now new all (finish.WrongFinalBlock rest) was same (λ e. absurd (cc)) ends begins_so
end_refused context start old now new all (finish.StreamEnd blocks) was same ends begins_so =
    run_refused context start old now new all (finish.StreamEnd blocks) was same (λ e. absurd (cc)) ends begins_so

-- a beginning that is refused, and not for want of memory, is refused as the checks say
as_judged : (judged : Result (Unit {0}) BeginRefused) (refusal : BeginRefused) → ¬ (refusal ≡ begin.NoMemory)
    → ((other : BeginRefused) → judged ≡ Err other → refusal ≡ other) → (judged ≡ Ok tt → refusal ≡ begin.NoMemory)
    → judged ≡ Err refusal
as_judged (Ok x) refusal some refused memory = absurd (some (memory refl))
as_judged (Err other) refusal some refused memory = ap Err (sym (refused other refl))

-- whatever the refusal of a beginning
pub begin_refused : (work : Work) (old : List ℕ) (refusal : BeginRefused)
    → ((other : BeginRefused) → begins work.code work.inner work.params ≡ Err other → refusal ≡ other)
    → (begins work.code work.inner work.params ≡ Ok tt → refusal ≡ begin.NoMemory)
    → RunsTo {U = Unit {0}} old old (Err (not_begun refusal)) work
begin_refused work old begin.NoMemory refused memory = ([], sym (append-nil old))
begin_refused work old begin.WrongInner refused memory =
    (as_judged _ begin.WrongInner (λ e. absurd (cc)) refused memory, refl)
begin_refused work old (begin.MissingParam which) refused memory =
    (as_judged _ (begin.MissingParam which) (λ e. absurd (cc)) refused memory, refl)
begin_refused work old (begin.KeyLength got) refused memory =
    (as_judged _ (begin.KeyLength got) (λ e. absurd (cc)) refused memory, refl)
begin_refused work old (begin.IvLength got) refused memory =
    (as_judged _ (begin.IvLength got) (λ e. absurd (cc)) refused memory, refl)
begin_refused work old (begin.TooLong limit) refused memory =
    (as_judged _ (begin.TooLong limit) (λ e. absurd (cc)) refused memory, refl)
