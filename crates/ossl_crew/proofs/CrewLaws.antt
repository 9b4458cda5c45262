-- Lists of callers, one by one.
use Rattle.std.proofs.Common.{◌≡◌, ℕ, ◌+◌, ◌-◌, ◌<◌, ◌≤◌, List, [], ◌∷◌, ◌++◌, length, get_or, sym, ap, subst, ◌∙◌, arith, inl, inr}
use Rattle.std.proofs.lemmas.Bool.{cases_eq}
use Rattle.std.proofs.lemmas.List.{get_or_append_left, length-append}
use Rattle.std.proofs.Math.Seq.{get_or-append_seam}
use Rattle.ossl_calls.specs.Registry.{Shown}
use Rattle.ossl_commands.specs.Counts.{contexts_of}
use Rattle.ossl_core.specs.Answered.{CallerFacts}
use Rattle.ossl_print.specs.Batched.{Batch}
use Rattle.ossl_commands.specs.declared.command.Line.{Line}
use Rattle.ossl_script.specs.Caller.{giving_back, next_call, results_of}
use Rattle.ossl_state.specs.declared.call.Reply.{Reply}
use Rattle.ossl_script.specs.View.{ScriptCallerView, SpeaksFor, fresh}
use Rattle.ossl_turn.specs.Passes.{CameFrom, SharedFacts}
use Rattle.ossl_worker.specs.Work.{IsFreshScript, IsSameScript, IsWithin, WorkerFacts}
use Rattle.ossl_crew.specs.Crew.{AreBack, AreHired, AreReturned, HaveRun, HasRun, IsBack, IsHired, IsReady, IsScriptOf}

-- of each element with its place
abbrev pub AtEach : {X : Type 0} → (ℕ → X → Type 0) → List X → Type 0
AtEach {X} Q xs = (k : ℕ) (d : X) → k < length xs → Q k (get_or xs k d)

pub each_more : {X : Type 0} (Q : ℕ → X → Type 0) (xs : List X) (x : X) → AtEach Q xs → Q (length xs) x → AtEach Q (xs ++ x ∷ [])
each_more {X} Q xs x each last k d here = elim (cases_eq k (length xs)) [
  | inl same ↦ subst (λ (n : ℕ). Q n (get_or (xs ++ x ∷ []) n d)) (sym same) (subst (Q (length xs)) (sym (get_or-append_seam xs x [] d)) last)
  | inr other ↦
      let long : length (xs ++ x ∷ []) ≡ length xs + 1 = length-append xs (x ∷ []) in
      let inside : k < length xs = omega (arith, here, long, other) in
      subst (Q k) (sym (get_or_append_left xs (x ∷ []) d k inside)) (each k d inside)
]

pub each_less : {X : Type 0} (Q : ℕ → X → Type 0) (xs : List X) (x : X) → AtEach Q (xs ++ x ∷ []) → AtEach Q xs
each_less Q xs x each k d here =
    let long : length (xs ++ x ∷ []) ≡ length xs + 1 = length-append xs (x ∷ []) in
    subst (Q k) (get_or_append_left xs (x ∷ []) d k here) (each k d (omega (arith, here, long)))

pub each_last : {X : Type 0} (Q : ℕ → X → Type 0) (xs : List X) (x : X) → AtEach Q (xs ++ x ∷ []) → Q (length xs) x
each_last Q xs x each =
    let long : length (xs ++ x ∷ []) ≡ length xs + 1 = length-append xs (x ∷ []) in
    subst (Q (length xs)) (get_or-append_seam xs x [] x) (each (length xs) x (omega (arith, long)))

-- one more caller is back, with its script
pub returned_more : {P : Type 0} (shared : SharedFacts (Shown P)) (batch : Batch) (callers : List (CallerFacts P)) (scripts : List ScriptCallerView)
    (caller : CallerFacts P) (script : ScriptCallerView) → length scripts ≡ length callers → AreReturned shared batch callers scripts
    → IsBack shared batch (length callers + 1) caller script → AreReturned shared batch (callers ++ caller ∷ []) (scripts ++ script ∷ [])
returned_more {P} shared batch callers scripts caller script same each last k c s here = elim (cases_eq k (length callers)) [
  | inl end ↦
      let first : get_or (callers ++ caller ∷ []) k c ≡ caller = ap (λ n. get_or (callers ++ caller ∷ []) n c) end ∙ get_or-append_seam callers caller [] c in
      let second : get_or (scripts ++ script ∷ []) k s ≡ script = ap (λ n. get_or (scripts ++ script ∷ []) n s) (end ∙ sym same) ∙ get_or-append_seam scripts script [] s in
      subst (λ (z : ℕ × CallerFacts P × ScriptCallerView). IsBack shared batch (z.0 + 1) z.1 z.2) (λ i. (sym end i, sym first i, sym second i)) last
  | inr other ↦
      let long : length (callers ++ caller ∷ []) ≡ length callers + 1 = length-append callers (caller ∷ []) in
      let inside : k < length callers = omega (arith, here, long, other) in
      let first : get_or (callers ++ caller ∷ []) k c ≡ get_or callers k c = get_or_append_left callers (caller ∷ []) c k inside in
      let second : get_or (scripts ++ script ∷ []) k s ≡ get_or scripts k s = get_or_append_left scripts (script ∷ []) s k (omega (arith, inside, same)) in
      subst (λ (z : CallerFacts P × ScriptCallerView). IsBack shared batch (k + 1) z.0 z.1) (λ i. (sym first i, sym second i)) (each k c s inside)
]

-- a script of a batch names no more library contexts than the batch
pub within_batch : (batch : Batch) (n contexts : ℕ) (script : ScriptCallerView) → contexts_of batch.lines ≤ contexts → IsScriptOf batch n script → IsWithin contexts script
within_batch batch n contexts script few of = record { lines = batch.lines; contents = batch.contents; speaks = of.speaks; few = few }

-- a script that was just made
pub script_new : (batch : Batch) (n : ℕ) (script : ScriptCallerView) → script ≡ fresh script.lines script.contents n
    → SpeaksFor batch.lines batch.contents script → IsScriptOf batch n script × IsFreshScript script
script_new batch n script is speaks =
    let caller : script.caller ≡ n = ap (λ (s : ScriptCallerView). s.caller) is in
    (record { caller = caller; speaks = speaks }, is ∙ ap (fresh script.lines script.contents) (sym caller))

-- a worker that was just made
pub hired_new : {P : Type 0} (shared : SharedFacts (Shown P)) (batch : Batch) (n : ℕ) (pass : CallerFacts P) (script : ScriptCallerView)
    (worker : WorkerFacts P) → worker.caller ≡ pass → worker.script ≡ script → CameFrom shared pass → pass.number ≡ n → pass.made ≡ 0
    → pass.own ≡ [] → IsScriptOf batch n script → IsFreshScript script → IsHired shared batch n worker
hired_new {P} shared batch n pass script worker caller_is script_is from number made none of fresh = record {
  from = subst (CameFrom shared) (sym caller_is) from;
  number = ap (λ (c : CallerFacts P). c.number) caller_is ∙ number;
  made = ap (λ (c : CallerFacts P). c.made) caller_is ∙ made;
  none = ap (λ (c : CallerFacts P). c.own) caller_is ∙ none;
  script = subst (IsScriptOf batch n) (sym script_is) of;
  fresh = subst IsFreshScript (sym script_is) fresh;
}

-- workers of a batch may run over as many library contexts as it names
pub all_ready : {P : Type 0} (shared : SharedFacts (Shown P)) (batch : Batch) (workers : List (WorkerFacts P)) → contexts_of batch.lines ≤ shared.origin.contexts
    → AreHired shared batch (length workers) workers → (k : ℕ) (d : WorkerFacts P) → k < length workers → IsReady shared (get_or workers k d)
all_ready shared batch workers few hired k d here =
    let n : ℕ = length workers - k in
    let one : IsHired shared batch (length workers - k) (get_or workers k d) = hired k d here (length workers - k) (omega (arith, here)) in
    record {
      from = one.from;
      none = one.none;
      fresh = one.fresh;
      within = within_batch batch (length workers - k) shared.origin.contexts (get_or workers k d).script few one.script;
    }

-- whatever its replies, a caller of these lines, contents and number says what the batch says
abbrev Says : Batch → List Line → List (List ℕ) → ℕ → Type 0
Says batch lines contents caller = (replies : List Reply)
    → (next_call lines contents caller replies ≡ next_call batch.lines batch.contents caller replies)
    × (results_of lines contents caller replies ≡ results_of batch.lines batch.contents caller replies)
    × (giving_back lines contents caller replies ≡ giving_back batch.lines batch.contents caller replies)

-- a script of the same lines, contents and number is that of the same caller
same_of : (batch : Batch) (n : ℕ) (old new : ScriptCallerView) → IsSameScript old new → IsScriptOf batch n old → IsScriptOf batch n new
same_of batch n old new same of = record {
  caller = same.caller ∙ of.caller;
  speaks = subst (λ (z : List Line × List (List ℕ) × ℕ). Says batch z.0 z.1 z.2) (λ i. (sym same.lines i, sym same.contents i, sym same.caller i)) of.speaks;
}

-- after their runs
pub all_back : {P : Type 0} (shared : SharedFacts (Shown P)) (batch : Batch) (old new : List (WorkerFacts P)) → HaveRun shared old new
    → AreHired shared batch (length old) old → AreBack shared batch (length new) new
all_back shared batch old new run hired k d here n sum =
    let same_length : length new ≡ length old = run.0 in
    let below : k < length old = omega (arith, here, same_length) in
    let was : IsHired shared batch n (get_or old k d) = hired k d below n (omega (arith, sum, same_length)) in
    let did : HasRun shared (get_or old k d) (get_or new k d) = run.1 k d below in (
      record {
        from = did.from.0;
        number = did.from.1 ∙ was.number;
        made = did.from.2 ∙ was.made;
        of_batch = same_of batch n (get_or old k d).script (get_or new k d).script did.same was.script;
        has_made = did.made;
        returned = did.returned;
        nothing = did.nothing;
      },
      did.ended,
    )
