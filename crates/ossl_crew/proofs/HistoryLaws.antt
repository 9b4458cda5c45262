-- A legal history may be gone on with by callers that share its registry.
use Rattle.std.proofs.Common.{◌≡◌, List, [], ◌∷◌, ◌++◌, sym, subst, All, append_assoc}
use Rattle.std.proofs.lemmas.List.{append-nil}
use Rattle.ossl_base.specs.declared.entry.Entry.{Entry}
use Rattle.ossl_calls.specs.Registry.{Shown}
use Rattle.ossl_core.specs.Answered.{CallerFacts}
use Rattle.ossl_print.specs.Batched.{Batch}
use Rattle.ossl_script.specs.View.{ScriptCallerView, fresh}
use Rattle.ossl_state.specs.declared.call.Call.{Call}
use Rattle.ossl_state.specs.declared.call.Reply.{Reply}
use Rattle.ossl_state.specs.declared.state.State.{State}
use Rattle.ossl_state.specs.History.{Fixed, IsLegal, IsNext, IsRun, IsStep, after_entry, state_from}
use Rattle.ossl_state.specs.State.{opening_state}
use Rattle.ossl_turn.specs.History.{IsHistory}
use Rattle.ossl_turn.specs.Passes.{CameFrom, SharedFacts}
use Rattle.ossl_crew.specs.Crew.{AreReturned}

head_is : {X : Type 0} (x y : X) (xs ys : List X) → x ∷ xs ≡ y ∷ ys → x ≡ y
head_is x y xs ys is = cc

tail_is : {X : Type 0} (x y : X) (xs ys : List X) → x ∷ xs ≡ y ∷ ys → xs ≡ ys
tail_is x y xs ys is = cc

-- each entry of a run is a step after those before it
step_at : (fixed : Fixed) (s : State) (past es : List (Entry Call Reply)) → IsRun fixed s past es
    → (before : List (Entry Call Reply)) (e : Entry Call Reply) (after : List (Entry Call Reply)) → es ≡ before ++ e ∷ after
    → IsStep fixed (state_from fixed.facts s before) (past ++ before) e
step_at fixed s past [] run [] e after is = absurd cc
step_at fixed s past [] run (b ∷ before) e after is = absurd cc
step_at fixed s past (x ∷ es) run [] e after is =
    subst (λ (z : List (Entry Call Reply) × Entry Call Reply). IsStep fixed s z.0 z.1)
    (λ i. (sym (append-nil past) i, head_is x e es after is i)) run.0
step_at fixed s past (x ∷ es) run (b ∷ before) e after is =
    let first : x ≡ b = head_is x b es (before ++ e ∷ after) is in
    let rest = step_at fixed (after_entry fixed.facts s x) (past ++ x ∷ []) es run.1 before e after (tail_is x b es (before ++ e ∷ after) is) in
    subst (λ (y : Entry Call Reply). IsStep fixed (state_from fixed.facts (after_entry fixed.facts s y) before) (past ++ y ∷ before) e) first
    (subst (λ l. IsStep fixed (state_from fixed.facts (after_entry fixed.facts s x) before) l e) (append_assoc past (x ∷ []) before) rest)

pub legal_history : (fixed : Fixed) (es : List (Entry Call Reply)) → IsLegal fixed es → IsHistory (IsNext fixed) es
legal_history fixed es legal before e after is = step_at fixed (opening_state fixed.contexts) [] es legal before e after is

-- callers that are back came from the registry that they shared
pub all_came : {P : Type 0} (shared : SharedFacts (Shown P)) (batch : Batch) (callers : List (CallerFacts P)) (scripts : List ScriptCallerView)
    → AreReturned shared batch callers scripts → All (CameFrom shared) callers
all_came shared batch callers scripts back k d here = (back k d (fresh [] [] 0) here).from
