-- Histories with one more entry.
use Rattle.std.proofs.Common.{◌≡◌, ℕ, ◌+◌, Bool, List, [], ◌∷◌, ◌++◌, length, refl, ◌∙◌, arith, append_assoc, inl, inr}
use Rattle.std.specs.Prelude.{if◌then◌else◌, None, Some}
use Rattle.std.specs.declared.option.Option.{Option}
use Rattle.std.proofs.lemmas.Bool.{cases_Bool}
use Rattle.std.proofs.lemmas.Grind.{common_steps}
use Rattle.std.proofs.lemmas.List.{append-nil}
use Rattle.ossl_base.specs.declared.entry.Entry.{Entry}
use Rattle.ossl_provider.specs.Sheet.{Facts}
use Rattle.ossl_state.specs.declared.call.Call.{Call}
use Rattle.ossl_state.specs.declared.call.Call.TheVariants.{Load, Unload, SetDefault, Fetch, UpRef, Free, NewCtx, FreeCtx, CloseLib}
use Rattle.ossl_state.specs.declared.call.Reply.{Reply}
use Rattle.ossl_state.specs.declared.call.Reply.TheVariants.{Loaded, Fetched, Made, Done, Unsupported}
use Rattle.ossl_state.specs.declared.state.Choice.{Choice}
use Rattle.ossl_state.specs.declared.state.Live.{Live}
use Rattle.ossl_state.specs.declared.state.State.{State}
use Rattle.ossl_state.specs.Best.{best_method}
use Rattle.ossl_state.specs.Boxes.{place_of}
use Rattle.ossl_state.specs.History.{Fixed, IsStep, IsRun, IsLegal, IsNext, after_entry, state_from, state_after, says_refused, refusals}
use Rattle.ossl_state.specs.State.{lib_at, is_active_box, opening_state}
use Rattle.ossl_state.specs.Step.{held_instance, with_instance, after_activation, fallback_of, after_fallback_to, after_fallback, after_load, after_unload, holder_of, with_method, with_second, with_context, element_of, left_by}

pub state_from-push : (facts : List Facts) (s : State) (es : List (Entry Call Reply)) (e : Entry Call Reply) →
    state_from facts s (es ++ e ∷ []) ≡ after_entry facts (state_from facts s es) e
state_from-push facts s [] e = refl
state_from-push facts s (x ∷ es) e = state_from-push facts (after_entry facts s x) es e

-- the state after one more entry
pub state_after-push : (fixed : Fixed) (es : List (Entry Call Reply)) (e : Entry Call Reply) →
    state_after fixed (es ++ e ∷ []) ≡ after_entry fixed.facts (state_after fixed es) e
state_after-push fixed es e = state_from-push fixed.facts (opening_state fixed.contexts) es e

IsRun-push : (fixed : Fixed) (s : State) (past es : List (Entry Call Reply)) (e : Entry Call Reply) →
    IsRun fixed s past es → IsStep fixed (state_from fixed.facts s es) (past ++ es) e → IsRun fixed s past (es ++ e ∷ [])
IsRun-push fixed s past [] e run step = (rw append-nil at step, tt)
IsRun-push fixed s past (x ∷ es) e run step =
    (run.0, IsRun-push fixed (after_entry fixed.facts s x) (past ++ x ∷ []) es e run.1 (rw (append_assoc past (x ∷ []) es) step))

-- one more step of a legal history
pub IsLegal-push : (fixed : Fixed) (es : List (Entry Call Reply)) (e : Entry Call Reply) → IsLegal fixed es → IsNext fixed es e → IsLegal fixed (es ++ e ∷ [])
IsLegal-push fixed es e legal next = IsRun-push fixed (opening_state fixed.contexts) [] es e legal next

IsRun-last : (fixed : Fixed) (s : State) (past es : List (Entry Call Reply)) (e : Entry Call Reply) →
    IsRun fixed s past (es ++ e ∷ []) → IsRun fixed s past es × IsStep fixed (state_from fixed.facts s es) (past ++ es) e
IsRun-last fixed s past [] e run = (tt, rw append-nil run.0)
IsRun-last fixed s past (x ∷ es) e run =
    let later = IsRun-last fixed (after_entry fixed.facts s x) (past ++ x ∷ []) es e run.1 in
    ((run.0, later.0), rw (append_assoc past (x ∷ []) es) at later.1)

-- the last entry of a legal history is a step, and what comes before it is a legal history
pub IsLegal-last : (fixed : Fixed) (es : List (Entry Call Reply)) (e : Entry Call Reply) → IsLegal fixed (es ++ e ∷ []) → IsLegal fixed es × IsNext fixed es e
IsLegal-last fixed es e legal = IsRun-last fixed (opening_state fixed.contexts) [] es e legal

pub refusals-push : (name : List ℕ) (es : List (Entry Call Reply)) (e : Entry Call Reply) →
    refusals name (es ++ e ∷ []) ≡ refusals name es + (if says_refused name e.reply then 1 else 0)
refusals-push name [] e = grind (arith, common_steps)
refusals-push name (x ∷ es) e = grind (arith, common_steps, refusals-push name es e)

-- an activation keeps the live elements and the number of the next entry
pub after_activation-live : (facts : List Facts) (s : State) (l k : ℕ) → ((after_activation facts s l k).live ≡ s.live) × ((after_activation facts s l k).next ≡ s.next)
after_activation-live facts s l k = elim (cases_Bool (is_active_box k (lib_at s l).order)) [
  | inl y ↦ rw y (refl, refl)
  | inr n ↦ rw n (instance (held_instance s l k))
]
  where
    instance : (o : Option ℕ) → ((with_instance facts s l k o).live ≡ s.live) × ((with_instance facts s l k o).next ≡ s.next)
    instance None = (refl, refl)
    instance (Some n) = (refl, refl)

-- so does the fallback
pub after_fallback-live : (facts : List Facts) (s : State) (l : ℕ) → ((after_fallback facts s l).live ≡ s.live) × ((after_fallback facts s l).next ≡ s.next)
after_fallback-live facts s l = to (fallback_of facts (lib_at s l))
  where
    to : (o : Option ℕ) → ((after_fallback_to facts s l o).live ≡ s.live) × ((after_fallback_to facts s l o).next ≡ s.next)
    to None = (refl, refl)
    to (Some k) = after_activation-live facts s l k

-- so does a load
pub after_load-live : (facts : List Facts) (s : State) (c l : ℕ) (retain : Bool) (o : Option ℕ) → ((after_load facts s c l retain o).live ≡ s.live) × ((after_load facts s c l retain o).next ≡ s.next)
after_load-live facts s c l retain None = (refl, refl)
after_load-live facts s c l retain (Some k) = after_activation-live facts s l k

-- and an activation that is given back
pub after_unload-live : (facts : List Facts) (s : State) (t : ℕ) (o : Option ℕ) → ((after_unload facts s t o).live ≡ s.live) × ((after_unload facts s t o).next ≡ s.next)
after_unload-live facts s t None = (refl, refl)
after_unload-live facts s t (Some l) = (refl, refl)

with_second-next : (s : State) (c : ℕ) (o : Option Live) → (with_second s c o).next ≡ s.next
with_second-next s c None = refl
with_second-next s c (Some x) = refl

pub with_method-next : (s : State) (c : ℕ) (o : Option Choice) → (with_method s c o).next ≡ s.next
with_method-next s c None = refl
with_method-next s c (Some chosen) = refl

with_context-next : (s : State) (c : ℕ) (inner : Option ℕ) (o : Option Live) → (with_context s c inner o).next ≡ s.next
with_context-next s c inner None = refl
with_context-next s c inner (Some m) = refl

-- no call changes the number of the next entry but by one
pub left_by-next : (facts : List Facts) (s : State) (c : ℕ) (call : Call) (reply : Reply) → (left_by facts s c call reply).next ≡ s.next
left_by-next facts s c (Load l name retain) (Loaded n i skipped) = (after_load-live facts s c l retain (place_of name facts)).1
left_by-next facts s c (Unload t) Done = (after_unload-live facts s t (holder_of s t)).1
left_by-next facts s c (UpRef h) (Made n) = with_second-next s c (element_of s h)
left_by-next facts s c (Fetch l op name q) (Fetched n p i r code) =
    with_method-next (after_fallback facts s l) c (best_method (after_fallback facts s l) l op name q) ∙ (after_fallback-live facts s l).1
left_by-next facts s c (Fetch l op name q) Unsupported = (after_fallback-live facts s l).1
left_by-next facts s c (NewCtx h inner len) (Made n) = with_context-next s c inner (element_of s h)
left_by-next facts s c (SetDefault l q) Done = refl
left_by-next facts s c (Free h) Done = refl
left_by-next facts s c (FreeCtx h) Done = refl
left_by-next facts s c (CloseLib l) Done = refl
left_by-next facts s c call reply = refl

-- the next entry's number is its place, counted from 1
pub next-after : (fixed : Fixed) (es : List (Entry Call Reply)) → (state_after fixed es).next ≡ length es + 1
next-after fixed es = omega (arith, from (opening_state fixed.contexts) es)
  where
    from : (s : State) (es : List (Entry Call Reply)) → (state_from fixed.facts s es).next ≡ s.next + length es
    from s [] = omega arith
    from s (e ∷ es) = omega (arith, from (after_entry fixed.facts s e) es, left_by-next fixed.facts s e.caller e.call e.reply)
