-- What a fetch may answer, and what it leaves.
use Rattle.std.proofs.Common.{◌≡◌, ℕ, ◌+◌, ◌<◌, ◌≤◌, Bool, true, false, ◌&&◌, not, ◌⊎◌, List, [], ◌∷◌, ◌++◌, length, refl, sym, ◌∙◌, ap, subst, arith, inl, inr, suc, zero}
use Rattle.std.proofs.Math.ListN.{length-set}
use Rattle.std.specs.List.{list_any}
use Rattle.std.specs.Prelude.{None, Some, IsTrue, is_none}
use Rattle.std.specs.Str.{bytes_eq}
use Rattle.std.specs.declared.option.Option.{Option}
use Rattle.std.proofs.lemmas.Bool.{cases_Bool, and_parts, true≢false, false_from_ne_true}
use Rattle.std.proofs.lemmas.List.Folds.{list_any_at}
use Rattle.std.proofs.lemmas.List.Quantifiers.{position-Some}
use Rattle.std.proofs.lemmas.Slice.Eq.{bytes_eq-Decides}
use Rattle.ossl_base.specs.declared.entry.Entry.{Entry}
use Rattle.ossl_provider.specs.Sheet.{Facts}
use Rattle.ossl_codes.specs.declared.code.Operation.{Operation}
use Rattle.ossl_state.specs.declared.call.Call.{Call}
use Rattle.ossl_state.specs.declared.call.Call.TheVariants.{SetDefault, Fetch, NewCtx}
use Rattle.ossl_property.specs.declared.clause.Clause.{Clause}
use Rattle.ossl_state.specs.declared.call.Reply.{Reply}
use Rattle.ossl_state.specs.declared.call.Reply.TheVariants.{Made, Done, StartRefused}
use Rattle.ossl_state.specs.declared.state.Born.{Born}
use Rattle.ossl_state.specs.declared.state.Choice.{Choice}
use Rattle.ossl_state.specs.declared.state.Live.{Live}
use Rattle.ossl_state.specs.declared.state.State.{State}
use Rattle.ossl_state.specs.Best.{best_method}
use Rattle.ossl_state.specs.Boxes.{facts_at, place_of, default_name}
use Rattle.ossl_calls.specs.Events.{Keeps, Bears, Refuses}
use Rattle.ossl_state.specs.History.{Fixed, IsAllowed, IsStep}
use Rattle.ossl_calls.specs.Registry.{are_apart}
use Rattle.ossl_state.specs.Sound.{HasSoundInstances, giving_back}
use Rattle.ossl_state.specs.State.{lib_at, with_lib, is_active_box, up_in, up_instances}
use Rattle.ossl_state.specs.Step.{context_made, needs_birth, after_activation, after_fallback, element_of, new_context, with_element, fallback_of, fetched_of, defaulted_of, with_default, grouped_of, left_by, offer_of, held_instance, new_instance, new_method, used_of, joined_of, with_active, with_born, with_fallback_used, with_method}
use Rattle.ossl_state.specs.Tokens.{entries_of}
use Rattle.ossl_state.proofs.ActiveLaws.{held_is, nothing_up}
use Rattle.ossl_state.proofs.ChoiceLaws.{method_up, context_up}
use Rattle.ossl_state.proofs.HistoryLaws.{after_activation-live, with_method-next}
use Rattle.ossl_calls.proofs.RoomLaws.{method-room, fallback-room}
use Rattle.ossl_state.proofs.SoundLaws.{fallback_found, fallback_placed, up_instances-order, up_instances-held, up_instances-element, up_instances-born, instances-fallback}

module _ (fixed : Fixed) (s : State) (l : ℕ) (sound : HasSoundInstances fixed s.next s) (within : l < fixed.contexts) where
  here : l < length s.libs
  here = omega (arith, within, sound.contexts)

  -- an activation that starts nothing
  pub activation-keeps : (k : ℕ) → (is_active_box k (lib_at s l).order ≡ true) ⊎ ((i : ℕ) × (is_active_box k (lib_at s l).order ≡ false) × (held_instance s l k ≡ Some i)) →
      let a = after_activation fixed.facts s l k in (a.born ≡ s.born) × (up_instances a ≡ up_instances s) × (length a.libs ≡ length s.libs)
  activation-keeps k (inl active) = rw active (refl, refl, refl)
  activation-keeps k (inr (i, absent, found)) =
      rw (absent, found) (refl, up_instances-held s l k i here (held_is s l k i found).0, length-set s.libs l (joined_of (lib_at s l) k i))

  -- a fallback that starts nothing
  pub fallback-keeps : (k : ℕ) → (is_active_box k (lib_at s l).order ≡ true) ⊎ ((i : ℕ) × (is_active_box k (lib_at s l).order ≡ false) × (held_instance s l k ≡ Some i)) →
      let f = with_fallback_used (after_activation fixed.facts s l k) l in (f.born ≡ s.born) × (up_instances f ≡ up_instances s)
  fallback-keeps k why =
      let a = after_activation fixed.facts s l k in
      let kept = activation-keeps k why in
      (kept.0, up_instances-order a l (used_of (lib_at a l)) (omega (arith, here, kept.2)) refl ∙ kept.1)

  -- an activation that starts the box
  pub activation-bears : (k : ℕ) → is_active_box k (lib_at s l).order ≡ false → held_instance s l k ≡ None →
      let a = after_activation fixed.facts s l k in let b = new_instance fixed.facts s l k in (a.born ≡ s.born ++ b ∷ []) × (up_instances a ≡ up_instances s ++ b ∷ []) × (length a.libs ≡ length s.libs)
  activation-bears k absent none =
      let b = new_instance fixed.facts s l k in
      let lib = grouped_of (lib_at s l) (offer_of fixed.facts s l k).groups in
      let g = with_lib s l lib in
      let a = with_active (with_born g b) l k s.next in
      let is : after_activation fixed.facts s l k ≡ a = rw (absent, none) refl in
      let inside : l < length g.libs = omega (arith, here, length-set s.libs l lib) in
      let alike : up_instances g ≡ up_instances s = up_instances-order s l lib here refl in
      rw is (
        refl,
        up_instances-born g l k b inside refl refl sound.below ∙ ap (λ bs. bs ++ b ∷ []) alike,
        length-set g.libs l (joined_of (lib_at g l) k s.next) ∙ length-set s.libs l lib,
      )

  -- a fallback that starts the box
  pub fallback-bears : (k : ℕ) → is_active_box k (lib_at s l).order ≡ false → held_instance s l k ≡ None →
      let f = with_fallback_used (after_activation fixed.facts s l k) l in let b = new_instance fixed.facts s l k in (f.born ≡ s.born ++ b ∷ []) × (up_instances f ≡ up_instances s ++ b ∷ [])
  fallback-bears k absent none =
      let a = after_activation fixed.facts s l k in
      let bears = activation-bears k absent none in
      (bears.0, up_instances-order a l (used_of (lib_at a l)) (omega (arith, here, bears.2)) refl ∙ bears.1)

  -- a box that needs a start has no instance that is up
  pub start-alone : (k : ℕ) → is_active_box k (lib_at s l).order ≡ false → held_instance s l k ≡ None → up_in s l k ≡ []
  start-alone k absent none = nothing_up s l k sound.distinct (sound.paired l) absent none

module _ (fixed : Fixed) (s : State) (past : List (Entry Call Reply)) (c l : ℕ) (op : Operation) (name : List ℕ) (query : List Clause) where
  abbrev pub fetch_entry : Reply → Entry Call Reply
  fetch_entry reply = record { caller = c; call = Fetch l op name query; reply = reply }

  -- what a fetch answers of its choice is a step
  pub fetched-next : IsAllowed fixed (entries_of c past) (Fetch l op name query) → IsTrue (lib_at s l).is_open → (o : Option Choice) → best_method (after_fallback fixed.facts s l) l op name query ≡ o →
      IsStep fixed s past (fetch_entry (fetched_of fixed.facts s.next o))
  fetched-next allowed is_open None e = record { allowed = allowed; answers = (is_open, e) }
  fetched-next allowed is_open (Some chosen) e = record { allowed = allowed; answers = (is_open, ap (fetched_of fixed.facts s.next) (sym e)) }

  pub fetched-keeps : HasSoundInstances fixed s.next s → l < fixed.contexts → (after_fallback fixed.facts s l).born ≡ s.born → up_instances (after_fallback fixed.facts s l) ≡ up_instances s →
      (o : Option Choice) → best_method (after_fallback fixed.facts s l) l op name query ≡ o → Keeps fixed.facts s (fetch_entry (fetched_of fixed.facts s.next o)) (with_method (after_fallback fixed.facts s l) c o)
  fetched-keeps sound within born up None e = record { leaves = refl; no_refusal = λ n. refl; born = born; up = up }
  fetched-keeps sound within born up (Some chosen) e =
      let f = after_fallback fixed.facts s l in
      record {
        leaves = ap (with_method f c) e;
        no_refusal = λ n. refl;
        born = born;
        up = up_instances-element f (new_method f.next c chosen) (method_up fixed (s.next + 1) f l op name query chosen (instances-fallback fixed s l within sound) e) ∙ up;
      }

  pub fetched-bears : HasSoundInstances fixed s.next s → l < fixed.contexts → (b : Born) → (after_fallback fixed.facts s l).born ≡ s.born ++ b ∷ [] → up_instances (after_fallback fixed.facts s l) ≡ up_instances s ++ b ∷ [] →
      b.number ≡ s.next → b.place < length fixed.facts →
      (o : Option Choice) → best_method (after_fallback fixed.facts s l) l op name query ≡ o → Bears fixed.facts s (fetch_entry (fetched_of fixed.facts s.next o)) (with_method (after_fallback fixed.facts s l) c o) b
  fetched-bears sound within b born up number place None e = record { leaves = refl; no_refusal = λ n. refl; born = born; up = up; number = number; place = place }
  fetched-bears sound within b born up number place (Some chosen) e =
      let f = after_fallback fixed.facts s l in
      record {
        leaves = ap (with_method f c) e;
        no_refusal = λ n. refl;
        born = born;
        up = up_instances-element f (new_method f.next c chosen) (method_up fixed (s.next + 1) f l op name query chosen (instances-fallback fixed s l within sound) e) ∙ up;
        number = number;
        place = place;
      }

  -- a refused start is a step where the box has no instance up in that context
  pub refused-next : IsAllowed fixed (entries_of c past) (Fetch l op name query) → IsTrue (lib_at s l).is_open → (k : ℕ) → fallback_of fixed.facts (lib_at s l) ≡ Some k → up_in s l k ≡ [] →
      IsStep fixed s past (fetch_entry (StartRefused default_name))
  refused-next allowed is_open k found alone =
      let parts = fallback_found fixed.facts (lib_at s l) k found in
      record { allowed = allowed; answers = (is_open, parts.0, refl, rw parts.1 alone) }

-- names that a test finds equal are
names-same : (a b : List ℕ) → bytes_eq a b ≡ true → a ≡ b
names-same a b e = (bytes_eq-Decides a b).0 e

names-equal : (a b : List ℕ) → a ≡ b → bytes_eq a b ≡ true
names-equal a b e = (bytes_eq-Decides a b).1 e

-- two boxes at two places have two names
apart_at : (facts : List Facts) (j k : ℕ) → are_apart facts ≡ true → j < length facts → k < length facts → (j ≡ k → ⊥) → (facts_at facts j).name ≡ (facts_at facts k).name → ⊥
apart_at [] j k apart in_j in_k differ same = absurd (omega arith)
apart_at (f ∷ facts) zero zero apart in_j in_k differ same = differ refl
apart_at (f ∷ facts) zero (suc k) apart in_j in_k differ same =
    let parts = and_parts (not (list_any (λ f'. bytes_eq f'.name f.name) facts)) (are_apart facts) apart in
    let some = list_any_at (λ (f' : Facts). bytes_eq f'.name f.name) facts k (facts_at [] 0) (omega arith) (names-equal (facts_at facts k).name f.name (sym same)) in
    true≢false (sym (rw some at parts.0))
apart_at (f ∷ facts) (suc j) zero apart in_j in_k differ same =
    let parts = and_parts (not (list_any (λ f'. bytes_eq f'.name f.name) facts)) (are_apart facts) apart in
    let some = list_any_at (λ (f' : Facts). bytes_eq f'.name f.name) facts j (facts_at [] 0) (omega arith) (names-equal (facts_at facts j).name f.name same) in
    true≢false (sym (rw some at parts.0))
apart_at (f ∷ facts) (suc j) (suc k) apart in_j in_k differ same =
    let parts = and_parts (not (list_any (λ f'. bytes_eq f'.name f.name) facts)) (are_apart facts) apart in
    apart_at facts j k parts.1 (omega arith) (omega arith) (λ q. differ (ap (λ n. suc n) q)) same

-- a refused start is one of the box of that name alone
pub box-refuses : (facts : List Facts) (s : State) (c : ℕ) (call : Call) (name : List ℕ) (k : ℕ) → left_by facts s c call (StartRefused name) ≡ s → are_apart facts ≡ true → place_of name facts ≡ Some k →
    Refuses facts s (record { caller = c; call = call; reply = StartRefused name }) k
box-refuses facts s c call name k leaves apart found =
    let at_k = position-Some (λ f. bytes_eq f.name name) facts k (facts_at [] 0) found in
    let same : (facts_at facts k).name ≡ name = names-same (facts_at facts k).name name at_k.1 in
    record {
      leaves = leaves;
      here = names-equal name (facts_at facts k).name (sym same);
      others = λ j below differ. false_from_ne_true (bytes_eq name (facts_at facts j).name) (λ e.
          apart_at facts j k apart below at_k.0 differ (sym (names-same name (facts_at facts j).name e) ∙ sym same));
    }

-- a refused start of a fetch is one of the box `default` alone
pub refused-refuses : (facts : List Facts) (s : State) (c l : ℕ) (op : Operation) (name : List ℕ) (query : List Clause) (k : ℕ) → are_apart facts ≡ true → fallback_of facts (lib_at s l) ≡ Some k →
    Refuses facts s (record { caller = c; call = Fetch l op name query; reply = StartRefused default_name }) k
refused-refuses facts s c l op name query k apart found = box-refuses facts s c (Fetch l op name query) default_name k refl apart (fallback_found facts (lib_at s l) k found).1

-- a default query that is set
pub default-keeps : (facts : List Facts) (s : State) (c l : ℕ) (query : List Clause) → l < length s.libs →
    Keeps facts s (record { caller = c; call = SetDefault l query; reply = Done }) (with_default s l query)
default-keeps facts s c l query within = record {
  leaves = refl;
  no_refusal = λ n. refl;
  born = refl;
  up = up_instances-order s l (defaulted_of (lib_at s l) query) within refl;
}

-- a fetch that does not fall back
pub plain-next : (fixed : Fixed) (s : State) (past : List (Entry Call Reply)) (c l : ℕ) (op : Operation) (name : List ℕ) (query : List Clause) → IsAllowed fixed (entries_of c past) (Fetch l op name query) →
    IsTrue (lib_at s l).is_open → fallback_of fixed.facts (lib_at s l) ≡ None → (o : Option Choice) → o ≡ best_method s l op name query →
    IsStep fixed s past (record { caller = c; call = Fetch l op name query; reply = fetched_of fixed.facts s.next o })
plain-next fixed s past c l op name query allowed is_open none o e = fetched-next fixed s past c l op name query allowed is_open o (rw none (sym e))

-- and what it leaves
pub plain-keeps : (fixed : Fixed) (s : State) (c l : ℕ) (op : Operation) (name : List ℕ) (query : List Clause) → HasSoundInstances fixed s.next s → fallback_of fixed.facts (lib_at s l) ≡ None →
    let o = best_method s l op name query in
    Keeps fixed.facts s (record { caller = c; call = Fetch l op name query; reply = fetched_of fixed.facts s.next o }) (with_method s c o)
plain-keeps fixed s c l op name query sound none = of (best_method s l op name query) refl
  where
    of : (o : Option Choice) → best_method s l op name query ≡ o →
        Keeps fixed.facts s (record { caller = c; call = Fetch l op name query; reply = fetched_of fixed.facts s.next o }) (with_method s c o)
    of None e = record { leaves = rw none refl; no_refusal = λ n. refl; born = refl; up = refl }
    of (Some chosen) e = record {
      leaves = rw (none, e) refl;
      no_refusal = λ n. refl;
      born = refl;
      up = up_instances-element s (new_method s.next c chosen) (method_up fixed s.next s l op name query chosen sound e);
    }

context-made : (facts : List Facts) (s : State) (c : ℕ) (inner : Option ℕ) (len : ℕ) (x : Live) (o : Option Live) → context_made facts s c inner len o ≡ Some x → (m : Live) × (o ≡ Some m) × (x ≡ new_context s c inner m)
context-made facts s c inner len x None e = cc
context-made facts s c inner len x (Some m) e = elim (cases_Bool ((facts_at facts m.place).admits m.code len)) [
  | inl admitted ↦ (m, refl, let made = (rw admitted at e) in cc)
  | inr refused ↦ let none = (rw refused at e) in cc
]

context-keeps-of : (facts : List Facts) (s : State) (c h : ℕ) (inner : Option ℕ) (len n : ℕ) (m : Live) → element_of s h ≡ Some m →
    Keeps facts s (record { caller = c; call = NewCtx h inner len; reply = Made n }) (with_element s (new_context s c inner m))
context-keeps-of facts s c h inner len n m found = record {
  leaves = rw found refl;
  no_refusal = λ n. refl;
  born = refl;
  up = up_instances-element s (new_context s c inner m) (λ b among held. context_up s c h inner m found b held);
}

-- an operation context that is made
pub context-keeps : (facts : List Facts) (s : State) (c h : ℕ) (inner : Option ℕ) (len n : ℕ) (x : Live) → context_made facts s c inner len (element_of s h) ≡ Some x →
    Keeps facts s (record { caller = c; call = NewCtx h inner len; reply = Made n }) (with_element s x)
context-keeps facts s c h inner len n x e =
    let made = context-made facts s c inner len x (element_of s h) e in
    let P : Live → Type 0 = λ y. Keeps facts s (record { caller = c; call = NewCtx h inner len; reply = Made n }) (with_element s y) in
    subst P (sym made.2) (context-keeps-of facts s c h inner len n made.0 made.1)

none-is : (o : Option ℕ) → is_none o ≡ true → o ≡ None
none-is None e = refl
none-is (Some n) e = absurd (true≢false (sym e))

not-true : (b : Bool) → not b ≡ true → b ≡ false
not-true false e = refl
not-true true e = absurd (true≢false (sym e))

-- why a box is started
pub needs-start : (s : State) (l k : ℕ) → needs_birth s l k ≡ true → (is_active_box k (lib_at s l).order ≡ false) × (held_instance s l k ≡ None)
needs-start s l k needs =
    let parts = and_parts (not (is_active_box k (lib_at s l).order)) (is_none (held_instance s l k)) needs in
    (not-true _ parts.0, none-is _ parts.1)

-- why it is not
pub needs-none : (s : State) (l k : ℕ) → needs_birth s l k ≡ false → (is_active_box k (lib_at s l).order ≡ true) ⊎ ((i : ℕ) × (is_active_box k (lib_at s l).order ≡ false) × (held_instance s l k ≡ Some i))
needs-none s l k none = elim (cases_Bool (is_active_box k (lib_at s l).order)) [
  | inl active ↦ inl active
  | inr absent ↦ inr (of_held absent (held_instance s l k) refl (rw absent at none))
]
  where
    of_held : is_active_box k (lib_at s l).order ≡ false → (o : Option ℕ) → held_instance s l k ≡ o → (true && is_none o) ≡ false → (i : ℕ) × (is_active_box k (lib_at s l).order ≡ false) × (held_instance s l k ≡ Some i)
    of_held absent None found e = absurd (true≢false e)
    of_held absent (Some i) found e = (i, absent, found)

-- the state that a fetch which falls back leaves, but for the number of the next entry
pub falling-next : (fixed : Fixed) (s : State) (c l k : ℕ) (o : Option Choice) → (with_method (with_fallback_used (after_activation fixed.facts s l k) l) c o).next ≡ s.next
falling-next fixed s c l k o = with_method-next (with_fallback_used (after_activation fixed.facts s l k) l) c o ∙ (after_activation-live fixed.facts s l k).1

-- a fetch that falls back to a box
module _ (fixed : Fixed) (s : State) (past : List (Entry Call Reply)) (c l : ℕ) (op : Operation) (name : List ℕ) (query : List Clause) (k : ℕ) (left : State) (chosen : Option Choice)
    (found : fallback_of fixed.facts (lib_at s l) ≡ Some k) (sound : HasSoundInstances fixed s.next s) (within : l < fixed.contexts)
    (left_is : left ≡ with_fallback_used (after_activation fixed.facts s l k) l) (chosen_is : chosen ≡ best_method left l op name query) where
  falls : left ≡ after_fallback fixed.facts s l
  falls = left_is ∙ sym (rw found refl)

  best_is : best_method (after_fallback fixed.facts s l) l op name query ≡ chosen
  best_is = sym (rw falls at chosen_is)

  pub falling-bears : needs_birth s l k ≡ true →
      (b : Born) × (b.place ≡ k) × Bears fixed.facts s (record { caller = c; call = Fetch l op name query; reply = fetched_of fixed.facts s.next chosen }) (with_method left c chosen) b
  falling-bears needs =
      let why = needs-start s l k needs in
      let b = new_instance fixed.facts s l k in
      let P : State → Type 0 = λ f. (f.born ≡ s.born ++ b ∷ []) × (up_instances f ≡ up_instances s ++ b ∷ []) in
      let now = subst P (sym left_is ∙ falls) (fallback-bears fixed s l sound within k why.0 why.1) in
      (b, refl, rw falls (fetched-bears fixed s past c l op name query sound within b now.0 now.1 refl (fallback_placed fixed.facts (lib_at s l) k found) chosen best_is))

  pub falling-keeps : needs_birth s l k ≡ false →
      Keeps fixed.facts s (record { caller = c; call = Fetch l op name query; reply = fetched_of fixed.facts s.next chosen }) (with_method left c chosen)
  falling-keeps none =
      let P : State → Type 0 = λ f. (f.born ≡ s.born) × (up_instances f ≡ up_instances s) in
      let now = subst P (sym left_is ∙ falls) (fallback-keeps fixed s l sound within k (needs-none s l k none)) in
      rw falls (fetched-keeps fixed s past c l op name query sound within now.0 now.1 chosen best_is)

  pub falling-room : giving_back (with_method left c chosen) ≤ giving_back s + 1
  falling-room = rw left_is (omega (arith, method-room (with_fallback_used (after_activation fixed.facts s l k) l) c chosen, fallback-room fixed.facts s l k))

  pub falling-refused : IsAllowed fixed (entries_of c past) (Fetch l op name query) → IsTrue (lib_at s l).is_open → needs_birth s l k ≡ true →
      IsStep fixed s past (record { caller = c; call = Fetch l op name query; reply = StartRefused default_name })
  falling-refused allowed is_open needs =
      let why = needs-start s l k needs in
      refused-next fixed s past c l op name query allowed is_open k found (start-alone fixed s l sound within k why.0 why.1)
