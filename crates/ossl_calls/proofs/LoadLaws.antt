-- What a load may answer, what gives an activation back, and what they leave.
use Rattle.std.proofs.Common.{◌≡◌, ℕ, ◌+◌, ◌<◌, ◌≤◌, Bool, true, false, List, [], ◌∷◌, ◌++◌, length, refl, sym, ◌∙◌, ap, subst, arith}
use Rattle.std.specs.Prelude.{None, Some, IsTrue}
use Rattle.std.specs.declared.option.Option.{Option}
use Rattle.std.specs.Option.{option_map}
use Rattle.std.proofs.lemmas.List.{get_or-set_same}
use Rattle.ossl_base.specs.declared.entry.Entry.{Entry}
use Rattle.ossl_provider.specs.Sheet.{Facts}
use Rattle.ossl_state.specs.declared.call.Call.{Call}
use Rattle.ossl_state.specs.declared.call.Call.TheVariants.{Load, Unload, UpRef}
use Rattle.ossl_state.specs.declared.call.Reply.{Reply}
use Rattle.ossl_state.specs.declared.call.Reply.TheVariants.{Made, StartRefused}
use Rattle.ossl_state.specs.declared.state.Born.{Born}
use Rattle.ossl_state.specs.declared.state.Live.{Live}
use Rattle.ossl_state.specs.declared.state.State.{State}
use Rattle.ossl_state.specs.Boxes.{place_of}
use Rattle.ossl_calls.specs.Events.{Bears, Keeps, Refuses, Takes, unloading, unloading_from}
use Rattle.ossl_state.specs.Going.{answer_of}
use Rattle.ossl_state.specs.History.{Fixed, IsAllowed, IsStep}
use Rattle.ossl_calls.specs.Registry.{are_apart}
use Rattle.ossl_state.specs.Sound.{HasSoundInstances}
use Rattle.ossl_state.specs.State.{lib_at, no_lib}
use Rattle.ossl_state.specs.Step.{activation_given, after_activation, after_load_of, element_of, holder_of, loaded_of, loaded_reply, needs_birth, new_instance, second_method, with_element}
use Rattle.ossl_state.specs.Tokens.{entries_of}
use Rattle.ossl_state.proofs.ChoiceLaws.{element_up}
use Rattle.ossl_calls.proofs.FetchLaws.{activation-bears, activation-keeps, box-refuses, needs-none, needs-start, start-alone}
use Rattle.ossl_state.proofs.SoundLaws.{box_placed, holder_there, instances-activation, up_instances-element, up_instances-order}

-- 1. A load of the box at a place.

module _ (fixed : Fixed) (s : State) (past : List (Entry Call Reply)) (c l : ℕ) (name : List ℕ) (retain : Bool) (k : ℕ)
    (found : place_of name fixed.facts ≡ Some k) (sound : HasSoundInstances fixed s.next s) (within : l < fixed.contexts) where
  abbrev active : State
  active = after_activation fixed.facts s l k

  -- the state that the load leaves, but for the number of the next entry
  abbrev loaded : State
  loaded = after_load_of fixed.facts s c l retain k

  abbrev load_entry : Reply → Entry Call Reply
  load_entry reply = record { caller = c; call = Load l name retain; reply = reply }

  abbrev answered : Reply
  answered = loaded_reply loaded s.next l k

  there : l < length active.libs
  there =
      let here : l < length s.libs = omega (arith, within, sound.contexts) in
      omega (arith, within, (instances-activation fixed s l k here within (box_placed fixed.facts name k found) sound).contexts)

  answer_is : answered ≡ loaded_reply active s.next l k
  answer_is = rw (get_or-set_same active.libs l (loaded_of retain (activation_given s c k) (lib_at active l)) no_lib there) refl

  pub loaded-next : IsAllowed fixed (entries_of c past) (Load l name retain) → IsTrue (lib_at s l).is_open → IsStep fixed s past (load_entry answered)
  loaded-next allowed is_open = record { allowed = allowed; answers = (is_open, rw (found, answer_is) refl) }

  pub loaded-bears : needs_birth s l k ≡ true → (b : Born) × (b.place ≡ k) × Bears fixed.facts s (load_entry answered) loaded b
  loaded-bears needs =
      let why = needs-start s l k needs in
      let b = new_instance fixed.facts s l k in
      let now = activation-bears fixed s l sound within k why.0 why.1 in (
        b,
        refl,
        record {
          leaves = rw found refl;
          no_refusal = λ n. refl;
          born = now.0;
          up = up_instances-order active l (loaded_of retain (activation_given s c k) (lib_at active l)) there refl ∙ now.1;
          number = refl;
          place = box_placed fixed.facts name k found;
        },
      )

  pub loaded-keeps : needs_birth s l k ≡ false → Keeps fixed.facts s (load_entry answered) loaded
  loaded-keeps none =
      let now = activation-keeps fixed s l sound within k (needs-none s l k none) in
      record {
        leaves = rw found refl;
        no_refusal = λ n. refl;
        born = now.0;
        up = up_instances-order active l (loaded_of retain (activation_given s c k) (lib_at active l)) there refl ∙ now.1;
      }

  -- a refused start is a step where the box has no instance up in that context
  pub load-refused : IsAllowed fixed (entries_of c past) (Load l name retain) → IsTrue (lib_at s l).is_open → needs_birth s l k ≡ true → IsStep fixed s past (load_entry (StartRefused name))
  load-refused allowed is_open needs =
      let why = needs-start s l k needs in
      record { allowed = allowed; answers = (is_open, refl, rw found (start-alone fixed s l sound within k why.0 why.1)) }

  pub load-refuses : are_apart fixed.facts ≡ true → Refuses fixed.facts s (load_entry (StartRefused name)) k
  load-refuses apart = box-refuses fixed.facts s c (Load l name retain) name k refl apart found

-- 2. An activation that is given back.

module _ (fixed : Fixed) (s : State) (past : List (Entry Call Reply)) (c t : ℕ) where
  pub unload-next : IsAllowed fixed (entries_of c past) (Unload t) → IsStep fixed s past (record { caller = c; call = Unload t; reply = answer_of (unloading fixed.facts s t) })
  unload-next allowed = of (holder_of s t) refl
    where
      of : (o : Option ℕ) → holder_of s t ≡ o → IsStep fixed s past (record { caller = c; call = Unload t; reply = answer_of (unloading_from fixed.facts s t o) })
      of None none = record { allowed = allowed; answers = none }
      of (Some l) found = record { allowed = allowed; answers = rw found refl }

  pub unload-takes : Takes fixed.facts s (record { caller = c; call = Unload t; reply = answer_of (unloading fixed.facts s t) }) (unloading fixed.facts s t)
  unload-takes = of (holder_of s t) refl
    where
      of : (o : Option ℕ) → holder_of s t ≡ o → Takes fixed.facts s (record { caller = c; call = Unload t; reply = answer_of (unloading_from fixed.facts s t o) }) (unloading_from fixed.facts s t o)
      of None none = record { there = tt; leaves = refl; no_refusal = λ n. refl }
      of (Some l) found = record { there = holder_there s t l found; leaves = rw found refl; no_refusal = λ n. refl }

-- 3. A second method.

second-made : (n c : ℕ) (x : Live) (o : Option Live) → option_map (second_method n c) o ≡ Some x → (m : Live) × (o ≡ Some m) × (x ≡ second_method n c m)
second-made n c x None e = cc
second-made n c x (Some m) e = (m, refl, cc)

second-keeps-of : (facts : List Facts) (s : State) (c h n : ℕ) (m : Live) → element_of s h ≡ Some m →
    Keeps facts s (record { caller = c; call = UpRef h; reply = Made n }) (with_element s (second_method s.next c m))
second-keeps-of facts s c h n m found = record {
  leaves = rw found refl;
  no_refusal = λ n. refl;
  born = refl;
  up = up_instances-element s (second_method s.next c m) (λ b among held. element_up s h m found b held);
}

pub second-keeps : (facts : List Facts) (s : State) (c h n : ℕ) (x : Live) → option_map (second_method s.next c) (element_of s h) ≡ Some x →
    Keeps facts s (record { caller = c; call = UpRef h; reply = Made n }) (with_element s x)
second-keeps facts s c h n x e =
    let made = second-made s.next c x (element_of s h) e in
    let P : Live → Type 0 = λ y. Keeps facts s (record { caller = c; call = UpRef h; reply = Made n }) (with_element s y) in
    subst P (sym made.2) (second-keeps-of facts s c h n made.0 made.1)

-- None never comes in a legal history, and would change nothing
pub second-none : (facts : List Facts) (s : State) (c h n : ℕ) → option_map (second_method s.next c) (element_of s h) ≡ None → Keeps facts s (record { caller = c; call = UpRef h; reply = Made n }) s
second-none facts s c h n none = of (element_of s h) refl none
  where
    of : (o : Option Live) → element_of s h ≡ o → option_map (second_method s.next c) o ≡ None → Keeps facts s (record { caller = c; call = UpRef h; reply = Made n }) s
    of None is e = record { leaves = rw is refl; no_refusal = λ n. refl; born = refl; up = refl }
    of (Some m) is e = cc
