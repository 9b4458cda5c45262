-- The state after a legal history is ordered.
use Rattle.std.proofs.Common.{◌≡◌, ℕ, ◌+◌, ◌<◌, Bool, true, List, [], ◌∷◌, ◌++◌, length, replicate, get_or, refl, sym, arith, suc, zero, inl, inr}
use Rattle.std.specs.List.{list_all}
use Rattle.std.specs.Prelude.{None, Some}
use Rattle.std.specs.declared.option.Option.{Option}
use Rattle.std.proofs.lemmas.Bool.{cases_eq, and_parts, ltb-true, true≢false}
use Rattle.ossl_base.specs.declared.entry.Entry.{Entry}
use Rattle.ossl_provider.specs.Sheet.{Facts}
use Rattle.ossl_state.specs.declared.call.Call.{Call}
use Rattle.ossl_state.specs.declared.call.Call.TheVariants.{Load, Unload, SetDefault, Fetch, UpRef, Free, NewCtx, FreeCtx, CloseLib}
use Rattle.ossl_state.specs.declared.call.Reply.{Reply}
use Rattle.ossl_state.specs.declared.call.Reply.TheVariants.{Loaded, Fetched, Made, Done, NoLib, NoProvider, StartRefused, Unsupported, NotAdmitted}
use Rattle.ossl_state.specs.declared.state.LibCtx.{LibCtx}
use Rattle.ossl_state.specs.declared.state.Live.{Live}
use Rattle.ossl_state.specs.declared.state.State.{State}
use Rattle.ossl_state.specs.Best.{best_method}
use Rattle.ossl_state.specs.Boxes.{place_of}
use Rattle.ossl_state.specs.History.{Fixed, IsRun, after_entry, state_from}
use Rattle.ossl_state.specs.Ordered.{IsOrderedLib, LegalIsOrdered, is_born, is_first_of}
use Rattle.ossl_state.specs.Sound.{HasSoundInstances, IsSound}
use Rattle.ossl_state.specs.State.{fresh_lib, lib_at, no_lib, opening_state, with_lib}
use Rattle.ossl_state.specs.Step.{activation_given, after_activation, after_fallback, after_fallback_to, after_load, after_load_of, after_unload, closed_of, defaulted_of, element_of, fallback_of, holder_of, kept_of, left_by, loaded_of, new_context, new_method, second_method, unloaded_of, used_of, with_second, Answers, IsLoaded}
use Rattle.ossl_state.specs.Tokens.{names_context}
use Rattle.ossl_state.proofs.ActiveLaws.{lib_at-same, lib_at-other}
use Rattle.ossl_state.proofs.LegalLaws.{sound_after, sound_after-entry}
use Rattle.ossl_state.proofs.ListLaws.{all_more}
use Rattle.ossl_state.proofs.OrderLaws.{activation_lib, activation_length, activation_other, closed_ordered, defaulted_ordered, loaded_ordered, unloaded_ordered, used_ordered}
use Rattle.ossl_state.proofs.PlaceLaws.{all_placed, is_placed, placed_activation, placed_context, placed_element, placed_fallback, placed_method, placed_named, placed_without}
use Rattle.ossl_state.proofs.SoundLaws.{fallback_found, holder_there, instances-fallback}
use Rattle.ossl_state.proofs.TokenLaws.{admitted_some, fetched_some}

-- each library context of a state is ordered
abbrev AllOrdered : List Facts → State → Type 0
AllOrdered facts s = (l : ℕ) → IsOrderedLib facts (lib_at s l)

module _ (facts : List Facts) where
  -- one library context changed
  changed : (s : State) (l : ℕ) (lib : LibCtx) → l < length s.libs → IsOrderedLib facts lib →
      ((m : ℕ) → (m ≡ l → ⊥) → IsOrderedLib facts (lib_at s m)) → AllOrdered facts (with_lib s l lib)
  changed s l lib within new old m = elim (cases_eq m l) [
    | inl same ↦ rw (same, lib_at-same s l lib within) new
    | inr other ↦ rw (lib_at-other s l lib within m other) (old m other)
  ]

  -- the library contexts after a load
  load_libs : (s : State) (c l : ℕ) (retain : Bool) (k : ℕ) → l < length s.libs → (lib_at s l).is_open ≡ true →
      AllOrdered facts s → AllOrdered facts (after_load_of facts s c l retain k)
  load_libs s c l retain k within opened h =
      let active = after_activation facts s l k in
      let g = activation_given s c k in
      changed active l (loaded_of retain g (lib_at active l)) (omega (arith, within, activation_length facts s l k))
      (loaded_ordered facts (lib_at s l) (lib_at active l) k retain g refl opened (activation_lib facts s l k within)
      (h l))
      (λ m other. rw (activation_other facts s l k m other within) (h m))

  -- and where a fetch looks
  fallback_libs : (s : State) (l : ℕ) → l < length s.libs → (lib_at s l).is_open ≡ true → AllOrdered facts s →
      AllOrdered facts (after_fallback facts s l)
  fallback_libs s l within opened h = to (fallback_of facts (lib_at s l)) refl
    where
      to : (o : Option ℕ) → fallback_of facts (lib_at s l) ≡ o → AllOrdered facts (after_fallback_to facts s l o)
      to None none = h
      to (Some k) some =
          let active = after_activation facts s l k in
          let found = fallback_found facts (lib_at s l) k some in
          changed active l (used_of (lib_at active l)) (omega (arith, within, activation_length facts s l k))
          (used_ordered facts (lib_at s l) (lib_at active l) k found.1 found.0 opened
          (activation_lib facts s l k within) (h l))
          (λ m other. rw (activation_other facts s l k m other within) (h m))

-- what is kept from step to step
record Keeps (facts : List Facts) (s : State) : Type 0 where
  libs : AllOrdered facts s
  placed : all_placed s ≡ true

-- the state that a step leaves
keeps_after : (fixed : Fixed) (s : State) (c : ℕ) (call : Call) (reply : Reply) →
    names_context fixed.contexts call ≡ true → Answers fixed.facts s c call reply →
    HasSoundInstances fixed s.next s → Keeps fixed.facts s → Keeps fixed.facts (left_by fixed.facts s c call reply)
keeps_after fixed s c (Load l name retain) NoLib there a sound h = h
keeps_after fixed s c (Load l name retain) NoProvider there a sound h = h
keeps_after fixed s c (Load l name retain) (StartRefused p) there a sound h = h
keeps_after fixed s c (Load l name retain) (Loaded n i skipped) there a sound h = loaded (place_of name fixed.facts) a.1
  where
    loaded : (o : Option ℕ) → IsLoaded fixed.facts s l (Loaded n i skipped) o →
        Keeps fixed.facts (after_load fixed.facts s c l retain o)
    loaded None is = absurd is
    loaded (Some k) is = record {
      libs = let lib = ltb-true l fixed.contexts there in load_libs fixed.facts s c l retain k
          (omega (arith, lib, sound.contexts)) a.0 h.libs;
      placed = placed_activation fixed.facts s l k h.placed;
    }
keeps_after fixed s c (Unload t) NoLib there a sound h = h
keeps_after fixed s c (Unload t) Done there a sound h = unloaded (holder_of s t) refl
  where
    unloaded : (o : Option ℕ) → holder_of s t ≡ o → Keeps fixed.facts (after_unload fixed.facts s t o)
    unloaded None none = h
    unloaded (Some l) found = record {
      libs = changed fixed.facts s l (unloaded_of (kept_of fixed.facts (lib_at s l)) t (lib_at s l))
          (holder_there s t l found) (unloaded_ordered fixed.facts (lib_at s l) t (h.libs l)) (λ m other. h.libs m);
      placed = h.placed;
    }
keeps_after fixed s c (UpRef t) (Made n) there a sound h = second (element_of s t) refl
  where
    second : (o : Option Live) → element_of s t ≡ o → Keeps fixed.facts (with_second s c o)
    second None none = h
    second (Some x) found = record {
      libs = h.libs;
      placed = placed_element s (second_method s.next c x) h.placed
          (placed_named s t x h.placed found);
    }
keeps_after fixed s c (SetDefault l q) NoLib there a sound h = h
keeps_after fixed s c (SetDefault l q) Done there a sound h =
    let lib = ltb-true l fixed.contexts there in
    record {
      libs = changed fixed.facts s l (defaulted_of (lib_at s l) q) (omega (arith, lib, sound.contexts))
          (defaulted_ordered fixed.facts (lib_at s l) q (h.libs l)) (λ m other. h.libs m);
      placed = h.placed;
    }
keeps_after fixed s c (Fetch l op name q) NoLib there a sound h = h
keeps_after fixed s c (Fetch l op name q) (StartRefused p) there a sound h = h
keeps_after fixed s c (Fetch l op name q) Unsupported there a sound h =
    let lib = ltb-true l fixed.contexts there in
    record {
      libs = fallback_libs fixed.facts s l
          (omega (arith, lib, sound.contexts)) a.0 h.libs;
      placed = placed_fallback fixed.facts s l h.placed;
    }
keeps_after fixed s c (Fetch l op name q) (Fetched n p i r code) there a sound h =
    let f = after_fallback fixed.facts s l in
    let lib = ltb-true l fixed.contexts there in
    let chosen = fetched_some fixed.facts s.next n p i r code (best_method f l op name q) a.1 in
    rw chosen.1 (record {
      libs = fallback_libs fixed.facts s l (omega (arith, lib, sound.contexts)) a.0 h.libs;
      placed = placed_element f (new_method f.next c chosen.0) (placed_fallback fixed.facts s l h.placed)
          (placed_method fixed (s.next + 1) f c l op name q chosen.0 (instances-fallback fixed s l lib sound) chosen.1);
    })
keeps_after fixed s c (NewCtx t inner len) NotAdmitted there a sound h = h
keeps_after fixed s c (NewCtx t inner len) (Made n) there a sound h =
    let m = admitted_some fixed.facts len (element_of s t) a.0 in
    rw m.1 (record {
      libs = h.libs;
      placed = placed_element s (new_context s c inner m.0) h.placed
          (placed_context s c inner m.0 h.placed (placed_named s t m.0 h.placed m.1));
    })
keeps_after fixed s c (Free t) Done there a sound h = record { libs = h.libs; placed = placed_without s t h.placed }
keeps_after fixed s c (FreeCtx t) Done there a sound h = record { libs = h.libs; placed = placed_without s t h.placed }
keeps_after fixed s c (CloseLib l) NoLib there a sound h = h
keeps_after fixed s c (CloseLib l) Done there a sound h =
    let lib = ltb-true l fixed.contexts there in
    record {
      libs = changed fixed.facts s l (closed_of (lib_at s l)) (omega (arith, lib, sound.contexts))
          (closed_ordered fixed.facts (lib_at s l)) (λ m other. h.libs m);
      placed = h.placed;
    }
keeps_after fixed s c call reply there a sound h = absurd a

keeps_from : (fixed : Fixed) (s : State) (past es : List (Entry Call Reply)) → IsSound fixed s past →
    Keeps fixed.facts s → IsRun fixed s past es → Keeps fixed.facts (state_from fixed.facts s es)
keeps_from fixed s past [] sound h run = h
keeps_from fixed s past (e ∷ es) sound h run =
    let left = keeps_after fixed s e.caller e.call e.reply run.0.allowed.lib run.0.answers sound.instances h in
    keeps_from fixed (after_entry fixed.facts s e) (past ++ e ∷ []) es (sound_after-entry fixed s past e sound run.0)
    (record { libs = left.libs; placed = left.placed }) run.1

-- a library context at the start, or none
fresh_ordered : (facts : List Facts) (n l : ℕ) → IsOrderedLib facts (get_or (replicate n fresh_lib) l no_lib)
fresh_ordered facts zero l = record {
  distinct = refl;
  given = refl;
  kept = refl;
  fallback = λ here used. absurd (true≢false (sym here));
  closed = λ closed. (refl, refl);
}
fresh_ordered facts (suc n) zero = record {
  distinct = refl;
  given = refl;
  kept = refl;
  fallback = λ here used. absurd (true≢false (sym used));
  closed = λ closed. (refl, refl);
}
fresh_ordered facts (suc n) (suc l) = fresh_ordered facts n l

-- the state after a legal history is ordered
pub legal_ordered : LegalIsOrdered
legal_ordered fixed es legal =
    let s = opening_state fixed.contexts in
    let left = keeps_from fixed s [] es (sound_after fixed [] tt)
    (record { libs = fresh_ordered fixed.facts fixed.contexts; placed = refl }) legal in
    let t = state_from fixed.facts s es in
    record {
      libs = left.libs;
      held = all_more (is_placed t.born) (λ (x : Live). list_all (is_born t.born) x.held)
          (λ x h. (and_parts _ _ h).0) t.live left.placed;
      placed = all_more (is_placed t.born) (λ (x : Live). is_first_of t.born x.place x.held)
          (λ x h. (and_parts _ _ h).1) t.live left.placed;
    }
