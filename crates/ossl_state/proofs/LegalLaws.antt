-- The state after a legal history is sound.
use Rattle.std.proofs.Common.{◌≡◌, ℕ, ◌+◌, true, List, [], ◌∷◌, ◌++◌, length, replicate, get_or, refl, sym, ap, subst, arith, append_assoc, suc, zero}
use Rattle.std.specs.Prelude.{None, Some}
use Rattle.std.specs.declared.option.Option.{Option}
use Rattle.std.proofs.lemmas.Bool.{ltb-true, true≢false}
use Rattle.std.proofs.lemmas.List.{append-nil}
use Rattle.ossl_base.specs.declared.entry.Entry.{Entry}
use Rattle.ossl_state.specs.declared.call.Call.{Call}
use Rattle.ossl_state.specs.declared.call.Call.TheVariants.{Load, Unload, SetDefault, Fetch, UpRef, Free, NewCtx, FreeCtx, CloseLib}
use Rattle.ossl_state.specs.declared.call.Reply.{Reply}
use Rattle.ossl_state.specs.declared.call.Reply.TheVariants.{Loaded, Fetched, Made, Done, NoLib, NoProvider, StartRefused, Unsupported, NotAdmitted}
use Rattle.ossl_state.specs.declared.state.Live.{Live}
use Rattle.ossl_state.specs.declared.state.State.{State}
use Rattle.ossl_state.specs.Best.{best_method}
use Rattle.ossl_state.specs.Boxes.{place_of}
use Rattle.ossl_state.specs.History.{Fixed, IsStep, IsRun, IsLegal, after_entry, state_from, state_after}
use Rattle.ossl_state.specs.Sound.{IsSound, HasSoundInstances, lent_after}
use Rattle.ossl_state.specs.State.{fresh_lib, lib_at, no_lib, opening_state}
use Rattle.ossl_state.specs.Step.{after_fallback, after_load, after_unload, element_of, holder_of, kept_of, left_by, new_context, new_method, second_method, with_next, with_second, without_element, Answers, IsLoaded}
use Rattle.ossl_state.specs.Tokens.{owns, entries_of, names_context}
use Rattle.ossl_state.proofs.ChoiceLaws.{method_up, context_up, element_up}
use Rattle.ossl_state.proofs.HistoryLaws.{left_by-next}
use Rattle.ossl_state.proofs.SoundLaws.{instances-more, instances-alike, instances-element, instances-without_element, instances-closed, instances-default, instances-fallback, instances-load, instances-unloaded, box_placed, holder_there}
use Rattle.ossl_state.proofs.TokenLaws.{fetched_some, admitted_some, activations_after, elements_after, lent-push, owns-push, owned_after}

-- the instances and library contexts that a step leaves
pub instances_after : (fixed : Fixed) (s : State) (c : ℕ) (call : Call) (reply : Reply) → names_context fixed.contexts call ≡ true → Answers fixed.facts s c call reply →
    HasSoundInstances fixed s.next s → HasSoundInstances fixed (s.next + 1) (left_by fixed.facts s c call reply)
instances_after fixed s c (Load l name retain) NoLib there a h = instances-more fixed s.next s h
instances_after fixed s c (Load l name retain) NoProvider there a h = instances-more fixed s.next s h
instances_after fixed s c (Load l name retain) (StartRefused p) there a h = instances-more fixed s.next s h
instances_after fixed s c (Load l name retain) (Loaded n i skipped) there a h = loaded (place_of name fixed.facts) refl a.1
  where
    loaded : (o : Option ℕ) → place_of name fixed.facts ≡ o → IsLoaded fixed.facts s l (Loaded n i skipped) o → HasSoundInstances fixed (s.next + 1) (after_load fixed.facts s c l retain o)
    loaded None none is = absurd is
    loaded (Some k) found is = instances-load fixed s c l retain k (ltb-true l fixed.contexts there) (box_placed fixed.facts name k found) h
instances_after fixed s c (Unload t) NoLib there a h = instances-more fixed s.next s h
instances_after fixed s c (Unload t) Done there a h = unloaded (holder_of s t) refl
  where
    unloaded : (o : Option ℕ) → holder_of s t ≡ o → HasSoundInstances fixed (s.next + 1) (after_unload fixed.facts s t o)
    unloaded None none = instances-more fixed s.next s h
    unloaded (Some l) found = instances-unloaded fixed (s.next + 1) s l t (kept_of fixed.facts (lib_at s l)) (holder_there s t l found) (instances-more fixed s.next s h)
instances_after fixed s c (UpRef t) (Made n) there a h = second (element_of s t) refl
  where
    second : (o : Option Live) → element_of s t ≡ o → HasSoundInstances fixed (s.next + 1) (with_second s c o)
    second None none = instances-more fixed s.next s h
    second (Some x) found = instances-element fixed (s.next + 1) s (second_method s.next c x) (λ b among held. element_up s t x found b held) (instances-more fixed s.next s h)
instances_after fixed s c (SetDefault l q) NoLib there a h = instances-more fixed s.next s h
instances_after fixed s c (SetDefault l q) Done there a h =
    let lib = ltb-true l fixed.contexts there in
    instances-default fixed (s.next + 1) s l q (omega (arith, lib, h.contexts)) (instances-more fixed s.next s h)
instances_after fixed s c (Fetch l op name q) NoLib there a h = instances-more fixed s.next s h
instances_after fixed s c (Fetch l op name q) (StartRefused p) there a h = instances-more fixed s.next s h
instances_after fixed s c (Fetch l op name q) Unsupported there a h = instances-fallback fixed s l (ltb-true l fixed.contexts there) h
instances_after fixed s c (Fetch l op name q) (Fetched n p i r code) there a h =
    let f = after_fallback fixed.facts s l in
    let sound = instances-fallback fixed s l (ltb-true l fixed.contexts there) h in
    let chosen = fetched_some fixed.facts s.next n p i r code (best_method f l op name q) a.1 in
    rw chosen.1 (instances-element fixed (s.next + 1) f (new_method f.next c chosen.0) (method_up fixed (s.next + 1) f l op name q chosen.0 sound chosen.1) sound)
instances_after fixed s c (NewCtx t inner len) NotAdmitted there a h = instances-more fixed s.next s h
instances_after fixed s c (NewCtx t inner len) (Made n) there a h =
    let m = admitted_some fixed.facts len (element_of s t) a.0 in
    rw m.1 (instances-element fixed (s.next + 1) s (new_context s c inner m.0) (λ b among held. context_up s c t inner m.0 m.1 b held) (instances-more fixed s.next s h))
instances_after fixed s c (Free t) Done there a h = instances-more fixed s.next (without_element s t) (instances-without_element fixed s.next s t h)
instances_after fixed s c (FreeCtx t) Done there a h = instances-more fixed s.next (without_element s t) (instances-without_element fixed s.next s t h)
instances_after fixed s c (CloseLib l) NoLib there a h = instances-more fixed s.next s h
instances_after fixed s c (CloseLib l) Done there a h =
    let lib = ltb-true l fixed.contexts there in
    instances-closed fixed (s.next + 1) s l (omega (arith, lib, h.contexts)) (instances-more fixed s.next s h)
instances_after fixed s c call reply there a h = absurd a

-- a step keeps soundness
pub sound_after-entry : (fixed : Fixed) (s : State) (past : List (Entry Call Reply)) (e : Entry Call Reply) → IsSound fixed s past → IsStep fixed s past e →
    IsSound fixed (after_entry fixed.facts s e) (past ++ e ∷ [])
sound_after-entry fixed s past e h step =
    let left = left_by fixed.facts s e.caller e.call e.reply in
    let next : left.next ≡ s.next = left_by-next fixed.facts s e.caller e.call e.reply in
    let sound = instances_after fixed s e.caller e.call e.reply step.allowed.lib step.answers h.instances in
    let lent = lent-push past e in
    record {
      instances =
          let P : ℕ → Type 0 = λ n. HasSoundInstances fixed n (with_next left) in
          subst P (ap (λ n. n + 1) (sym next)) (instances-alike fixed (s.next + 1) left (with_next left) sound refl refl refl sound.paired);
      elements = rw next (elements_after fixed.facts s e.caller e.call e.reply step.answers h.elements);
      activations = rw (next, lent) (activations_after fixed.facts s e.caller e.call e.reply (lent_after past) step.answers h.activations);
      owned = λ c t token owned.
          rw lent (owned_after fixed.facts s (entries_of e.caller past) e.caller c t token e.call e.reply (owns (entries_of c past) t token) (lent_after past)
          step.answers h.elements h.activations step.allowed.tokens (h.owned e.caller) (h.owned c t token) (rw owns-push at owned));
    }

sound_from : (fixed : Fixed) (s : State) (past es : List (Entry Call Reply)) → IsSound fixed s past → IsRun fixed s past es → IsSound fixed (state_from fixed.facts s es) (past ++ es)
sound_from fixed s past [] h run = rw append-nil h
sound_from fixed s past (e ∷ es) h run =
    rw (← append_assoc past (e ∷ []) es) (sound_from fixed (after_entry fixed.facts s e) (past ++ e ∷ []) es (sound_after-entry fixed s past e h run.0) run.1)

-- in the opening state no provider is active
fresh_orders : (n l : ℕ) → (get_or (replicate n fresh_lib) l no_lib).order ≡ []
fresh_orders zero l = refl
fresh_orders (suc n) zero = refl
fresh_orders (suc n) (suc l) = fresh_orders n l

length-replicate : (n : ℕ) → length (replicate n fresh_lib) ≡ n
length-replicate zero = refl
length-replicate (suc n) = omega (arith, length-replicate n)

sound_opening : (fixed : Fixed) → IsSound fixed (opening_state fixed.contexts) []
sound_opening fixed = record {
  instances = record {
    distinct = refl;
    below = refl;
    few = omega arith;
    places = refl;
    libs = refl;
    contexts = length-replicate fixed.contexts;
    paired = λ l. rw (fresh_orders fixed.contexts l) refl;
    single = λ k. refl;
  };
  elements = record { distinct = refl; below = refl; few = omega arith };
  activations = record { distinct = refl; below = refl };
  owned = λ c t token owned. absurd (true≢false (sym owned));
}

-- the state after a legal history is sound
pub sound_after : (fixed : Fixed) (es : List (Entry Call Reply)) → IsLegal fixed es → IsSound fixed (state_after fixed es) es
sound_after fixed es legal = sound_from fixed (opening_state fixed.contexts) [] es (sound_opening fixed) legal
