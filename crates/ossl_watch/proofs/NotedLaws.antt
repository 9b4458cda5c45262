-- A watch that agrees with a state agrees with the one after an entry, once it has taken the entry in.
use Rattle.std.proofs.Common.{◌≡◌, ℕ, ◌+◌, ◌<◌, Bool, true, false, not, ◌||◌, ◌&&◌, nat_eq, nat_lt, List, [], ◌∷◌, ◌++◌, length, map, get_or, refl, sym, ◌∙◌, ap, subst, arith, cond, inl, inr, length-append}
use Rattle.std.proofs.Math.ListN.{set, length-set}
use Rattle.std.specs.List.{list_any, list_all, filter, find, position}
use Rattle.std.specs.Prelude.{None, Some}
use Rattle.std.specs.declared.option.Option.{Option}
use Rattle.std.proofs.lemmas.Bool.{cases_Bool, cases_eq, and_parts, both_ways, eqb-true, eq-eqb, ltb-true, ne_eqb, true≢false}
use Rattle.std.proofs.lemmas.Grind.{common_steps}
use Rattle.std.proofs.lemmas.List.{get_or-set_same, get_or-set_other}
use Rattle.std.proofs.lemmas.List.Quantifiers.{position-Some}
use Rattle.ossl_base.specs.declared.entry.Entry.{Entry}
use Rattle.ossl_codes.specs.declared.code.Operation.{Operation}
use Rattle.ossl_property.specs.declared.clause.Clause.{Clause}
use Rattle.ossl_provider.specs.Members.{is_in}
use Rattle.ossl_provider.specs.Sheet.{Facts}
use Rattle.ossl_state.specs.declared.call.Call.{Call}
use Rattle.ossl_state.specs.declared.call.Call.TheVariants.{Load, Unload, SetDefault, Fetch, UpRef, Free, NewCtx, FreeCtx, CloseLib}
use Rattle.ossl_state.specs.declared.call.Reply.{Reply}
use Rattle.ossl_state.specs.declared.call.Reply.TheVariants.{Loaded, Fetched, Made, Done, NoLib, NoProvider, StartRefused, Unsupported, NotAdmitted}
use Rattle.ossl_state.specs.declared.state.Born.{Born}
use Rattle.ossl_state.specs.declared.state.Choice.{Choice}
use Rattle.ossl_state.specs.declared.state.Given.{Given}
use Rattle.ossl_state.specs.declared.state.Kind.{Kind}
use Rattle.ossl_state.specs.declared.state.Kind.TheVariants as kinds
use Rattle.ossl_state.specs.declared.state.LibCtx.{LibCtx}
use Rattle.ossl_state.specs.declared.state.Live.{Live}
use Rattle.ossl_state.specs.declared.state.State.{State}
use Rattle.ossl_state.specs.Best.{best_method}
use Rattle.ossl_state.specs.Boxes.{place_of, default_name}
use Rattle.ossl_state.specs.History.{Fixed, IsStep, after_entry}
use Rattle.ossl_state.specs.Ordered.{IsOrdered, IsOrderedLib}
use Rattle.ossl_state.specs.Sound.{HasSoundElements, HasSoundInstances, IsSound, is_kind, is_own, lent_after, number_of_live}
use Rattle.ossl_state.specs.State.{is_active, is_held, is_up, lib_at, no_lib, up_instances}
use Rattle.ossl_state.specs.Step.{Answers, IsLoaded, activation_given, admits, after_activation, after_fallback, after_fallback_to, after_unload, closed_of, defaulted_of, element_of, fallback_of, fetched_of, held_by_inner, holder_of, is_armed, is_named, is_owned_by, is_of_token, kept_of, left_by, loaded_of, new_context, new_method, second_method, unloaded_of, used_of, with_closed, with_default, with_element, with_fallback_used, with_given, with_next, with_unloaded, without_element}
use Rattle.ossl_state.specs.Tokens.{entries_of, method_token, context_token, names_context, owns, owns_named, Token as Kinds}
use Rattle.ossl_state.proofs.ActiveLaws.{lib_at-other, lib_at-same, up_after_closing, up_after_settling}
use Rattle.ossl_state.proofs.ChoiceLaws.{context_up, element_up, method_up}
use Rattle.ossl_state.proofs.HistoryLaws.{after_activation-live, after_fallback-live}
use Rattle.ossl_state.proofs.LegalLaws.{instances_after}
use Rattle.ossl_state.proofs.ListLaws.{IsAmong, all_fewer, any_both, any_fewer, any_more, any_witness, distinct_fewer, find_none, find_some, length-filter}
use Rattle.ossl_state.proofs.OrderLaws.{activation_length}
use Rattle.ossl_state.proofs.SoundLaws.{fallback_found, holder_there, instances-fallback, up_instances-element, up_instances-order}
use Rattle.ossl_state.proofs.TokenLaws.{admitted_some, fetched_some}
use Rattle.ossl_watch.specs.declared.token.Token.{Token}
use Rattle.ossl_watch.specs.declared.token.Token.TheVariants.{Activation, Method, Context}
use Rattle.ossl_watch.specs.declared.token.Use.{Use}
use Rattle.ossl_watch.specs.declared.token.Use.TheVariants.{Activated, Deactivated, Held, Released, Closed}
use Rattle.ossl_watch.specs.Watched.{Watched, activated, after_use, armed_after, closed, context_made, ended_by, fallback_at, fallen, handed, handed_if, held_of, left_after, loaded, noted, noted_by, spent, spent_as, token_at, with_box, with_token, without_token}
use Rattle.ossl_watch.specs.Watching.{Agrees, IsTokenOf, number_of_given, running_in, running_of, token_kind}
use Rattle.ossl_watch.proofs.ActivationLaws.{activation_libs, activation_running, alike}
use Rattle.ossl_watch.proofs.AgreeLaws.{ElementsAgree, LibsAgree, elements_handed, elements_push, elements_unloaded, elements_without, given_distinct, given_less, given_push, given_without, libs_alike, libs_handed, libs_more, libs_replaced, libs_without, switched_here, switched_length, switched_other}
use Rattle.ossl_watch.proofs.TableLaws.{token_at-without}
use Rattle.ossl_watch.proofs.UpLaws.{of_number}
use Rattle.ossl_watch.proofs.RunningLaws.{closed_each, given_each, held_each, released_each, running_left, running_mapped, running_same, unloaded_each, used_each}

is_method : (k : Kind) → is_kind k kinds.Method ≡ true → k ≡ kinds.Method
is_method kinds.Method h = refl
is_method kinds.Context h = absurd (true≢false (sym h))

is_owned_method : (c : ℕ) (x : Live) → is_own c kinds.Method x ≡ true → x.kind ≡ kinds.Method
is_owned_method c x own = is_method x.kind (and_parts (is_owned_by c x) (is_kind x.kind kinds.Method) own).1

-- a token that a caller owns names a live element, a method's one a method
pub element_some : (s : State) (c t : ℕ) (kind : Kind) → HasSoundElements s.next s.live → list_any (λ x. nat_eq x.number t && is_own c kind x) s.live ≡ true → (x : Live) × (element_of s t ≡ Some x) × (is_own c kind x ≡ true)
element_some s c t kind h mine = of (element_of s t) refl
  where
    of : (o : Option Live) → element_of s t ≡ o → (x : Live) × (element_of s t ≡ Some x) × (is_own c kind x ≡ true)
    of None none = absurd (both_ways _ (find_none (is_named t) s.live none) (any_more (λ (x : Live). nat_eq x.number t && is_own c kind x) (is_named t) (λ x e. (and_parts (nat_eq x.number t) (is_own c kind x) e).0) s.live mine))
    of (Some x) is =
        let what = find_some (is_named t) s.live x is in
        let same : x.number ≡ t = eqb-true x.number t what.0 in
        (x, is, of_number number_of_live s.live x (is_own c kind) h.distinct what.1 (rw same mine))

-- an element's token holds until it is released
ends_released : (x : Live) (token : Token) → IsTokenOf x token → ended_by token ≡ Released token
ends_released x (Activation l k) is = let bad : None ≡ Some x.kind = is.kind in cc
ends_released x (Method i) is = refl
ends_released x (Context i inner) is = refl

same_lib : (m j l k : ℕ) → Some (Activation m j) ≡ Some (Activation l k) → m ≡ l
same_lib m j l k same = cc

-- a method's token
method_of : (x : Live) (token : Token) → IsTokenOf x token → x.kind ≡ kinds.Method → (i : ℕ) × (token ≡ Method i)
method_of x (Activation l k) is kind = let bad : None ≡ Some x.kind = is.kind in cc
method_of x (Method i) is kind = (i, refl)
method_of x (Context i inner) is kind = let bad : Some kinds.Context ≡ Some kinds.Method = is.kind ∙ ap Some kind in cc

elements_alike : (s left : State) (tokens : List (ℕ × Token)) → left.live ≡ s.live → ElementsAgree s tokens → ElementsAgree left tokens
elements_alike s left tokens live agree t x found = agree t x (ap (find (is_named t)) (sym live) ∙ found)

sound_alike : (n : ℕ) (live others : List Live) → others ≡ live → HasSoundElements n live → HasSoundElements n others
sound_alike n live others same h = rw same h

module _ (fixed : Fixed) (s : State) (w : Watched) (past : List (Entry Call Reply)) (sound : IsSound fixed s past) (ordered : IsOrdered fixed.facts s) (agrees : Agrees fixed.facts s w) where
  libs : LibsAgree s.next s w.armed w.tokens
  libs = record {
    contexts = agrees.contexts;
    armed = agrees.armed;
    activations = agrees.activations;
    distinct = agrees.distinct;
    below = agrees.below;
    few = agrees.few;
  }

  -- what a state and a watch have in common but for the number of the next entry
  pub record Leaves (left : State) (to : Watched) : Type 0 where
    pub next : left.next ≡ s.next
    pub libs : LibsAgree (s.next + 1) left to.armed to.tokens
    pub elements : ElementsAgree left to.tokens
    pub running : to.running ≡ running_in fixed.facts left

  finish : (left : State) (to : Watched) → Leaves left to → Agrees fixed.facts (with_next left) (record to { next = w.next + 1 })
  finish left to h = record {
    next = ap (λ n. n + 1) (agrees.next ∙ sym h.next);
    contexts = h.libs.contexts;
    armed = h.libs.armed;
    running = h.running;
    activations = h.libs.activations;
    elements = h.elements;
    distinct = h.libs.distinct;
    below = λ l. rw h.next (h.libs.below l);
    few = λ l. rw h.next (h.libs.few l);
  }

  -- nothing changes
  idle : Leaves s w
  idle = record { next = refl; libs = libs_more s.next s w.armed w.tokens libs; elements = agrees.elements; running = agrees.running }

  -- an element more, behind a state with the same live elements
  handed_on : (f : State) (to : Watched) (made : Live) (token : Token) → f.next ≡ s.next → f.live ≡ s.live → to.next ≡ w.next → LibsAgree s.next f to.armed to.tokens → ElementsAgree f to.tokens →
      to.running ≡ running_in fixed.facts f → made.number ≡ s.next → IsTokenOf made token →
      ((b : Born) → IsAmong f.born b → is_in b.number made.held ≡ true → is_up f b ≡ true) → Leaves (with_element f made) (handed to token)
  handed_on f to made token next live number h elements running made_number is up =
      let tokens = with_token to.tokens s.next token in
      let named : to.next ≡ s.next = number ∙ agrees.next in
      record {
        next = next;
        libs = rw named (libs_alike (s.next + 1) f (with_element f made) to.armed tokens refl (λ m. (refl, refl))
            (libs_more s.next f to.armed tokens (libs_handed s.next f to.armed to.tokens token h)));
        elements = rw named (elements_push s.next f to.tokens made token (sound_alike s.next s.live f.live live sound.elements) made_number is elements);
        running = ap (map (after_use (Held token))) running
            ∙ sym (running_mapped fixed.facts f (with_element f made) (after_use (Held token)) (up_instances-element f made up) (held_each fixed.facts f made token is.held));
      }

  -- a load
  load : (c l : ℕ) (retain : Bool) (k : ℕ) → l < length s.libs →
      Leaves (with_given (after_activation fixed.facts s l k) l retain (activation_given s c k)) (loaded w l retain (Some k))
  load c l retain k within =
      let active = after_activation fixed.facts s l k in
      let long = activation_length fixed.facts s l k in
      let there : l < length active.libs = omega (arith, within, long) in
      let g = activation_given s c k in
      let lib = loaded_of retain g (lib_at active l) in
      let h : LibsAgree s.next active w.armed w.tokens = libs_alike s.next s active w.armed w.tokens long
      (λ m. let same = activation_libs fixed.facts s l k within m in (same.0, ap is_armed same.2)) libs in
      let token = Activation l k in
      let base = libs_more s.next active w.armed (with_token w.tokens s.next token) (libs_handed s.next active w.armed w.tokens token h) in
      record {
        next = (after_activation-live fixed.facts s l k).1;
        libs = rw agrees.next (libs_replaced active l lib there (s.next + 1) w.armed (armed_after retain w.armed l) (with_token w.tokens s.next token) (with_token w.tokens s.next token)
            (switched_length retain w.armed l)
            (switched_here retain w.armed l (lib_at active l).fallback (omega (arith, there, h.contexts)) (h.armed l there))
            (switched_other retain w.armed l)
            (λ m other t x found. refl)
            (given_push s.next l (lib_at active l).given g w.tokens refl (h.below l) (h.activations l))
            (given_distinct s.next (lib_at active l).given g refl (h.below l) (h.distinct l))
            (given_less s.next (lib_at active l).given g refl (h.below l))
            (omega (arith, h.few l, length-append (lib_at active l).given (g ∷ [])))
            base);
        elements = rw agrees.next (elements_alike s (with_given active l retain g) (with_token w.tokens s.next token) (after_activation-live fixed.facts s l k).0
            (elements_handed s.next s w.tokens token sound.elements agrees.elements));
        running = rw (agrees.next, agrees.running) (sym (
            running_mapped fixed.facts active (with_given active l retain g) (after_use (Activated l k)) (up_instances-order active l lib there refl) (given_each fixed.facts active l retain g there)
            ∙ ap (map (after_use (Activated l k))) (activation_running fixed.facts s l k within fixed sound.instances ordered)));
      }

  -- a fetch falls back, or does not
  record Falls (f : State) (to : Watched) : Type 0 where
    next : f.next ≡ s.next
    live : f.live ≡ s.live
    number : to.next ≡ w.next
    libs : LibsAgree s.next f to.armed to.tokens
    elements : ElementsAgree f to.tokens
    running : to.running ≡ running_in fixed.facts f

  falls : (l : ℕ) → l < length s.libs → (lib_at s l).is_open ≡ true → Falls (after_fallback fixed.facts s l) (fallen fixed.facts w l)
  falls l within opened = to (fallback_of fixed.facts (lib_at s l)) refl
    where
      same : fallback_at fixed.facts w.armed l ≡ fallback_of fixed.facts (lib_at s l)
      same = ap (λ b. cond b (place_of default_name fixed.facts) None) (agrees.armed l within)

      to : (o : Option ℕ) → fallback_of fixed.facts (lib_at s l) ≡ o → Falls (after_fallback fixed.facts s l) (fallen fixed.facts w l)
      to None none = rw (same, none) (record { next = refl; live = refl; number = refl; libs = libs; elements = agrees.elements; running = agrees.running })
      to (Some k) some =
          let found = fallback_found fixed.facts (lib_at s l) k some in
          let active = after_activation fixed.facts s l k in
          let long = activation_length fixed.facts s l k in
          let there : l < length active.libs = omega (arith, within, long) in
          let lib = used_of (lib_at active l) in
          let here = activation_libs fixed.facts s l k within l in
          let h : LibsAgree s.next active w.armed w.tokens = libs_alike s.next s active w.armed w.tokens long
          (λ m. let same = activation_libs fixed.facts s l k within m in (same.0, ap is_armed same.2)) libs in
          rw (same, some) (record {
            next = (after_activation-live fixed.facts s l k).1;
            live = (after_activation-live fixed.facts s l k).0;
            number = refl;
            libs = libs_replaced active l lib there s.next w.armed (set w.armed l false) w.tokens w.tokens (length-set w.armed l false)
                (get_or-set_same w.armed l false false (omega (arith, there, h.contexts)))
                (λ m other. get_or-set_other w.armed l m false false other)
                (λ m other t x found. refl)
                (h.activations l) (h.distinct l) (h.below l) (h.few l) h;
            elements = elements_alike s (with_fallback_used active l) w.tokens (after_activation-live fixed.facts s l k).0 agrees.elements;
            running = rw (agrees.next, agrees.running) (sym (
                running_mapped fixed.facts active (with_fallback_used active l) (after_use (Activated l k)) (up_instances-order active l lib there refl)
                (used_each fixed.facts active l k there (ap is_armed here.2 ∙ found.0) (here.1 ∙ opened) found.1)
                ∙ ap (map (after_use (Activated l k))) (activation_running fixed.facts s l k within fixed sound.instances ordered)));
          })

  -- a live element goes
  goes : (t : ℕ) (x : Live) → element_of s t ≡ Some x → HasSoundInstances fixed (s.next + 1) (without_element s t) → ((l : ℕ) → IsOrderedLib fixed.facts (lib_at (without_element s t) l)) →
      Leaves (without_element s t) (spent w t)
  goes t x found left_sound left_ordered =
      let its = agrees.elements t x found in
      let token = its.0 in
      let left = without_element s t in
      rw its.1 (record {
        next = refl;
        libs = libs_alike (s.next + 1) s left w.armed (without_token w.tokens t) refl (λ m. (refl, refl))
            (libs_more s.next s w.armed (without_token w.tokens t) (libs_without s.next s w.armed w.tokens t token x its.1 its.2 libs));
        elements = elements_without s w.tokens t agrees.elements;
        running = rw (ends_released x token its.2, agrees.running) (sym (
            running_left fixed.facts fixed s.next (s.next + 1) s left (Released token) sound.instances left_sound left_ordered refl
            (λ b up. fewer _ _ _ (any_fewer (λ (y : Live). is_in b.number y.held) (λ y. not (is_named t y)) s.live) up)
            (released_each fixed.facts s t x token sound.elements.distinct found its.2.held)));
      })
    where
      fewer : (a b c : Bool) → (b ≡ true → c ≡ true) → (a || b) ≡ true → (a || c) ≡ true
      fewer a b c f h = grind (arith, common_steps)

  -- an activation goes
  unloads : (t l : ℕ) → holder_of s t ≡ Some l → HasSoundInstances fixed (s.next + 1) (with_unloaded s l t (kept_of fixed.facts (lib_at s l))) →
      ((m : ℕ) → IsOrderedLib fixed.facts (lib_at (with_unloaded s l t (kept_of fixed.facts (lib_at s l))) m)) → Leaves (with_unloaded s l t (kept_of fixed.facts (lib_at s l))) (spent w t)
  unloads t l found left_sound left_ordered = of (find (is_of_token t) (lib_at s l).given) refl
    where
      kept : Option ℕ
      kept = kept_of fixed.facts (lib_at s l)

      left : State
      left = with_unloaded s l t kept

      of : (o : Option Given) → find (is_of_token t) (lib_at s l).given ≡ o → Leaves left (spent w t)
      of None none =
          absurd (both_ways (list_any (is_of_token t) (lib_at s l).given) (find_none (is_of_token t) (lib_at s l).given none)
          (position-Some (λ (lib : LibCtx). list_any (is_of_token t) lib.given) s.libs l no_lib found).1)
      of (Some g) is =
          let at = agrees.activations l t g is in
          let within = holder_there s t l found in
          let lib = unloaded_of kept t (lib_at s l) in
          let given = filter (λ (x : Given). not (is_of_token t x)) (lib_at s l).given in
          let others = without_token w.tokens t in
          rw at (record {
            next = refl;
            libs = libs_more s.next left w.armed others (libs_replaced s l lib within s.next w.armed w.armed w.tokens others refl (agrees.armed l within) (λ m other. refl)
                (λ m other t' h mine. token_at-without w.tokens t t' (ne_eqb t' t (λ same.
                other (same_lib m h.place l g.place (sym (agrees.activations m t' h mine) ∙ ap (token_at w.tokens) same ∙ at)))))
                (given_without l t (lib_at s l).given w.tokens (agrees.activations l))
                (distinct_fewer number_of_given (λ x. not (is_of_token t x)) (lib_at s l).given (agrees.distinct l))
                (all_fewer (λ (x : Given). nat_lt x.number s.next) (λ x. not (is_of_token t x)) (lib_at s l).given (agrees.below l))
                (omega (arith, agrees.few l, length-filter (λ (x : Given). not (is_of_token t x)) (lib_at s l).given))
                libs);
            elements = elements_alike s left others refl (elements_unloaded s w.tokens t l g.place at agrees.elements);
            running = rw agrees.running (sym (
                running_left fixed.facts fixed s.next (s.next + 1) s left (Deactivated l g.place) sound.instances left_sound left_ordered refl
                (up_after_settling s l lib within _ refl)
                (unloaded_each fixed.facts s l t kept g within (agrees.distinct l) is)));
          })

  -- a library context closes
  closes : (l : ℕ) → l < length s.libs → HasSoundInstances fixed (s.next + 1) (with_closed s l) → ((m : ℕ) → IsOrderedLib fixed.facts (lib_at (with_closed s l) m)) →
      Leaves (with_closed s l) (closed w l)
  closes l within left_sound left_ordered =
      let lib = closed_of (lib_at s l) in
      let left = with_closed s l in
      record {
        next = refl;
        libs = libs_more s.next left w.armed w.tokens (libs_replaced s l lib within s.next w.armed w.armed w.tokens w.tokens refl (agrees.armed l within) (λ m other. refl)
            (λ m other t x found. refl) (λ t g found. cc) refl refl (omega (arith, agrees.few l)) libs);
        elements = elements_alike s left w.tokens refl agrees.elements;
        running = rw agrees.running (sym (
            running_left fixed.facts fixed s.next (s.next + 1) s left (Closed l) sound.instances left_sound left_ordered refl
            (up_after_closing s l lib within refl) (closed_each fixed.facts s l within)));
      }

  -- the default query of a library context
  defaults : (l : ℕ) (query : List Clause) → l < length s.libs → Leaves (with_default s l query) w
  defaults l query within =
      let left = with_default s l query in
      record {
        next = refl;
        libs = libs_alike (s.next + 1) s left w.armed w.tokens (length-set s.libs l (defaulted_of (lib_at s l) query)) (λ m. ((same m).0, ap is_armed (same m).2))
            (libs_more s.next s w.armed w.tokens libs);
        elements = elements_alike s left w.tokens refl agrees.elements;
        running = agrees.running
            ∙ sym (running_same fixed.facts s left (up_instances-order s l (defaulted_of (lib_at s l) query) within refl) (alike fixed.facts s left same refl));
      }
    where
      same : (m : ℕ) →
          ((lib_at (with_default s l query) m).given ≡ (lib_at s m).given)
          × ((lib_at (with_default s l query) m).is_open ≡ (lib_at s m).is_open)
          × ((lib_at (with_default s l query) m).fallback ≡ (lib_at s m).fallback)
      same m = elim (cases_eq m l) [
        | inl here ↦ rw (here, lib_at-same s l (defaulted_of (lib_at s l) query) within) (refl, refl, refl)
        | inr other ↦ rw (lib_at-other s l (defaulted_of (lib_at s l) query) within m other) (refl, refl, refl)
      ]

  -- the method that a token names, with its instance
  owned_method : (c h : ℕ) → owns (entries_of c past) h method_token ≡ true → (m : Live) × (element_of s h ≡ Some m) × (i : ℕ) × (token_at w.tokens h ≡ Some (Method i)) × IsTokenOf m (Method i)
  owned_method c h own =
      let found = element_some s c h kinds.Method sound.elements (sound.owned c h method_token own) in
      let m = found.0 in
      let its = agrees.elements h m found.1 in
      let method = method_of m its.0 its.2 (is_owned_method c m found.2) in
      (m, found.1, method.0, its.1 ∙ ap Some method.1, (let P : Token → Type 0 = λ token. IsTokenOf m token in subst P method.1 its.2))

  -- a second method
  seconds : (c h : ℕ) → owns (entries_of c past) h method_token ≡ true → Leaves (left_by fixed.facts s c (UpRef h) (Made s.next)) (handed_if w (token_at w.tokens h))
  seconds c h own =
      let found = owned_method c h own in
      let m = found.0 in
      let made = second_method s.next c m in
      rw (found.1, found.3) (handed_on s w made (Method found.2) refl refl refl libs agrees.elements agrees.running refl
      (record { kind = found.4.kind; held = found.4.held }) (λ b among held. element_up s h m found.1 b held))

  -- an operation context
  contexts_made : (c h : ℕ) (inner : Option ℕ) (len : ℕ) → owns_named (entries_of c past) (NewCtx h inner len) ≡ true → Leaves (left_by fixed.facts s c (NewCtx h inner len) (Made s.next)) (handed_if w (context_made w h inner))
  contexts_made c h None len own =
      let found = owned_method c h (and_parts (owns (entries_of c past) h method_token) true own).0 in
      let m = found.0 in
      rw (found.1, found.3) (handed_on s w (new_context s c None m) (Context found.2 None) refl refl refl libs agrees.elements agrees.running refl
      (record { kind = refl; held = rw found.4.held refl }) (λ b among held. context_up s c h None m found.1 b held))
  contexts_made c h (Some t) len own =
      let parts = and_parts (owns (entries_of c past) h method_token) (owns (entries_of c past) t method_token) own in
      let found = owned_method c h parts.0 in
      let inner = owned_method c t parts.1 in
      let m = found.0 in
      rw (found.1, found.3, inner.3) (handed_on s w (new_context s c (Some t) m) (Context found.2 (Some inner.2)) refl refl refl libs agrees.elements agrees.running refl
      (record { kind = refl; held = rw (inner.1, found.4.held, inner.4.held) refl }) (λ b among held. context_up s c h (Some t) m found.1 b held))

  -- a fetch that finds a method
  fetches : (c l : ℕ) (op : Operation) (name : List ℕ) (query : List Clause) (i : ℕ) (chosen : Choice) → l < length s.libs → l < fixed.contexts → (lib_at s l).is_open ≡ true →
      best_method (after_fallback fixed.facts s l) l op name query ≡ Some chosen → i ≡ chosen.instance →
      Leaves (with_element (after_fallback fixed.facts s l) (new_method (after_fallback fixed.facts s l).next c chosen)) (handed (fallen fixed.facts w l) (Method i))
  fetches c l op name query i chosen within there opened best same =
      let f = after_fallback fixed.facts s l in
      let h = falls l within opened in
      handed_on f (fallen fixed.facts w l) (new_method f.next c chosen) (Method i) h.next h.live h.number h.libs h.elements h.running h.next
      (record { kind = refl; held = rw same refl })
      (method_up fixed (s.next + 1) f l op name query chosen (instances-fallback fixed s l there sound.instances) best)

  -- each entry
  pub leaves : (c : ℕ) (call : Call) (reply : Reply) → names_context fixed.contexts call ≡ true → owns_named (entries_of c past) call ≡ true → Answers fixed.facts s c call reply →
      HasSoundInstances fixed (s.next + 1) (left_by fixed.facts s c call reply) → ((m : ℕ) → IsOrderedLib fixed.facts (lib_at (left_by fixed.facts s c call reply) m)) →
      Leaves (left_by fixed.facts s c call reply) (noted_by fixed.facts w call reply)
  leaves c (Load l name retain) NoLib there own a ls lo = idle
  leaves c (Load l name retain) NoProvider there own a ls lo = idle
  leaves c (Load l name retain) (StartRefused p) there own a ls lo = idle
  leaves c (Load l name retain) (Loaded n i skipped) there own a ls lo = of (place_of name fixed.facts) refl a.1
    where
      of : (o : Option ℕ) → place_of name fixed.facts ≡ o → IsLoaded fixed.facts s l (Loaded n i skipped) o →
          Leaves (left_by fixed.facts s c (Load l name retain) (Loaded n i skipped)) (noted_by fixed.facts w (Load l name retain) (Loaded n i skipped))
      of None none is = absurd is
      of (Some k) some is = let lib = ltb-true l fixed.contexts there in rw some (load c l retain k (omega (arith, lib, sound.instances.contexts)))
  leaves c (Unload t) NoLib there own a ls lo = idle
  leaves c (Unload t) Done there own a ls lo = of (holder_of s t) refl ls lo
    where
      of : (o : Option ℕ) → holder_of s t ≡ o → HasSoundInstances fixed (s.next + 1) (after_unload fixed.facts s t o) → ((m : ℕ) → IsOrderedLib fixed.facts (lib_at (after_unload fixed.facts s t o) m)) →
          Leaves (left_by fixed.facts s c (Unload t) Done) (spent w t)
      of None none ls lo = let bad : false ≡ true = (rw none at a) in absurd (true≢false (sym bad))
      of (Some l) some ls lo = rw some (unloads t l some ls lo)
  leaves c (SetDefault l q) NoLib there own a ls lo = idle
  leaves c (SetDefault l q) Done there own a ls lo = let lib = ltb-true l fixed.contexts there in defaults l q (omega (arith, lib, sound.instances.contexts))
  leaves c (Fetch l op name q) NoLib there own a ls lo = idle
  leaves c (Fetch l op name q) (StartRefused p) there own a ls lo = idle
  leaves c (Fetch l op name q) Unsupported there own a ls lo =
      let lib = ltb-true l fixed.contexts there in
      let f = after_fallback fixed.facts s l in
      let to = fallen fixed.facts w l in
      let h = falls l (omega (arith, lib, sound.instances.contexts)) a.0 in
      record { next = h.next; libs = libs_more s.next f to.armed to.tokens h.libs; elements = h.elements; running = h.running }
  leaves c (Fetch l op name q) (Fetched n p i r code) there own a ls lo =
      let lib = ltb-true l fixed.contexts there in
      let f = after_fallback fixed.facts s l in
      let found = fetched_some fixed.facts s.next n p i r code (best_method f l op name q) a.1 in
      let told : Fetched n p i r code ≡ fetched_of fixed.facts s.next (Some found.0) = a.1 ∙ ap (fetched_of fixed.facts s.next) found.1 in
      let same : i ≡ found.0.instance = cc in
      rw found.1 (fetches c l op name q i found.0 (omega (arith, lib, sound.instances.contexts)) lib a.0 found.1 same)
  leaves c (UpRef h) (Made n) there own a ls lo = seconds c h own
  leaves c (NewCtx h inner len) NotAdmitted there own a ls lo = idle
  leaves c (NewCtx h inner len) (Made n) there own a ls lo = contexts_made c h inner len own
  leaves c (Free h) Done there own a ls lo =
      let found = element_some s c h kinds.Method sound.elements (sound.owned c h method_token own) in
      goes h found.0 found.1 ls lo
  leaves c (FreeCtx h) Done there own a ls lo =
      let found = element_some s c h kinds.Context sound.elements (sound.owned c h context_token own) in
      goes h found.0 found.1 ls lo
  leaves c (CloseLib l) NoLib there own a ls lo = idle
  leaves c (CloseLib l) Done there own a ls lo = let lib = ltb-true l fixed.contexts there in closes l (omega (arith, lib, sound.instances.contexts)) ls lo
  leaves c call reply there own a ls lo = absurd a

  -- a watch that takes an entry in
  pub agrees_after : (e : Entry Call Reply) → IsStep fixed s past e → IsOrdered fixed.facts (after_entry fixed.facts s e) → Agrees fixed.facts (after_entry fixed.facts s e) (noted fixed.facts w e)
  agrees_after e step ordered_after =
      finish (left_by fixed.facts s e.caller e.call e.reply) (noted_by fixed.facts w e.call e.reply)
      (leaves e.caller e.call e.reply step.allowed.lib step.allowed.tokens step.answers
      (instances_after fixed s e.caller e.call e.reply step.allowed.lib step.answers sound.instances) ordered_after.libs)
