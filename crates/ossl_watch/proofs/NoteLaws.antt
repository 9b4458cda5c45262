-- A watch from the opening on, entry by entry.
use Rattle.std.proofs.Common.{◌≡◌, ℕ, ◌+◌, ◌<◌, ◌≤◌, Bool, true, false, ◌&&◌, nat_eq, nat_lt, ◌^◌, ◌-◌, List, [], ◌∷◌, ◌++◌, length, map, get_or, replicate, refl, sym, ◌∙◌, ap, subst, arith, cond, suc, zero}
use Rattle.std.specs.List.{list_all, find, count_by}
use Rattle.std.specs.Prelude.{None, Some}
use Rattle.std.specs.declared.option.Option.{Option}
use Rattle.std.proofs.lemmas.Bool.{lt-ltb}
use Rattle.ossl_base.specs.declared.entry.Entry.{Entry}
use Rattle.ossl_provider.specs.Members.{is_distinct, is_in}
use Rattle.ossl_provider.specs.Sheet.{Facts}
use Rattle.ossl_state.specs.declared.call.Call.{Call}
use Rattle.ossl_state.specs.declared.call.Call.TheVariants.{Load, Unload, SetDefault, Fetch, UpRef, Free, NewCtx, FreeCtx, CloseLib}
use Rattle.ossl_state.specs.declared.call.Reply.{Reply}
use Rattle.ossl_state.specs.declared.call.Reply.TheVariants.{Loaded, Fetched, Made, Done, NoLib, NoProvider, StartRefused, Unsupported, NotAdmitted}
use Rattle.ossl_state.specs.declared.state.Born.{Born}
use Rattle.ossl_state.specs.declared.state.Given.{Given}
use Rattle.ossl_state.specs.declared.state.LibCtx.{LibCtx}
use Rattle.ossl_state.specs.declared.state.Live.{Live}
use Rattle.ossl_state.specs.declared.state.State.{State}
use Rattle.ossl_state.specs.Boxes.{place_of}
use Rattle.ossl_state.specs.Tokens.{names_context}
use Rattle.ossl_state.specs.History.{Fixed, IsNext, after_entry, state_after}
use Rattle.ossl_state.specs.Ordered.{IsOrdered}
use Rattle.ossl_state.specs.Sound.{HasSoundElements}
use Rattle.ossl_state.specs.State.{fresh_lib, lib_at, no_lib, opening_state, up_instances}
use Rattle.ossl_state.specs.Step.{is_armed, is_kept, is_of_token, kept_of}
use Rattle.ossl_state.proofs.HistoryLaws.{IsLegal-push, next-after, state_after-push}
use Rattle.ossl_state.proofs.LegalLaws.{sound_after}
use Rattle.ossl_state.proofs.ListLaws.{all_among}
use Rattle.ossl_state.proofs.OrderedLaws.{legal_ordered}
use Rattle.ossl_watch.specs.declared.running.Running.{Running}
use Rattle.ossl_watch.specs.declared.token.Token.{Token}
use Rattle.ossl_watch.specs.Changes.{started_by, stopped_by}
use Rattle.ossl_watch.specs.Watched.{Watched, are_below, context_made, handed_if, loaded, noted, noted_by, opening_watch, spent_as, starts_told, stops_told, token_at}
use Rattle.ossl_watch.specs.Watching.{Agrees, IsWatching, activations_in, holders_in, kept_count, number_of_given, running_of}
use Rattle.ossl_watch.proofs.ChangeLaws.{told_starts, told_stops}
use Rattle.ossl_watch.proofs.CountLaws.{all-map, count-le}
use Rattle.ossl_watch.proofs.NotedLaws.{agrees_after}

-- the library contexts at the start
fresh_given : (n l : ℕ) → (get_or (replicate n fresh_lib) l no_lib).given ≡ []
fresh_given zero l = refl
fresh_given (suc n) zero = refl
fresh_given (suc n) (suc l) = fresh_given n l

fresh_armed : (n l : ℕ) → l < length (replicate n fresh_lib) → get_or (replicate n true) l false ≡ is_armed (get_or (replicate n fresh_lib) l no_lib).fallback
fresh_armed zero l within = absurd (omega arith)
fresh_armed (suc n) zero within = refl
fresh_armed (suc n) (suc l) within = fresh_armed n l (omega arith)

same_length : (n : ℕ) → length (replicate n true) ≡ length (replicate n fresh_lib)
same_length zero = refl
same_length (suc n) = ap suc (same_length n)

pub opening_agrees : (facts : List Facts) (contexts : ℕ) → Agrees facts (opening_state contexts) (opening_watch contexts)
opening_agrees facts contexts = record {
  next = refl;
  contexts = same_length contexts;
  armed = fresh_armed contexts;
  running = refl;
  activations = λ l t g found. let bad : None ≡ Some g = ap (find (is_of_token t)) (sym (fresh_given contexts l)) ∙ found in cc;
  elements = λ t x found. cc;
  distinct = λ l. ap (λ gs. is_distinct (map number_of_given gs)) (fresh_given contexts l);
  below = λ l. ap (list_all (λ (g : Given). nat_lt g.number 1)) (fresh_given contexts l);
  few = λ l. omega (arith, ap length (fresh_given contexts l));
}

pub opening_watching : (fixed : Fixed) (contexts : ℕ) → fixed.contexts ≡ contexts → IsWatching fixed [] (opening_watch contexts)
opening_watching fixed contexts same = record { legal = tt; agrees = rw same (opening_agrees fixed.facts contexts) }

-- no count is greater than the number of the next entry
pub watched_below : (facts : List Facts) (s : State) (w : Watched) (m : ℕ) → Agrees facts s w → HasSoundElements s.next s.live → s.next < m → are_below m w.running ≡ true
watched_below facts s w m agrees elements less =
    ap (are_below m) agrees.running
    ∙ all-map (λ (r : Running). nat_lt r.activations m && nat_lt r.holders m) (running_of facts s) (up_instances s)
    ∙ all_among (λ b. nat_lt (running_of facts s b).activations m && nat_lt (running_of facts s b).holders m) (up_instances s) (λ b among. each b)
  where
    kept_le : (lib : LibCtx) (k : ℕ) → kept_count facts lib k ≤ 1
    kept_le lib k = by (lib.is_open && is_kept (kept_of facts lib) k)
      where
        by : (b : Bool) → cond b 1 0 ≤ 1
        by true = omega arith
        by false = omega arith

    each : (b : Born) → (nat_lt (activations_in facts (lib_at s b.lib) b.place) m && nat_lt (holders_in s.live b.number) m) ≡ true
    each b =
        let lib = lib_at s b.lib in
        let given = count-le (λ (g : Given). nat_eq g.place b.place) lib.given in
        let held = count-le (λ (x : Live). is_in b.number x.held) s.live in
        let few : activations_in facts lib b.place < m = omega (arith, given, kept_le lib b.place, agrees.few b.lib, less) in
        let fewer : holders_in s.live b.number < m = omega (arith, held, elements.few, less) in
        rw (lt-ltb (activations_in facts lib b.place) m few, lt-ltb (holders_in s.live b.number) m fewer) refl

module _ (fixed : Fixed) (entries : List (Entry Call Reply)) (w : Watched) (e : Entry Call Reply) (h : IsWatching fixed entries w) (next : IsNext fixed entries e) where
  agreed : Agrees fixed.facts (after_entry fixed.facts (state_after fixed entries) e) (noted fixed.facts w e)
  agreed =
      let legal = IsLegal-push fixed entries e h.legal next in
      let P : State → Type 0 = λ s. IsOrdered fixed.facts s in
      agrees_after fixed (state_after fixed entries) w entries (sound_after fixed entries h.legal) (legal_ordered fixed entries h.legal) h.agrees e next
      (subst P (state_after-push fixed entries e) (legal_ordered fixed (entries ++ e ∷ []) legal))

  pub watching_next : IsWatching fixed (entries ++ e ∷ []) (noted fixed.facts w e)
  watching_next =
      let P : State → Type 0 = λ s. Agrees fixed.facts s (noted fixed.facts w e) in
      record { legal = IsLegal-push fixed entries e h.legal next; agrees = subst P (sym (state_after-push fixed entries e)) agreed }

  pub watching_starts : started_by fixed.facts (state_after fixed entries) e ≡ starts_told fixed.facts w e.call e.reply
  watching_starts = told_starts fixed (state_after fixed entries) w e (sound_after fixed entries h.legal).instances h.agrees agreed

  pub watching_stops : stopped_by fixed.facts (state_after fixed entries) e ≡ stops_told fixed.facts w e.call e.reply
  watching_stops = told_stops fixed (state_after fixed entries) w e (sound_after fixed entries h.legal).instances h.agrees agreed

  pub watching_few : length entries < 2 ^ 63 - 1 → are_below 9223372036854775808 w.running ≡ true
  watching_few few =
      let s = state_after fixed entries in
      let number = next-after fixed entries in
      watched_below fixed.facts s w 9223372036854775808 h.agrees (sound_after fixed entries h.legal).elements (omega (arith, number, few))

  pub watching_lib : names_context (length w.armed) e.call ≡ true
  watching_lib =
      let contexts : length w.armed ≡ fixed.contexts = h.agrees.contexts ∙ (sound_after fixed entries h.legal).instances.contexts in
      ap (λ n. names_context n e.call) contexts ∙ next.allowed.lib

  pub watching_number : w.next ≡ length entries + 1
  watching_number = h.agrees.next ∙ next-after fixed entries

-- an entry is one more
module _ (facts : List Facts) (w : Watched) where
  loaded-next : (l : ℕ) (retain : Bool) (o : Option ℕ) → (loaded w l retain o).next ≡ w.next
  loaded-next l retain None = refl
  loaded-next l retain (Some k) = refl

  handed-next : (o : Option Token) → (handed_if w o).next ≡ w.next
  handed-next None = refl
  handed-next (Some token) = refl

  spent-next : (t : ℕ) (o : Option Token) → (spent_as w t o).next ≡ w.next
  spent-next t None = refl
  spent-next t (Some token) = refl

  pub noted_by-next : (call : Call) (reply : Reply) → (noted_by facts w call reply).next ≡ w.next
  noted_by-next (Load l name retain) (Loaded n i skipped) = loaded-next l retain (place_of name facts)
  noted_by-next (Unload t) Done = spent-next t (token_at w.tokens t)
  noted_by-next (Fetch l op name query) Unsupported = refl
  noted_by-next (Fetch l op name query) (Fetched n p i r code) = refl
  noted_by-next (UpRef h) (Made n) = handed-next (token_at w.tokens h)
  noted_by-next (Free h) Done = spent-next h (token_at w.tokens h)
  noted_by-next (FreeCtx h) Done = spent-next h (token_at w.tokens h)
  noted_by-next (NewCtx h inner len) (Made n) = handed-next (context_made w h inner)
  noted_by-next (CloseLib l) Done = refl
  noted_by-next call reply = refl

  pub noted_from : (e : Entry Call Reply) (left : Watched) → left ≡ noted_by facts w e.call e.reply → record left { next = left.next + 1 } ≡ noted facts w e
  noted_from e left is =
      ap (λ (x : Watched). record x { next = x.next + 1 }) is
      ∙ ap (λ (n : ℕ). record (noted_by facts w e.call e.reply) { next = n + 1 }) (noted_by-next e.call e.reply)
