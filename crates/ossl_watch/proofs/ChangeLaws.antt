-- What a watch tells of an entry is what the entry starts and stops.
use Rattle.std.proofs.Common.{◌≡◌, ℕ, ◌+◌, ◌-◌, ◌<◌, Bool, true, false, not, ◌||◌, ◌&&◌, nat_eq, nat_lt, List, [], ◌∷◌, ◌++◌, length, map, refl, sym, ◌∙◌, ap, arith, cond, inl, inr}
use Rattle.std.specs.List.{list_any, list_all, filter}
use Rattle.std.specs.Prelude.{None, Some}
use Rattle.std.specs.declared.option.Option.{Option}
use Rattle.std.proofs.lemmas.Bool.{cases_Bool, and_parts, eq-eqb, true≢false}
use Rattle.std.proofs.lemmas.List.{map-append}
use Rattle.std.proofs.lemmas.List.Elements.{filter-append}
use Rattle.std.proofs.lemmas.List.Folds.{list_any-append}
use Rattle.ossl_base.specs.declared.entry.Entry.{Entry}
use Rattle.ossl_provider.specs.Members.{is_distinct, is_in}
use Rattle.ossl_provider.specs.Sheet.{Facts}
use Rattle.ossl_state.specs.declared.call.Call.{Call}
use Rattle.ossl_state.specs.declared.call.Call.TheVariants.{Load, Unload, SetDefault, Fetch, UpRef, Free, NewCtx, FreeCtx, CloseLib}
use Rattle.ossl_state.specs.declared.call.Reply.{Reply}
use Rattle.ossl_state.specs.declared.call.Reply.TheVariants.{Loaded, Fetched, Made, Done, NoLib, NoProvider, StartRefused, Unsupported, NotAdmitted}
use Rattle.ossl_state.specs.declared.state.Born.{Born}
use Rattle.ossl_state.specs.declared.state.State.{State}
use Rattle.ossl_state.specs.Boxes.{place_of}
use Rattle.ossl_state.specs.History.{Fixed, after_entry}
use Rattle.ossl_state.specs.Sound.{HasSoundInstances, number_of_born}
use Rattle.ossl_state.specs.State.{is_up, up_instances}
use Rattle.std.proofs.lemmas.Grind.{common_steps}
use Rattle.ossl_state.proofs.ListLaws.{IsAmong, all_fewer, any_fewer, distinct_fewer, filter_same-among, is_in_below, list_any-filter}
use Rattle.ossl_watch.specs.declared.running.Running.{Running}
use Rattle.ossl_watch.specs.declared.token.Token.{Token}
use Rattle.ossl_watch.specs.declared.token.Token.TheVariants.{Method}
use Rattle.ossl_watch.specs.declared.token.Use.{Use}
use Rattle.ossl_watch.specs.declared.token.Use.TheVariants.{Activated, Deactivated, Held, Released, Closed}
use Rattle.ossl_watch.specs.declared.up.Up.{Up}
use Rattle.ossl_watch.specs.Changes.{is_among, lacking, started_by, stopped_by, ups_of}
use Rattle.ossl_watch.specs.Watched.{Watched, activated, after_use, birth, birth_of, born_at, context_made, ended_by, fallback_at, fallen_running, going_as, going_by, handed_if, has_box, held_of, is_box_of, is_used, left_after, loaded, noted, noted_by, spent_as, starts_told, stops_told, token_at, up_of, with_box}
use Rattle.ossl_watch.specs.Watching.{Agrees, running_in, running_of}
use Rattle.ossl_watch.proofs.CountLaws.{all-map, among_first, among_later, any-map, filter-map, map-map, map-same}
use Rattle.ossl_watch.proofs.UpLaws.{both_imply, of_number}

abbrev ups : List Running → List Up
ups rs = map up_of rs

abbrev number_of : Running → ℕ
number_of r = r.number

-- a change of uses keeps what is told
keeps_up : (change : Use) (r : Running) → up_of (after_use change r) ≡ up_of r
keeps_up (Activated l k) r = by (is_box_of l k r)
  where
    by : (b : Bool) → up_of (cond b (record r { activations = r.activations + 1 }) r) ≡ up_of r
    by true = refl
    by false = refl
keeps_up (Deactivated l k) r = by (is_box_of l k r)
  where
    by : (b : Bool) → up_of (cond b (record r { activations = r.activations - 1 }) r) ≡ up_of r
    by true = refl
    by false = refl
keeps_up (Held token) r = by (is_in r.number (held_of token))
  where
    by : (b : Bool) → up_of (cond b (record r { holders = r.holders + 1 }) r) ≡ up_of r
    by true = refl
    by false = refl
keeps_up (Released token) r = by (is_in r.number (held_of token))
  where
    by : (b : Bool) → up_of (cond b (record r { holders = r.holders - 1 }) r) ≡ up_of r
    by true = refl
    by false = refl
keeps_up (Closed l) r = by (nat_eq r.lib l)
  where
    by : (b : Bool) → up_of (cond b (record r { activations = 0 }) r) ≡ up_of r
    by true = refl
    by false = refl

ups_changed : (change : Use) (rs : List Running) → ups (map (after_use change) rs) ≡ ups rs
ups_changed change rs = map-map up_of (after_use change) rs ∙ map-same (λ r. up_of (after_use change r)) up_of rs (λ r among. keeps_up change r)

-- nothing is lacking where each is among the others
none_lacking : (others these : List Up) → ((u : Up) → IsAmong these u → is_among others u ≡ true) → lacking others these ≡ []
none_lacking others [] each = refl
none_lacking others (u ∷ us) each =
    rw (each u (among_first u us)) (none_lacking others us (λ v among. each v (among_later u v us among)))

self_lacking : (us : List Up) → lacking us us ≡ []
self_lacking us = none_lacking us us (λ u among. among (λ o. nat_eq o.number u.number) (eq-eqb u.number u.number refl))

-- an instance that is born is lacking before, and nothing is after
module _ (n l k : ℕ) (rs : List Running) where
  born_started : list_all (λ (r : Running). nat_lt r.number n) rs ≡ true → lacking (ups rs) (ups (with_box n l k rs)) ≡ birth n l k rs
  born_started below = by (has_box l k rs)
    where
      absent : is_among (ups rs) (up_of (born_at n l k)) ≡ false
      absent = any-map (λ (o : Up). nat_eq o.number n) up_of rs ∙ sym (any-map (λ x. nat_eq x n) number_of rs) ∙ is_in_below number_of n rs below

      by : (b : Bool) → lacking (ups rs) (ups (cond b rs (rs ++ born_at n l k ∷ []))) ≡ cond b [] (up_of (born_at n l k) ∷ [])
      by true = self_lacking (ups rs)
      by false =
          ap (lacking (ups rs)) (map-append up_of rs (born_at n l k ∷ []))
          ∙ filter-append (λ u. not (is_among (ups rs) u)) (ups rs) (up_of (born_at n l k) ∷ [])
          ∙ ap (λ us. us ++ lacking (ups rs) (up_of (born_at n l k) ∷ [])) (self_lacking (ups rs))
          ∙ rw absent refl

  born_stopped : lacking (ups (with_box n l k rs)) (ups rs) ≡ []
  born_stopped = by (has_box l k rs)
    where
      by : (b : Bool) → lacking (ups (cond b rs (rs ++ born_at n l k ∷ []))) (ups rs) ≡ []
      by true = self_lacking (ups rs)
      by false = none_lacking (ups (rs ++ born_at n l k ∷ [])) (ups rs) (λ u among.
          rw (map-append up_of rs (born_at n l k ∷ []), list_any-append (λ (o : Up). nat_eq o.number u.number) (ups rs) (up_of (born_at n l k) ∷ []), among (λ o. nat_eq o.number u.number) (eq-eqb u.number u.number refl)) refl)

-- of distinct numbers, what is left out is lacking, and nothing else
module _ (q : Running → Bool) (ms : List Running) where
  left_out : is_distinct (map number_of ms) ≡ true → lacking (ups (filter q ms)) (ups ms) ≡ ups (filter (λ r. not (q r)) ms)
  left_out distinct =
      filter-map (λ u. not (is_among (ups (filter q ms)) u)) up_of ms
      ∙ ap (map up_of) (filter_same-among (λ r. not (is_among (ups (filter q ms)) (up_of r))) (λ r. not (q r)) ms (λ r among. ap not (kept r among)))
    where
      kept : (r : Running) → IsAmong ms r → is_among (ups (filter q ms)) (up_of r) ≡ q r
      kept r among =
          any-map (λ (o : Up). nat_eq o.number r.number) up_of (filter q ms)
          ∙ list_any-filter (λ (x : Running). nat_eq x.number r.number) q ms
          ∙ both_imply (list_any (λ (x : Running). q x && nat_eq x.number r.number) ms) (q r)
          (λ some. of_number number_of ms r q distinct among (turn ms some))
          (λ holds. among (λ x. q x && nat_eq x.number r.number) (rw (holds, eq-eqb r.number r.number refl) refl))
        where
          turn : (xs : List Running) → list_any (λ (x : Running). q x && nat_eq x.number r.number) xs ≡ true → list_any (λ (x : Running). nat_eq x.number r.number && q x) xs ≡ true
          turn [] h = h
          turn (x ∷ xs) h = grind (arith, common_steps, turn xs)

  left_in : lacking (ups ms) (ups (filter q ms)) ≡ []
  left_in = none_lacking (ups ms) (ups (filter q ms)) (λ u among.
      any-map (λ (o : Up). nat_eq o.number u.number) up_of ms
      ∙ more u ms (sym (any-map (λ (o : Up). nat_eq o.number u.number) up_of (filter q ms)) ∙ among (λ o. nat_eq o.number u.number) (eq-eqb u.number u.number refl)))
    where
      more : (u : Up) (xs : List Running) → list_any (λ (r : Running). nat_eq r.number u.number) (filter q xs) ≡ true → list_any (λ (r : Running). nat_eq r.number u.number) xs ≡ true
      more u xs h = any_fewer (λ (r : Running). nat_eq r.number u.number) q xs h

numbers_changed : (change : Use) (rs : List Running) → map number_of (map (after_use change) rs) ≡ map number_of rs
numbers_changed change rs = map-map number_of (after_use change) rs ∙ map-same (λ r. number_of (after_use change r)) number_of rs (λ r among. ap (λ (u : Up). u.number) (keeps_up change r))

-- 1. What changes of what runs, by what the entry is.
module _ (facts : List Facts) (w : Watched) (distinct : is_distinct (map number_of w.running) ≡ true) (below : list_all (λ (r : Running). nat_lt r.number w.next) w.running ≡ true) where
  left_stopped : (change : Use) → lacking (ups (left_after change w.running)) (ups w.running) ≡ going_by change w.running
  left_stopped change =
      ap (lacking (ups (left_after change w.running))) (sym (ups_changed change w.running))
      ∙ left_out is_used (map (after_use change) w.running) (ap is_distinct (numbers_changed change w.running) ∙ distinct)

  left_started : (change : Use) → lacking (ups w.running) (ups (left_after change w.running)) ≡ []
  left_started change =
      ap (λ us. lacking us (ups (left_after change w.running))) (sym (ups_changed change w.running)) ∙ left_in is_used (map (after_use change) w.running)

  fallen_started : (o : Option ℕ) (l : ℕ) → lacking (ups w.running) (ups (fallen_running o w.next l w.running)) ≡ birth_of o w.next l w.running
  fallen_started None l = self_lacking (ups w.running)
  fallen_started (Some k) l = ap (lacking (ups w.running)) (ups_changed (Activated l k) (with_box w.next l k w.running)) ∙ born_started w.next l k w.running below

  fallen_stopped : (o : Option ℕ) (l : ℕ) → lacking (ups (fallen_running o w.next l w.running)) (ups w.running) ≡ []
  fallen_stopped None l = self_lacking (ups w.running)
  fallen_stopped (Some k) l = ap (λ us. lacking us (ups w.running)) (ups_changed (Activated l k) (with_box w.next l k w.running)) ∙ born_stopped w.next l k w.running

  loaded_started : (o : Option ℕ) (l : ℕ) (retain : Bool) → lacking (ups w.running) (ups (loaded w l retain o).running) ≡ birth_of o w.next l w.running
  loaded_started None l retain = self_lacking (ups w.running)
  loaded_started (Some k) l retain = fallen_started (Some k) l

  loaded_stopped : (o : Option ℕ) (l : ℕ) (retain : Bool) → lacking (ups (loaded w l retain o).running) (ups w.running) ≡ []
  loaded_stopped None l retain = self_lacking (ups w.running)
  loaded_stopped (Some k) l retain = fallen_stopped (Some k) l

  handed_same : (o : Option Token) → ups (handed_if w o).running ≡ ups w.running
  handed_same None = refl
  handed_same (Some token) = ups_changed (Held token) w.running

  spent_started : (t : ℕ) (o : Option Token) → lacking (ups w.running) (ups (spent_as w t o).running) ≡ []
  spent_started t None = self_lacking (ups w.running)
  spent_started t (Some token) = left_started (ended_by token)

  spent_stopped : (t : ℕ) (o : Option Token) → lacking (ups (spent_as w t o).running) (ups w.running) ≡ going_as w o
  spent_stopped t None = self_lacking (ups w.running)
  spent_stopped t (Some token) = left_stopped (ended_by token)

  starts : (call : Call) (reply : Reply) → lacking (ups w.running) (ups (noted_by facts w call reply).running) ≡ starts_told facts w call reply
  starts (Load l name retain) (Loaded n i skipped) = loaded_started (place_of name facts) l retain
  starts (Unload t) Done = spent_started t (token_at w.tokens t)
  starts (Fetch l op name query) Unsupported = fallen_started (fallback_at facts w.armed l) l
  starts (Fetch l op name query) (Fetched n p i r code) =
      ap (lacking (ups w.running)) (ups_changed (Held (Method i)) (fallen_running (fallback_at facts w.armed l) w.next l w.running)) ∙ fallen_started (fallback_at facts w.armed l) l
  starts (UpRef h) (Made n) = ap (lacking (ups w.running)) (handed_same (token_at w.tokens h)) ∙ self_lacking (ups w.running)
  starts (Free h) Done = spent_started h (token_at w.tokens h)
  starts (FreeCtx h) Done = spent_started h (token_at w.tokens h)
  starts (NewCtx h inner len) (Made n) = ap (lacking (ups w.running)) (handed_same (context_made w h inner)) ∙ self_lacking (ups w.running)
  starts (CloseLib l) Done = left_started (Closed l)
  starts call reply = self_lacking (ups w.running)

  stops : (call : Call) (reply : Reply) → lacking (ups (noted_by facts w call reply).running) (ups w.running) ≡ stops_told facts w call reply
  stops (Load l name retain) (Loaded n i skipped) = loaded_stopped (place_of name facts) l retain
  stops (Unload t) Done = spent_stopped t (token_at w.tokens t)
  stops (Fetch l op name query) Unsupported = fallen_stopped (fallback_at facts w.armed l) l
  stops (Fetch l op name query) (Fetched n p i r code) =
      ap (λ us. lacking us (ups w.running)) (ups_changed (Held (Method i)) (fallen_running (fallback_at facts w.armed l) w.next l w.running)) ∙ fallen_stopped (fallback_at facts w.armed l) l
  stops (UpRef h) (Made n) = ap (λ us. lacking us (ups w.running)) (handed_same (token_at w.tokens h)) ∙ self_lacking (ups w.running)
  stops (Free h) Done = spent_stopped h (token_at w.tokens h)
  stops (FreeCtx h) Done = spent_stopped h (token_at w.tokens h)
  stops (NewCtx h inner len) (Made n) = ap (λ us. lacking us (ups w.running)) (handed_same (context_made w h inner)) ∙ self_lacking (ups w.running)
  stops (CloseLib l) Done = left_stopped (Closed l)
  stops call reply = self_lacking (ups w.running)

-- 2. That is what the states say.
ups_running : (facts : List Facts) (s : State) → ups_of s ≡ ups (running_in facts s)
ups_running facts s = sym (map-map up_of (running_of facts s) (up_instances s))

module _ (fixed : Fixed) (s : State) (w : Watched) (e : Entry Call Reply) (h : HasSoundInstances fixed s.next s) (agrees : Agrees fixed.facts s w)
    (agree_after : Agrees fixed.facts (after_entry fixed.facts s e) (noted fixed.facts w e)) where
  before : ups_of s ≡ ups w.running
  before = ups_running fixed.facts s ∙ ap ups (sym agrees.running)

  after : ups_of (after_entry fixed.facts s e) ≡ ups (noted_by fixed.facts w e.call e.reply).running
  after = ups_running fixed.facts (after_entry fixed.facts s e) ∙ ap ups (sym agree_after.running)

  distinct : is_distinct (map number_of w.running) ≡ true
  distinct =
      ap (λ rs. is_distinct (map number_of rs)) agrees.running
      ∙ ap is_distinct (map-map number_of (running_of fixed.facts s) (up_instances s))
      ∙ distinct_fewer number_of_born (is_up s) s.born h.distinct

  below : list_all (λ (r : Running). nat_lt r.number w.next) w.running ≡ true
  below =
      rw (agrees.running, agrees.next) (all-map (λ (r : Running). nat_lt r.number s.next) (running_of fixed.facts s) (up_instances s)
      ∙ all_fewer (λ (b : Born). nat_lt b.number s.next) (is_up s) s.born h.below)

  pub told_starts : started_by fixed.facts s e ≡ starts_told fixed.facts w e.call e.reply
  told_starts =
      ap (λ us. lacking us (ups_of (after_entry fixed.facts s e))) before ∙ ap (lacking (ups w.running)) after
      ∙ starts fixed.facts w distinct below e.call e.reply

  pub told_stops : stopped_by fixed.facts s e ≡ stops_told fixed.facts w e.call e.reply
  told_stops =
      ap (λ us. lacking us (ups_of s)) after ∙ ap (lacking (ups (noted_by fixed.facts w e.call e.reply).running)) before
      ∙ stops fixed.facts w distinct below e.call e.reply
