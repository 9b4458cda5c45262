-- Turns, one after the other.
use Rattle.std.proofs.Common.{◌≡◌, ◌⊎◌, ℕ, ◌+◌, ◌-◌, ◌<◌, zero, suc, nat_lt, List, [], ◌∷◌, ◌++◌, length, get_or, refl, sym, ap, subst, ◌∙◌, append_assoc, add-one, drop, drop-cons, arith, inl, inr}
use Rattle.std.specs.List.{filter_map, fold, range_with_len}
use Rattle.std.specs.Prelude.{None, Some, Option}
use Rattle.std.proofs.lemmas.Bool.{cases_Bool}
use Rattle.std.proofs.lemmas.List.{append-nil}
use Rattle.ossl_base.specs.declared.entry.Entry.{Entry}
use Rattle.ossl_commands.specs.Counts.{lines_of}
use Rattle.ossl_state.specs.declared.call.Call.{Call}
use Rattle.ossl_state.specs.declared.call.Reply.{Reply}
use Rattle.ossl_script.specs.declared.caller.Next.{Next}
use Rattle.ossl_script.specs.declared.caller.Next.TheVariants as nexts
use Rattle.ossl_script.specs.View.{is_end}
use Rattle.ossl_ordered.specs.declared.player.Player.{Player}
use Rattle.ossl_ordered.specs.declared.turns.Turn.{Turn}
use Rattle.ossl_ordered.specs.Turns.{IsInTurn, IsTurn, by_text, least, lesser, turn_at, turn_of}
use Rattle.ossl_ordered.specs.Work.{AreAtWork, AreEnded, AreReady, HasCall, IsAtWork, IsNextOf, IsPassed, IsReady, Runs, RunsBy, RunsInTurn, TakesAt, Working, turn_in}
use Rattle.ossl_ordered.proofs.DoneLaws.{at_end, is_one, no_calls, no_lines}
use Rattle.ossl_ordered.proofs.WorkLaws.{next_is}
use Rattle.ossl_print.specs.Batched.{Batch, next_of as next_in, replies_to}

-- 1. Whose turn it is.

module _ (batch : Batch) (past : List (Entry Call Reply)) where
  -- a caller of the list that has no call left is passed over
  passed_over : (c : ℕ) (list : List ℕ) (more : List (Entry Call Reply)) → turn_at batch past c ≡ None → IsInTurn batch list past more → IsInTurn batch (c ∷ list) past more
  passed_over c list [] none run = rw none run
  passed_over c list (e ∷ more) none (next, is, turn, later) = (next, rw none is, turn, later)

  -- one that has takes its turn
  takes_listed : (c : ℕ) (list : List ℕ) (t : Turn) (e : Entry Call Reply) (more : List (Entry Call Reply)) → turn_at batch past c ≡ Some t → IsTurn batch past t e → IsInTurn batch list (past ++ e ∷ []) more →
      IsInTurn batch (c ∷ list) past (e ∷ more)
  takes_listed c list t e more has turn later = (record { turn = t; rest = list }, rw has refl, turn, later)

  -- behind the list the caller of the least line takes its turn
  takes_least : (t : Turn) (e : Entry Call Reply) (more : List (Entry Call Reply)) → by_text batch past ≡ Some t → IsTurn batch past t e → IsInTurn batch [] (past ++ e ∷ []) more → IsInTurn batch [] past (e ∷ more)
  takes_least t e more has turn later = (record { turn = t; rest = [] }, rw has refl, turn, later)

  ends_least : by_text batch past ≡ None → IsInTurn batch [] past []
  ends_least none = rw none refl

  -- an entry is the turn that its caller had
  is_turn : (place : ℕ) (t : Turn) (e : Entry Call Reply) → turn_at batch past (place + 1) ≡ Some t → IsNextOf batch past place e → IsTurn batch past t e
  is_turn place t e has next =
      let mine : Turn = record { caller = place + 1; line = next.line } in
      let both : Some mine ≡ Some t = sym (ap (turn_of (place + 1)) next.call) ∙ has in
      let same : mine ≡ t = cc in
      let line : next.line ≡ t.line = ap (λ (t : Turn). t.line) same in
      record {
        caller = next.caller ∙ ap (λ (t : Turn). t.caller) same;
        call = subst (λ n. next_in batch n (replies_to n past) ≡ nexts.Call t.line e.call) (sym next.caller) (next.call ∙ ap (λ l. nexts.Call l e.call) line);
      }

  -- the turn of a caller that is ready
  ready_turn : (c : ℕ) (player : Player) → IsAtWork batch c past player → IsReady player → turn_in player ≡ turn_at batch past c
  ready_turn c player work ready = ap (λ n. turn_of n player.next) work.number ∙ ap (turn_of c) (sym (next_is batch past c player work ready))

  -- a caller that the batch lacks has none
  no_turn : (c : ℕ) → lines_of c batch.lines ≡ [] → turn_at batch past c ≡ None
  no_turn c none = ap (turn_of c) (no_calls batch c (replies_to c past) none)

-- a turn names its caller
turn_caller : (c : ℕ) (next : Next) (t : Turn) → turn_of c next ≡ Some t → t.caller ≡ c
turn_caller c (nexts.Call line call) t is =
    let mine : Turn = record { caller = c; line = line } in
    let both : Some mine ≡ Some t = is in
    let same : mine ≡ t = cc in
    sym (ap (λ (t : Turn). t.caller) same)
turn_caller c nexts.End t is = cc

-- 2. The least turn among callers.

turns_from : (f : ℕ → Option Turn) (from : ℕ) (players : List Player) → ((k : ℕ) (other : Player) → k < length players → turn_in (get_or players k other) ≡ f (from + k)) →
    filter_map turn_in players ≡ filter_map f (range_with_len from (length players))
turns_from f from [] each = refl
turns_from f from (p ∷ players) each =
    let first : turn_in p ≡ f from = each 0 p (omega arith) ∙ ap f (let e : from + 0 ≡ from = omega arith in e) in
    let rest = turns_from f (from + 1) players (λ k other below. each (suc k) other (omega (arith, below)) ∙ ap f (let e : from + suc k ≡ from + 1 + k = omega arith in e)) in
    rw (first, rest) refl

-- the least of turns is that of one of the callers
least_among : (players : List Player) (first : Option Turn) (t : Turn) → fold lesser first (filter_map turn_in players) ≡ Some t →
    (first ≡ Some t) ⊎ ((k : ℕ) × (k < length players) × ((other : Player) → turn_in (get_or players k other) ≡ Some t))
least_among [] first t is = inl is
least_among (p ∷ players) first t is = of (λ o e. least_among players o t e) (turn_in p) refl
  where
    later : ((o : Option Turn) → fold lesser o (filter_map turn_in players) ≡ Some t → (o ≡ Some t) ⊎ ((k : ℕ) × (k < length players) × ((other : Player) → turn_in (get_or players k other) ≡ Some t))) → (o : Option Turn) → fold lesser o (filter_map turn_in players) ≡ Some t → (o ≡ Some t → (first ≡ Some t) ⊎ ((k : ℕ) × (k < length (p ∷ players)) × ((other : Player) → turn_in (get_or (p ∷ players) k other) ≡ Some t))) →
        (first ≡ Some t) ⊎ ((k : ℕ) × (k < length (p ∷ players)) × ((other : Player) → turn_in (get_or (p ∷ players) k other) ≡ Some t))
    later behind o e here = elim (behind o e) [
      | inl now ↦ here now
      | inr (k, below, has) ↦ inr (suc k, omega (arith, below), has)
    ]

    choose : (turn : Turn) → turn_in p ≡ Some turn → (o : Option Turn) → first ≡ o → lesser first turn ≡ Some t → (first ≡ Some t) ⊎ ((k : ℕ) × (k < length (p ∷ players)) × ((other : Player) → turn_in (get_or (p ∷ players) k other) ≡ Some t))
    choose turn has None none chosen =
        let now : Some turn ≡ Some t = rw none at chosen in
        inr (0, omega arith, λ other. has ∙ now)
    choose turn has (Some old) some chosen = elim (cases_Bool (nat_lt turn.line old.line)) [
      | inl less ↦
          let now : Some turn ≡ Some t = rw less at (rw some at chosen) in
          inr (0, omega arith, λ other. has ∙ now)
      | inr stays ↦
          let now : Some old ≡ Some t = rw stays at (rw some at chosen) in
          inl (some ∙ now)
    ]

    of : ((o : Option Turn) → fold lesser o (filter_map turn_in players) ≡ Some t → (o ≡ Some t) ⊎ ((k : ℕ) × (k < length players) × ((other : Player) → turn_in (get_or players k other) ≡ Some t))) →
        (o : Option Turn) → turn_in p ≡ o → (first ≡ Some t) ⊎ ((k : ℕ) × (k < length (p ∷ players)) × ((other : Player) → turn_in (get_or (p ∷ players) k other) ≡ Some t))
    of behind None none = later behind first (rw none at is) (λ now. inl now)
    of behind (Some turn) some = later behind (lesser first turn) (rw some at is) (λ now. choose turn some first refl now)

-- where no turn is left each caller has none
none_left : (players : List Player) → least (filter_map turn_in players) ≡ None → (k : ℕ) (other : Player) → k < length players → turn_in (get_or players k other) ≡ None
none_left [] none k other below = absurd (omega (arith, below))
none_left (p ∷ players) none k other below = of (λ e k below. none_left players e k other below) (turn_in p) refl k below
  where
    of : (least (filter_map turn_in players) ≡ None → (k : ℕ) → k < length players → turn_in (get_or players k other) ≡ None) → (o : Option Turn) → turn_in p ≡ o → (k : ℕ) → k < length (p ∷ players) → turn_in (get_or (p ∷ players) k other) ≡ None
    of behind None is zero below = is
    of behind None is (suc k) below = behind (rw is at none) k (omega (arith, below))
    of behind (Some turn) is k below = absurd (is_one turn (filter_map turn_in players) (rw is at none))

-- 3. Callers that are ready.

module _ (batch : Batch) (contexts : ℕ) (opening turns entries : List (Entry Call Reply)) (players : List Player) (at : AreAtWork batch contexts opening turns entries players) (ready : AreReady players) where
  turn_there : (k : ℕ) (other : Player) → k < length players → turn_in (get_or players k other) ≡ turn_at batch turns (k + 1)
  turn_there k other below = ready_turn batch turns (k + 1) (get_or players k other) (at.work k other below) (ready k other below)

  same_least : least (filter_map turn_in players) ≡ by_text batch turns
  same_least = ap least (
      turns_from (turn_at batch turns) 1 players (λ k other below. turn_there k other below ∙ ap (turn_at batch turns) (let e : k + 1 ≡ 1 + k = omega arith in e))
      ∙ ap (λ n. filter_map (turn_at batch turns) (range_with_len 1 n)) at.each)

-- a caller that is passed over has no turn
passed_turn : (batch : Batch) (contexts : ℕ) (opening turns entries : List (Entry Call Reply)) (players : List Player) → AreAtWork batch contexts opening turns entries players → AreReady players →
    (c : ℕ) → IsPassed players c → turn_at batch turns c ≡ None
passed_turn batch contexts opening turns entries players at ready c (inl zero_) = subst (λ n. turn_at batch turns n ≡ None) (sym zero_) (no_turn batch turns 0 at.none)
passed_turn batch contexts opening turns entries players at ready c (inr (inl above)) = no_turn batch turns c (no_lines c 0 batch.lines (omega (arith, above, at.each))).1
passed_turn batch contexts opening turns entries players at ready c (inr (inr (there, below, none))) =
    of players at ready below none
  where
    of : (players : List Player) → AreAtWork batch contexts opening turns entries players → AreReady players → c - 1 < length players → ((other : Player) → turn_in (get_or players (c - 1) other) ≡ None) → turn_at batch turns c ≡ None
    of [] at ready below none = absurd (omega (arith, below))
    of (p ∷ players) at ready below none =
        let number : c - 1 + 1 ≡ c = omega (arith, there) in
        subst (λ n. turn_at batch turns n ≡ None) number
        (sym (turn_there batch contexts opening turns entries (p ∷ players) at ready (c - 1) p below) ∙ none p)

-- 4. Turns put together.

module _ (contexts : ℕ) (first before after : List (Entry Call Reply)) (start old new : List Player) where
  -- nothing was done yet
  pub by_none : (list : List ℕ) → RunsBy list list contexts first first start start
  by_none list batch opening turns at = (
    [],
    subst (λ l. AreAtWork batch contexts opening l first start) (sym (append-nil turns)) at,
    λ more run. subst (λ l. IsInTurn batch list l more) (append-nil turns) run,
  )

  pub working_after : Working contexts first start → (rest list : List ℕ) → RunsBy list rest contexts first before start old → Working contexts before old
  working_after (batch, opening, turns, at) rest list run = let done = run batch opening turns at in (batch, opening, turns ++ done.0, done.1)

  -- an item is passed over
  pub by_passed : (list rest : List ℕ) (c : ℕ) → AreReady old → IsPassed old c → RunsBy list (c ∷ rest) contexts first before start old → RunsBy list rest contexts first before start old
  by_passed list rest c ready passed run batch opening turns at =
      let done = run batch opening turns at in
      (done.0, done.1, λ more later. done.2 more (passed_over batch (turns ++ done.0) c rest more (passed_turn batch contexts opening (turns ++ done.0) before old done.1 ready c passed) later))

  -- a turn of a caller of this place
  turn_of_place : (batch : Batch) (opening turns : List (Entry Call Reply)) (place : ℕ) → AreAtWork batch contexts opening turns before old → AreReady old → place < length old → HasCall old place →
      (t : Turn) × (turn_at batch turns (place + 1) ≡ Some t)
  turn_of_place batch opening turns place at ready here has = of old at ready here has
    where
      of : (players : List Player) → AreAtWork batch contexts opening turns before players → AreReady players → place < length players → HasCall players place → (t : Turn) × (turn_at batch turns (place + 1) ≡ Some t)
      of [] at ready here has = absurd (omega (arith, here))
      of (p ∷ players) at ready here has = ((has p).0, sym (turn_there batch contexts opening turns before (p ∷ players) at ready place p here) ∙ (has p).1)

  -- one turn behind others
  pub taken : (list rest left : List ℕ) (place : ℕ) → RunsBy list rest contexts first before start old → TakesAt place contexts before after old new →
      ((batch : Batch) (opening turns : List (Entry Call Reply)) (e : Entry Call Reply) (more : List (Entry Call Reply)) → AreAtWork batch contexts opening turns before old → IsNextOf batch turns place e →
      IsInTurn batch left (turns ++ e ∷ []) more → IsInTurn batch rest turns (e ∷ more)) →
      RunsBy list left contexts first after start new
  taken list rest left place run takes goes batch opening turns at =
      let done = run batch opening turns at in
      let made = done.0 in
      let step = takes batch opening (turns ++ made) done.1 in
      let e = step.2.0 in
      let is = step.2.1 in
      let joined : turns ++ made ++ step.0 ≡ turns ++ (made ++ e ∷ []) = ap (λ l. turns ++ made ++ l) is ∙ append_assoc turns made (e ∷ []) in (
        made ++ e ∷ [],
        subst (λ l. AreAtWork batch contexts opening l after new) joined step.1,
        λ more later.
            subst (λ l. IsInTurn batch list turns l) (sym (append_assoc made (e ∷ []) more))
            (done.2 (e ∷ more) (goes batch opening (turns ++ made) e more done.1 step.2.2
            (subst (λ l. IsInTurn batch left l more) (sym (append_assoc turns made (e ∷ []))) later))),
      )

  -- a caller of the list takes its turn
  pub by_taken : (list rest : List ℕ) (c place : ℕ) → c ≡ place + 1 → place < length old → HasCall old place → AreReady old → RunsBy list (c ∷ rest) contexts first before start old →
      TakesAt place contexts before after old new → RunsBy list rest contexts first after start new
  by_taken list rest c place number here has ready run takes =
      taken list (c ∷ rest) rest place run takes (λ batch opening turns e more at next later.
      let turn = turn_of_place batch opening turns place at ready here has in
      subst (λ n. IsInTurn batch (n ∷ rest) turns (e ∷ more)) (sym number)
      (takes_listed batch turns (place + 1) rest turn.0 e more turn.1 (is_turn batch turns place turn.0 e turn.1 next) later))

  -- the caller of the least line takes its turn
  pub by_least : (list : List ℕ) (place : ℕ) (t : Turn) → t.caller ≡ place + 1 → place < length old → HasCall old place → AreReady old → least (filter_map turn_in old) ≡ Some t →
      RunsBy list [] contexts first before start old → TakesAt place contexts before after old new → RunsBy list [] contexts first after start new
  by_least list place t number here has ready is run takes =
      taken list [] [] place run takes (λ batch opening turns e more at next later.
      let turn = turn_of_place batch opening turns place at ready here has in
      let text : by_text batch turns ≡ Some t = sym (same_least batch contexts opening turns before old at ready) ∙ is in
      takes_least batch turns t e more text (is_turn batch turns place t e (same_turn batch opening turns at turn.0 turn.1) next) later)
    where
      same_turn : (batch : Batch) (opening turns : List (Entry Call Reply)) → AreAtWork batch contexts opening turns before old → (u : Turn) → turn_at batch turns (place + 1) ≡ Some u → turn_at batch turns (place + 1) ≡ Some t
      same_turn batch opening turns at u has_u = of (least_among old None t is)
        where
          of : (◌≡◌ {A = Option Turn} None (Some t)) ⊎ ((k : ℕ) × (k < length old) × ((other : Player) → turn_in (get_or old k other) ≡ Some t)) → turn_at batch turns (place + 1) ≡ Some t
          of (inl none) = cc
          of (inr (k, below, has_t)) = by old at ready below has_t
            where
              by : (players : List Player) → AreAtWork batch contexts opening turns before players → AreReady players → k < length players → ((other : Player) → turn_in (get_or players k other) ≡ Some t) → turn_at batch turns (place + 1) ≡ Some t
              by [] at ready below has_t = absurd (omega (arith, below))
              by (p ∷ players) at ready below has_t =
                  let there : turn_at batch turns (k + 1) ≡ Some t = sym (turn_there batch contexts opening turns before (p ∷ players) at ready k p below) ∙ has_t p in
                  let mine : t.caller ≡ k + 1 = turn_caller (k + 1) (next_in batch (k + 1) (replies_to (k + 1) turns)) t there in
                  subst (λ n. turn_at batch turns n ≡ Some t) (sym mine ∙ number) there

  -- no turn is left
  pub by_end : (list : List ℕ) → AreReady old → least (filter_map turn_in old) ≡ None → RunsBy list [] contexts first before start old → RunsInTurn list contexts first before start old
  by_end list ready none run batch opening turns at =
      let done = run batch opening turns at in
      let text : by_text batch (turns ++ done.0) ≡ None = sym (same_least batch contexts opening (turns ++ done.0) before old done.1 ready) ∙ none in
      (done.0, done.1, subst (λ l. IsInTurn batch list turns l) (append-nil done.0) (done.2 [] (ends_least batch (turns ++ done.0) text)))

  -- the turns that a list gives, and then all others
  pub by_both : (list : List ℕ) → RunsBy list [] contexts first before start old → RunsInTurn [] contexts before after old new → RunsInTurn list contexts first after start new
  by_both list run rest batch opening turns at =
      let done = run batch opening turns at in
      let more = rest batch opening (turns ++ done.0) done.1 in
      (done.0 ++ more.0, subst (λ l. AreAtWork batch contexts opening l after new) (append_assoc turns done.0 more.0) more.1, done.2 more.0 more.2)

  -- turns that ended for want of memory
  pub runs_both : (list rest : List ℕ) → RunsBy list rest contexts first before start old → Runs contexts before after old new → Runs contexts first after start new
  runs_both list rest run more batch opening turns at =
      let done = run batch opening turns at in
      let last = more batch opening (turns ++ done.0) done.1 in
      (done.0 ++ last.0, subst (λ l. AreAtWork batch contexts opening l after new) (append_assoc turns done.0 last.0) last.1, tt)

  pub runs_only : (list rest : List ℕ) → RunsBy list rest contexts first before start old → Runs contexts first before start old
  runs_only list rest run batch opening turns at = let done = run batch opening turns at in (done.0, done.1, tt)

-- where no turn is left the lines of each caller are done
pub all_ended : (players : List Player) → AreReady players → least (filter_map turn_in players) ≡ None → AreEnded players
all_ended players ready none k other below =
    let p = get_or players k other in
    let last : p.next ≡ nexts.End = at_end p.caller p.next (none_left players none k other below) in
    (ready k other below).ended ∙ ap is_end last

-- the place of the least turn
pub least_place : (players : List Player) (t : Turn) → AreReady players → ((k : ℕ) (other : Player) → k < length players → (get_or players k other).caller ≡ k + 1) → least (filter_map turn_in players) ≡ Some t →
    (t.caller - 1 < length players) × HasCall players (t.caller - 1) × (t.caller ≡ t.caller - 1 + 1)
least_place players t ready numbers is = of (least_among players None t is)
  where
    of : (◌≡◌ {A = Option Turn} None (Some t)) ⊎ ((k : ℕ) × (k < length players) × ((other : Player) → turn_in (get_or players k other) ≡ Some t)) →
        (t.caller - 1 < length players) × HasCall players (t.caller - 1) × (t.caller ≡ t.caller - 1 + 1)
    of (inl none) = cc
    of (inr (k, below, has)) = by players numbers below has
      where
        by : (players : List Player) → ((k : ℕ) (other : Player) → k < length players → (get_or players k other).caller ≡ k + 1) → k < length players → ((other : Player) → turn_in (get_or players k other) ≡ Some t) →
            (t.caller - 1 < length players) × HasCall players (t.caller - 1) × (t.caller ≡ t.caller - 1 + 1)
        by [] numbers below has = absurd (omega (arith, below))
        by (p ∷ players) numbers below has =
            let q = get_or (p ∷ players) k p in
            let mine : t.caller ≡ k + 1 = turn_caller q.caller q.next t (has p) ∙ numbers k p below in
            let place : t.caller - 1 ≡ k = omega (arith, mine) in
            (omega (arith, place, below), (λ other. (t, subst (λ n. turn_in (get_or (p ∷ players) n other) ≡ Some t) (sym place) (has other))), omega (arith, mine))

-- one more caller is looked at
abbrev pub after_turn : Option Turn → Option Turn → Option Turn
after_turn first None = first
after_turn first (Some turn) = lesser first turn

pub least_step : (first now all : Option Turn) (p : Player) (rest : List Player) (o : Option Turn) → fold lesser first (filter_map turn_in (p ∷ rest)) ≡ all → turn_in p ≡ o → now ≡ after_turn first o →
    fold lesser now (filter_map turn_in rest) ≡ all
least_step first now all p rest None whole is then_ = let left : fold lesser first (filter_map turn_in rest) ≡ all = rw is at whole in ap (λ f. fold lesser f (filter_map turn_in rest)) then_ ∙ left
least_step first now all p rest (Some turn) whole is then_ = let left : fold lesser (lesser first turn) (filter_map turn_in rest) ≡ all = rw is at whole in ap (λ f. fold lesser f (filter_map turn_in rest)) then_ ∙ left

pub drop_player : (players : List Player) (i : ℕ) (p : Player) → i < length players → p ≡ get_or players i p → drop i players ≡ p ∷ drop (i + 1) players
drop_player players i p here is =
    let P : Player → Type 0 = λ q. drop i players ≡ q ∷ drop (i + 1) players in
    subst P (sym is) (rw (add-one, drop-cons players i p) refl)

pub drop_number : (list : List ℕ) (i : ℕ) → i < length list → drop i list ≡ get_or list i 0 ∷ drop (i + 1) list
drop_number list i here = rw (add-one, drop-cons list i 0) refl

-- each caller stands at the place of its number
pub numbers_of : (contexts : ℕ) (entries : List (Entry Call Reply)) (players : List Player) → Working contexts entries players → (k : ℕ) (other : Player) → k < length players → (get_or players k other).caller ≡ k + 1
numbers_of contexts entries players (batch, opening, turns, at) k other below = (at.work k other below).number
