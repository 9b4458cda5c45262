-- What the type of the plain registry keeps, through each kind of entry.
use Rattle.std.proofs.Common.{◌≡◌, ℕ, ◌+◌, ◌-◌, ◌^◌, ◌<◌, ◌≤◌, min, Bool, true, false, nat_eq, nat_lt, List, [], ◌∷◌, ◌++◌, length, map, refl, sym, ◌∙◌, ap, subst, arith, suc, zero, add-zero, inl, inr}
use Rattle.std.proofs.Math.ListN.{set, length-set}
use Rattle.std.specs.List.{list_all, filter, count_by}
use Rattle.std.specs.Prelude.{if◌then◌else◌, slice_index}
use Rattle.std.proofs.lemmas.Bool.{cases_Bool, cases_eq, and_parts, eq-eqb, ne_eqb, lt-ltb, ltb-true, both_ways}
use Rattle.std.proofs.lemmas.Grind.{common_steps}
use Rattle.std.proofs.lemmas.List.{get_or-set_same, get_or-set_other, map-append, append-nil, length-map}
use Rattle.std.proofs.lemmas.List.Elements.{filter-append}
use Rattle.std.proofs.lemmas.List.Sums.{count_by-le-length}
use Rattle.ossl_base.specs.declared.entry.Entry.{Entry}
use Rattle.ossl_provider.specs.Members.{is_in, without, is_distinct}
use Rattle.ossl_provider.specs.Sheet.{Sheet, after_start, after_refusal}
use Rattle.ossl_provider.proofs.MembersLaws.{is_distinct-without, length-without, without-absent}
use Rattle.ossl_state.specs.declared.call.Call.{Call}
use Rattle.ossl_state.specs.declared.call.Reply.{Reply}
use Rattle.ossl_state.specs.declared.state.Born.{Born}
use Rattle.ossl_state.specs.declared.state.Going.{Going}
use Rattle.ossl_state.specs.declared.state.Going.TheVariants.{Element, Activation, Nothing, Library}
use Rattle.ossl_state.specs.declared.state.State.{State}
use Rattle.ossl_state.specs.Boxes.{sheet_of, facts_at, no_sheet, with_up}
use Rattle.ossl_calls.specs.Events.{Keeps, Takes, Refuses, Bears}
use Rattle.ossl_state.specs.Going.{without_going}
use Rattle.ossl_state.specs.History.{Fixed, IsNext, IsStep, state_after, says_refused, refusals}
use Rattle.ossl_calls.specs.Kept.{IsKept}
use Rattle.ossl_calls.specs.Started.{sheets_started}
use Rattle.ossl_calls.specs.Registry.{sheet_at}
use Rattle.ossl_state.specs.Sound.{IsSound, HasSoundInstances, number_of_born, lib_of_born}
use Rattle.ossl_state.specs.State.{is_of_box, is_up, up_instances, up_at, starts_at}
use Rattle.ossl_state.specs.Step.{with_next}
use Rattle.ossl_state.proofs.HistoryLaws.{state_after-push, IsLegal-push, refusals-push, next-after}
use Rattle.ossl_state.proofs.LegalLaws.{sound_after}
use Rattle.ossl_state.proofs.ListLaws.{is_in_below, all_fewer}
use Rattle.ossl_calls.proofs.OpeningLaws.{same_sheet}
use Rattle.ossl_calls.proofs.UpLaws.{is_in-numbers_at}

count_by-push : {X : Type 0} (p : X → Bool) (xs : List X) (x : X) → count_by p (xs ++ x ∷ []) ≡ count_by p xs + (if p x then 1 else 0)
count_by-push p [] x = grind (arith, common_steps)
count_by-push p (y ∷ xs) x = grind (arith, common_steps, count_by-push p xs x)

module _ (fixed : Fixed) (sheets : List Sheet) (state : State) (entries : List (Entry Call Reply)) (e : Entry Call Reply) (h : IsKept fixed sheets state entries) (next : IsNext fixed entries e) where
  old : (k : ℕ) → k < length sheets → sheet_of sheets k ≡ sheet_at state (slice_index fixed.opened k) (refusals (facts_at fixed.facts k).name entries) k
  old k below = rw h.is_after (h.agree k below)

  -- an entry that starts and stops nothing
  pub IsKept-keeps : (left : State) → Keeps fixed.facts (state_after fixed entries) e left → IsKept fixed sheets (with_next left) (entries ++ e ∷ [])
  IsKept-keeps left keeps =
      let after_is : state_after fixed (entries ++ e ∷ []) ≡ with_next left = state_after-push fixed entries e ∙ ap with_next keeps.leaves in
      let up : up_instances state ≡ up_instances left = rw h.is_after (sym keeps.up) in
      let born : state.born ≡ left.born = rw h.is_after (sym keeps.born) in
      record {
        names = h.names;
        few = h.few;
        legal = IsLegal-push fixed entries e h.legal next;
        is_after = sym after_is;
        agree = λ k below.
            let name = (facts_at fixed.facts k).name in
            let new : sheet_of sheets k ≡ sheet_at (with_next left) (slice_index fixed.opened k) (refusals name entries) k =
            old k below ∙ same_sheet _ _ (ap (λ bs. map number_of_born (filter (is_of_box k) bs)) up) (ap (λ bs. count_by (is_of_box k) bs) born) refl in
            rw (after_is, refusals-push name entries e, keeps.no_refusal name, add-zero) new;
      }

  starts_at-without : (going : Going) (k : ℕ) → starts_at state k ≡ starts_at (without_going state going) k
  starts_at-without (Element t) k = refl
  starts_at-without (Activation l t kept) k = refl
  starts_at-without Nothing k = refl
  starts_at-without (Library l) k = refl

  next-without : (going : Going) (k : ℕ) → up_at (with_next (without_going state going)) k ≡ up_at (without_going state going) k
  next-without (Element t) k = refl
  next-without (Activation l t kept) k = refl
  next-without Nothing k = refl
  next-without (Library l) k = refl

  -- an entry by which something goes
  pub IsKept-takes : (sheets' : List Sheet) (going : Going) → Takes fixed.facts (state_after fixed entries) e going → length sheets' ≡ length sheets →
      ((k : ℕ) → k < length sheets → sheet_of sheets' k ≡ with_up (sheet_of sheets k) (up_at (without_going state going) k)) →
      IsKept fixed sheets' (with_next (without_going state going)) (entries ++ e ∷ [])
  IsKept-takes sheets' going takes same stopped =
      let after_is : state_after fixed (entries ++ e ∷ []) ≡ with_next (without_going state going) =
      state_after-push fixed entries e ∙ ap with_next takes.leaves ∙ ap (λ s. with_next (without_going s going)) (sym h.is_after) in
      record {
        names = h.names;
        few = h.few;
        legal = IsLegal-push fixed entries e h.legal next;
        is_after = sym after_is;
        agree = λ k below.
            let within : k < length sheets = omega arith in
            let name = (facts_at fixed.facts k).name in
            let new : sheet_of sheets' k ≡ sheet_at (with_next (without_going state going)) (slice_index fixed.opened k) (refusals name entries) k =
            stopped k within ∙ ap (λ s. with_up s (up_at (without_going state going) k)) (old k within)
            ∙ same_sheet _ _ (sym (next-without going k)) (starts_at-without going k) refl in
            rw (after_is, refusals-push name entries e, takes.no_refusal name, add-zero) new;
      }

  -- one refusal more is one more fault, up to the greatest count
  refused-faults : (o r : ℕ) → min (min (o + r) (2 ^ 64 - 1) + 1) (2 ^ 64 - 1) ≡ min (o + (r + 1)) (2 ^ 64 - 1)
  refused-faults o r = omega arith

  -- an entry by which a box refuses a start
  pub IsKept-refused : (sheets' : List Sheet) (k : ℕ) → Refuses fixed.facts (state_after fixed entries) e k → length fixed.facts ≡ length sheets → k < length sheets →
      sheets' ≡ set sheets k (after_refusal (sheet_of sheets k)) → length sheets' ≡ length sheets → IsKept fixed sheets' (with_next state) (entries ++ e ∷ [])
  IsKept-refused sheets' k cause same within changed length_same =
      let after_is : state_after fixed (entries ++ e ∷ []) ≡ with_next state = state_after-push fixed entries e ∙ ap with_next cause.leaves ∙ ap with_next (sym h.is_after) in
      record {
        names = h.names;
        few = h.few;
        legal = IsLegal-push fixed entries e h.legal next;
        is_after = sym after_is;
        agree = λ j below.
            let inside : j < length sheets = omega arith in
            let name = (facts_at fixed.facts j).name in
            elim (cases_eq j k) [
              | inl here ↦
                  let now : sheet_of sheets' j ≡ after_refusal (sheet_of sheets j) = rw here (ap (λ l. sheet_of l k) changed ∙ get_or-set_same sheets k (after_refusal (sheet_of sheets k)) no_sheet within) in
                  let one : says_refused name e.reply ≡ true = rw here cause.here in
                  let new : sheet_of sheets' j ≡ sheet_at (with_next state) (slice_index fixed.opened j) (refusals name entries + 1) j =
                  now ∙ ap after_refusal (old j inside) ∙ same_sheet _ _ refl refl (refused-faults (slice_index fixed.opened j) (refusals name entries)) in
                  rw (after_is, refusals-push name entries e, one) new
              | inr other ↦
                  let now : sheet_of sheets' j ≡ sheet_of sheets j = ap (λ l. sheet_of l j) changed ∙ get_or-set_other sheets k j (after_refusal (sheet_of sheets k)) no_sheet other in
                  let none = cause.others j (omega arith) other in
                  let new : sheet_of sheets' j ≡ sheet_at (with_next state) (slice_index fixed.opened j) (refusals name entries) j = now ∙ old j inside in
                  rw (after_is, refusals-push name entries e, none, add-zero) new
            ];
      }

  -- an entry by which a box is started
  pub IsKept-born : (sheets' : List Sheet) (left : State) (b : Born) → Bears fixed.facts (state_after fixed entries) e left b → length fixed.facts ≡ length sheets →
      sheets' ≡ set sheets b.place (after_start (sheet_of sheets b.place) b.number) → length sheets' ≡ length sheets → IsKept fixed sheets' (with_next left) (entries ++ e ∷ [])
  IsKept-born sheets' left b cause same changed length_same =
      let after_is : state_after fixed (entries ++ e ∷ []) ≡ with_next left = state_after-push fixed entries e ∙ ap with_next cause.leaves in
      let up : up_instances left ≡ up_instances state ++ b ∷ [] = rw h.is_after cause.up in
      let born : left.born ≡ state.born ++ b ∷ [] = rw h.is_after cause.born in
      let within : b.place < length sheets = omega (arith, cause.place, same) in
      record {
        names = h.names;
        few = h.few;
        legal = IsLegal-push fixed entries e h.legal next;
        is_after = sym after_is;
        agree = λ j below.
            let inside : j < length sheets = omega arith in
            let name = (facts_at fixed.facts j).name in
            let ups : up_at left j ≡ map number_of_born (filter (is_of_box j) (up_instances state) ++ filter (is_of_box j) (b ∷ [])) =
            ap (λ bs. map number_of_born (filter (is_of_box j) bs)) up ∙ ap (map number_of_born) (filter-append (is_of_box j) (up_instances state) (b ∷ [])) in
            let starts : starts_at left j ≡ starts_at state j + (if is_of_box j b then 1 else 0) = ap (count_by (is_of_box j)) born ∙ count_by-push (is_of_box j) state.born b in
            elim (cases_eq j b.place) [
              | inl here ↦
                  let mine : is_of_box j b ≡ true = rw here (eq-eqb b.place b.place refl) in
                  let one : filter (is_of_box j) (b ∷ []) ≡ b ∷ [] = rw mine refl in
                  let now : sheet_of sheets' j ≡ after_start (sheet_of sheets j) b.number = rw here (ap (λ l. sheet_of l b.place) changed ∙ get_or-set_same sheets b.place (after_start (sheet_of sheets b.place) b.number) no_sheet within) in
                  let new : sheet_of sheets' j ≡ sheet_at (with_next left) (slice_index fixed.opened j) (refusals name entries) j =
                  now ∙ ap (λ s. after_start s b.number) (old j inside)
                  ∙ same_sheet _ _ (sym (ups ∙ ap (λ bs. map number_of_born (filter (is_of_box j) (up_instances state) ++ bs)) one ∙ map-append number_of_born (filter (is_of_box j) (up_instances state)) (b ∷ []))) (sym (rw mine at starts)) refl in
                  rw (after_is, refusals-push name entries e, cause.no_refusal name, add-zero) new
              | inr other ↦
                  let not_mine : is_of_box j b ≡ false = ne_eqb b.place j (λ q. other (sym q)) in
                  let none : filter (is_of_box j) (b ∷ []) ≡ [] = rw not_mine refl in
                  let now : sheet_of sheets' j ≡ sheet_of sheets j = ap (λ l. sheet_of l j) changed ∙ get_or-set_other sheets b.place j (after_start (sheet_of sheets b.place) b.number) no_sheet other in
                  let new : sheet_of sheets' j ≡ sheet_at (with_next left) (slice_index fixed.opened j) (refusals name entries) j =
                  now ∙ old j inside
                  ∙ same_sheet _ _ (sym (ups ∙ ap (λ bs. map number_of_born (filter (is_of_box j) (up_instances state) ++ bs)) none ∙ ap (map number_of_born) (append-nil (filter (is_of_box j) (up_instances state))))) (sym (rw (not_mine, add-zero) at starts)) refl in
                  rw (after_is, refusals-push name entries e, cause.no_refusal name, add-zero) new
            ];
      }

  -- an entry by which the box at a place is started where it has to be, and which starts nothing otherwise
  pub IsKept-started : (starts : Bool) (sheets' : List Sheet) (left : State) (k : ℕ) →
      (starts ≡ true → (b : Born) × (b.place ≡ k) × Bears fixed.facts (state_after fixed entries) e left b) →
      (starts ≡ false → Keeps fixed.facts (state_after fixed entries) e left) →
      length fixed.facts ≡ length sheets → sheets' ≡ sheets_started starts sheets k state.next →
      IsKept fixed sheets' (with_next left) (entries ++ e ∷ [])
  IsKept-started true sheets' left k bears keeps same changed =
      let b = (bears refl).0 in
      let cause = (bears refl).2 in
      let number : b.number ≡ state.next = cause.number ∙ ap (λ (s : State). s.next) (sym h.is_after) in
      let is : sheets' ≡ set sheets b.place (after_start (sheet_of sheets b.place) b.number) = rw ((bears refl).1, number) changed in
      IsKept-born sheets' left b cause same is (ap length changed ∙ length-set sheets k (after_start (sheet_of sheets k) state.next))
  IsKept-started false sheets' left k bears keeps same changed = rw changed (IsKept-keeps left (keeps refl))

-- so many distinct numbers below a bound are at most so many
few_distinct : (m : ℕ) (xs : List ℕ) → is_distinct xs ≡ true → list_all (λ x. nat_lt x m) xs ≡ true → length xs ≤ m
few_distinct zero [] d all = omega arith
few_distinct zero (x ∷ xs) d all = let parts = and_parts (nat_lt x 0) (list_all (λ x. nat_lt x 0) xs) all in let less = ltb-true x 0 parts.0 in absurd (omega arith)
few_distinct (suc m) xs d all =
    let fewer = few_distinct m (without m xs) (is_distinct-without m xs d) (below m xs all) in
    elim (cases_Bool (is_in m xs)) [
      | inl there ↦ omega (arith, fewer, length-without m xs d there)
      | inr absent ↦ omega (arith, fewer, ap length (without-absent m xs absent))
    ]
  where
    differs : (x m : ℕ) → x < suc m → nat_eq x m ≡ false → x < m
    differs x m less other = elim (cases_eq x m) [
      | inl same ↦ absurd (both_ways (nat_eq x m) other (eq-eqb x m same))
      | inr apart ↦ omega arith
    ]

    below : (m : ℕ) (xs : List ℕ) → list_all (λ x. nat_lt x (suc m)) xs ≡ true → list_all (λ x. nat_lt x m) (without m xs) ≡ true
    below m [] all = refl
    below m (x ∷ xs) all =
        let parts = and_parts (nat_lt x (suc m)) (list_all (λ x. nat_lt x (suc m)) xs) all in
        let less = ltb-true x (suc m) parts.0 in
        elim (cases_Bool (nat_eq x m)) [
          | inl same ↦ rw same (below m xs parts.1)
          | inr other ↦ rw (other, lt-ltb x m (differs x m less other), below m xs parts.1) refl
        ]

all_map : {X : Type 0} (f : X → ℕ) (m : ℕ) (xs : List X) → list_all (λ x. nat_lt (f x) m) xs ≡ true → list_all (λ n. nat_lt n m) (map f xs) ≡ true
all_map f m [] all = refl
all_map f m (x ∷ xs) all = let parts = and_parts (nat_lt (f x) m) (list_all (λ x. nat_lt (f x) m) xs) all in rw (parts.0, all_map f m xs parts.1) refl

-- a box may be started under the next number
pub record MayStart (s : Sheet) (n : ℕ) : Type 0 where
  pub fresh : is_in n s.up ≡ false
  pub room : length s.up ≤ 8
  pub few : s.starts < n

pub may_start : (fixed : Fixed) (sheets : List Sheet) (state : State) (entries : List (Entry Call Reply)) (k : ℕ) → IsKept fixed sheets state entries → k < length sheets → MayStart (sheet_of sheets k) state.next
may_start fixed sheets state entries k h within =
    let sound : HasSoundInstances fixed state.next state = rw h.is_after (sound_after fixed entries h.legal).instances in
    let is : sheet_of sheets k ≡ sheet_at state (slice_index fixed.opened k) (refusals (facts_at fixed.facts k).name entries) k = rw h.is_after (h.agree k within) in
    let here = filter (is_of_box k) (up_instances state) in
    let libs = few_distinct fixed.contexts (map lib_of_born here) (sound.single k)
    (all_map lib_of_born fixed.contexts here (all_fewer (λ b. nat_lt b.lib fixed.contexts) (is_of_box k) (up_instances state) (all_fewer (λ b. nat_lt b.lib fixed.contexts) (is_up state) state.born sound.libs))) in
    rw is (record {
      fresh = is_in-numbers_at (is_up state) k state.next state.born (is_in_below number_of_born state.next state.born sound.below);
      room = simp length-map (omega (arith, simp length-map at libs, h.few));
      few = omega (arith, count_by-le-length (is_of_box k) state.born, sound.few);
    })

-- the state is sound
pub kept-sound : (fixed : Fixed) (sheets : List Sheet) (state : State) (entries : List (Entry Call Reply)) → IsKept fixed sheets state entries → IsSound fixed state entries
kept-sound fixed sheets state entries h = rw h.is_after (sound_after fixed entries h.legal)

-- and its next entry has the next number
pub kept-next : (fixed : Fixed) (sheets : List Sheet) (state : State) (entries : List (Entry Call Reply)) → IsKept fixed sheets state entries → state.next ≡ length entries + 1
kept-next fixed sheets state entries h = rw h.is_after (next-after fixed entries)

-- the place of a born instance, among the sheets
pub placed : {P F S : Type 0} (facts : P → F) (sheet : P → S) (boxes : List P) (place k : ℕ) → k ≡ place → k < length (map facts boxes) → place < length (map sheet boxes)
placed facts sheet boxes place k e h = simp length-map (rw e at (simp length-map at h))

-- the same entries, over the state itself
module _ (fixed : Fixed) (sheets : List Sheet) (s : State) (entries : List (Entry Call Reply)) (e : Entry Call Reply) (h : IsKept fixed sheets s entries) (step : IsStep fixed s entries e) where
  next : IsNext fixed entries e
  next = let P : State → Type 0 = λ t. IsStep fixed t entries e in subst P h.is_after step

  pub kept-keeps : (left : State) → Keeps fixed.facts s e left → IsKept fixed sheets (with_next left) (entries ++ e ∷ [])
  kept-keeps left keeps =
      let P : State → Type 0 = λ t. Keeps fixed.facts t e left in
      IsKept-keeps fixed sheets s entries e h next left (subst P h.is_after keeps)

  pub kept-started : (starts : Bool) (sheets' : List Sheet) (left : State) (k : ℕ) →
      (starts ≡ true → (b : Born) × (b.place ≡ k) × Bears fixed.facts s e left b) → (starts ≡ false → Keeps fixed.facts s e left) →
      length fixed.facts ≡ length sheets → sheets' ≡ sheets_started starts sheets k s.next → IsKept fixed sheets' (with_next left) (entries ++ e ∷ [])
  kept-started starts sheets' left k bears keeps same changed =
      let P : State → Type 0 = λ t. (b : Born) × (b.place ≡ k) × Bears fixed.facts t e left b in
      let Q : State → Type 0 = λ t. Keeps fixed.facts t e left in
      IsKept-started fixed sheets s entries e h next starts sheets' left k (λ y. subst P h.is_after (bears y)) (λ n. subst Q h.is_after (keeps n)) same changed

  pub kept-refused : (sheets' : List Sheet) (k : ℕ) → Refuses fixed.facts s e k → length fixed.facts ≡ length sheets → k < length sheets →
      sheets' ≡ set sheets k (after_refusal (sheet_of sheets k)) → IsKept fixed sheets' (with_next s) (entries ++ e ∷ [])
  kept-refused sheets' k cause same within changed =
      let P : State → Type 0 = λ t. Refuses fixed.facts t e k in
      IsKept-refused fixed sheets s entries e h next sheets' k (subst P h.is_after cause) same within changed (ap length changed ∙ length-set sheets k (after_refusal (sheet_of sheets k)))
