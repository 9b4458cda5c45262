-- Over the same boxes, with the same starts refused, there is only one finished run in the order of a list.
use Rattle.std.proofs.Common.{◌≡◌, ℕ, suc, Bool, true, false, List, [], ◌∷◌, ◌++◌, map, refl, sym, ◌∙◌, ap, subst, nat_eq, append_assoc, inl, inr}
use Rattle.std.specs.Prelude.{None, Some, Option, if◌then◌else◌, is_some}
use Rattle.std.proofs.lemmas.Bool.{cases_Bool, eqb-true}
use Rattle.std.proofs.lemmas.List.{append-nil}
use Rattle.ossl_base.specs.declared.entry.Entry.{Entry}
use Rattle.ossl_provider.specs.Sheet.{Facts}
use Rattle.ossl_state.specs.declared.call.Call.{Call}
use Rattle.ossl_state.specs.declared.call.Call.TheVariants.{Load, Unload, SetDefault, Fetch, UpRef, Free, NewCtx, FreeCtx, CloseLib}
use Rattle.ossl_state.specs.declared.call.Reply.{Reply}
use Rattle.ossl_state.specs.declared.call.Reply.TheVariants.{Loaded, Fetched, Made, Done, NoLib, NoProvider, StartRefused, Unsupported, NotAdmitted}
use Rattle.ossl_state.specs.declared.state.State.{State}
use Rattle.ossl_calls.specs.Best.{best_method}
use Rattle.ossl_state.specs.Boxes.{default_name, place_of}
use Rattle.ossl_state.specs.History.{Fixed, IsLegal, IsRun, after_entry, state_from}
use Rattle.ossl_state.specs.State.{lib_at, opening_state}
use Rattle.ossl_state.specs.Step.{Answers, IsLoaded, MayRefuse, admits, after_activation, after_fallback, element_of, fetched_of, holder_of, loaded_reply}
use Rattle.ossl_state.specs.Tokens.{entries_of}
use Rattle.ossl_commands.specs.Counts.{contexts_of}
use Rattle.ossl_conf.specs.View.{SettingsView}
use Rattle.ossl_script.specs.declared.caller.Next.TheVariants as nexts
use Rattle.ossl_print.specs.Batched.{Batch, next_of, replies_to}
use Rattle.ossl_ordered.specs.Opening.{activations_of, closing_calls}
use Rattle.ossl_ordered.specs.Turns.{Drawn, IsInTurn, IsRunInOrder, RunIsFixed, by_caller, is_refused_start, refuses_at, returning_calls}

-- 1. There is one reply to a call, but for a refused start.

module _ (facts : List Facts) (s : State) where
  abbrev load_reply : Bool → ℕ → List ℕ → Option ℕ → Reply
  load_reply refused l name None = NoProvider
  load_reply true l name (Some k) = StartRefused name
  load_reply false l name (Some k) = loaded_reply (after_activation facts s l k) s.next l k

  abbrev open_reply : ℕ → Reply → Reply
  open_reply l reply = if (lib_at s l).is_open then reply else NoLib

  abbrev the_reply : Bool → Call → Reply
  the_reply refused (Load l name retain) = open_reply l (load_reply refused l name (place_of name facts))
  the_reply refused (Unload t) = if is_some (holder_of s t) then Done else NoLib
  the_reply refused (SetDefault l query) = open_reply l Done
  the_reply refused (Fetch l op name query) = open_reply l (if refused then StartRefused default_name else fetched_of facts s.next (best_method (after_fallback facts s l) l op name query))
  the_reply refused (UpRef h) = Made s.next
  the_reply refused (Free h) = Done
  the_reply refused (NewCtx h inner len) = if admits facts len (element_of s h) then Made s.next else NotAdmitted
  the_reply refused (FreeCtx h) = Done
  the_reply refused (CloseLib l) = open_reply l Done

  loaded_is : (l : ℕ) (name : List ℕ) (n i skipped : ℕ) (o : Option ℕ) → IsLoaded facts s l (Loaded n i skipped) o → Loaded n i skipped ≡ load_reply false l name o
  loaded_is l name n i skipped None loaded = absurd loaded
  loaded_is l name n i skipped (Some k) loaded = loaded

  refused_is : (l : ℕ) (name : List ℕ) (o : Option ℕ) → MayRefuse s l o → StartRefused name ≡ load_reply true l name o
  refused_is l name None may = absurd may
  refused_is l name (Some k) may = refl

  is_the_reply : (c : ℕ) (call : Call) (reply : Reply) → Answers facts s c call reply → reply ≡ the_reply (is_refused_start reply) call
  is_the_reply c (Load l name retain) NoLib a = rw a refl
  is_the_reply c (Load l name retain) NoProvider a = rw (a.0, a.1) refl
  is_the_reply c (Load l name retain) (StartRefused p) a = rw (a.0, a.1) (refused_is l name (place_of name facts) a.2)
  is_the_reply c (Load l name retain) (Loaded n i skipped) a = rw a.0 (loaded_is l name n i skipped (place_of name facts) a.1)
  is_the_reply c (Unload t) NoLib a = rw a refl
  is_the_reply c (Unload t) Done a = rw a refl
  is_the_reply c (SetDefault l query) NoLib a = rw a refl
  is_the_reply c (SetDefault l query) Done a = rw a refl
  is_the_reply c (Fetch l op name query) NoLib a = rw a refl
  is_the_reply c (Fetch l op name query) (StartRefused p) a = rw (a.0, a.2) refl
  is_the_reply c (Fetch l op name query) (Fetched n p i r code) a = rw a.0 a.1
  is_the_reply c (Fetch l op name query) Unsupported a = rw (a.0, a.1) refl
  is_the_reply c (UpRef h) (Made n) a = ap Made a
  is_the_reply c (Free h) Done a = refl
  is_the_reply c (NewCtx h inner len) NotAdmitted a = rw a refl
  is_the_reply c (NewCtx h inner len) (Made n) a = rw a.0 (ap Made a.1)
  is_the_reply c (FreeCtx h) Done a = refl
  is_the_reply c (CloseLib l) NoLib a = rw a refl
  is_the_reply c (CloseLib l) Done a = rw a refl
  is_the_reply c call reply a = absurd a

  one_reply : (c : ℕ) (call : Call) (reply other : Reply) → Answers facts s c call reply → Answers facts s c call other → is_refused_start other ≡ is_refused_start reply → other ≡ reply
  one_reply c call reply other a b same = is_the_reply c call other b ∙ ap (λ refused. the_reply refused call) same ∙ sym (is_the_reply c call reply a)

-- 2. Entries of the same callers and calls are the same.

abbrev entry_by : ℕ → Call → Reply → Entry Call Reply
entry_by c call reply = record { caller = c; call = call; reply = reply }

same_entry : (facts : List Facts) (s : State) (e other : Entry Call Reply) → other.caller ≡ e.caller → other.call ≡ e.call →
    Answers facts s e.caller e.call e.reply → Answers facts s other.caller other.call other.reply → is_refused_start other.reply ≡ is_refused_start e.reply → other ≡ e
same_entry facts s e other caller call a b same =
    let P : ℕ → Type 0 = λ c. Answers facts s c other.call other.reply in
    let Q : Call → Type 0 = λ x. Answers facts s e.caller x other.reply in
    let reply = one_reply facts s e.caller e.call e.reply other.reply a (subst Q call (subst P caller b)) same in
    ap (λ c. entry_by c other.call other.reply) caller ∙ ap (λ x. entry_by e.caller x other.reply) call ∙ ap (λ r. entry_by e.caller e.call r) reply

abbrev calls_of : List (Entry Call Reply) → List (ℕ × Call)
calls_of es = map (λ e. by_caller e.caller e.call) es

-- what stands behind entries of the same callers and calls
pub record AreSame (xs ys rest others : List (Entry Call Reply)) : Type 0 where
  pub same : ys ≡ xs
  pub refused : (k : ℕ) → refuses_at k others ≡ refuses_at k rest

module _ (fixed : Fixed) where
  same_calls : (s : State) (past xs ys rest others : List (Entry Call Reply)) → IsRun fixed s past (xs ++ rest) → IsRun fixed s past (ys ++ others) →
      ((k : ℕ) → refuses_at k (ys ++ others) ≡ refuses_at k (xs ++ rest)) → calls_of ys ≡ calls_of xs → AreSame xs ys rest others
  same_calls s past [] [] rest others run other_run refused calls = record { same = refl; refused = refused }
  same_calls s past [] (y ∷ ys) rest others run other_run refused calls = cc
  same_calls s past (x ∷ xs) [] rest others run other_run refused calls = cc
  same_calls s past (x ∷ xs) (y ∷ ys) rest others run other_run refused calls =
      let pair : by_caller y.caller y.call ≡ by_caller x.caller x.call = cc in
      let same : y ≡ x = same_entry fixed.facts s x y (ap (λ (p : ℕ × Call). p.0) pair) (ap (λ (p : ℕ × Call). p.1) pair) run.0.answers other_run.0.answers (refused 0) in
      let P : Entry Call Reply → Type 0 = λ e. IsRun fixed (after_entry fixed.facts s e) (past ++ e ∷ []) (ys ++ others) in
      let behind = same_calls (after_entry fixed.facts s x) (past ++ x ∷ []) xs ys rest others run.1 (subst P same other_run.1) (λ k. refused (suc k)) (cc) in
      record { same = ap (λ e. e ∷ ys) same ∙ ap (λ l. x ∷ l) behind.same; refused = behind.refused }

  -- 3. Turns are the same.

  same_turns : (batch : Batch) (list : List ℕ) (s : State) (past made xs ys rest others : List (Entry Call Reply)) → IsInTurn batch list made xs → IsInTurn batch list made ys →
      IsRun fixed s past (xs ++ rest) → IsRun fixed s past (ys ++ others) → ((k : ℕ) → refuses_at k (ys ++ others) ≡ refuses_at k (xs ++ rest)) → AreSame xs ys rest others
  same_turns batch list s past made [] [] rest others turns other_turns run other_run refused = record { same = refl; refused = refused }
  same_turns batch list s past made [] (y ∷ ys) rest others turns (next, is, turn, later) run other_run refused = cc
  same_turns batch list s past made (x ∷ xs) [] rest others (next, is, turn, later) other_turns run other_run refused = cc
  same_turns batch list s past made (x ∷ xs) (y ∷ ys) rest others (next, is, turn, later) (other_next, other_is, other_turn, other_later) run other_run refused =
      let same_next : other_next ≡ next = cc in
      let caller : y.caller ≡ x.caller = other_turn.caller ∙ ap (λ (d : Drawn). d.turn.caller) same_next ∙ sym turn.caller in
      let N : ℕ → Type 0 = λ c. next_of batch c (replies_to c made) ≡ nexts.Call other_next.turn.line y.call in
      let its : next_of batch x.caller (replies_to x.caller made) ≡ nexts.Call other_next.turn.line y.call = subst N caller other_turn.call in
      let theirs : next_of batch x.caller (replies_to x.caller made) ≡ nexts.Call next.turn.line x.call = turn.call in
      let call : y.call ≡ x.call = cc in
      let same : y ≡ x = same_entry fixed.facts s x y caller call run.0.answers other_run.0.answers (refused 0) in
      let P : Entry Call Reply → Type 0 = λ e. IsRun fixed (after_entry fixed.facts s e) (past ++ e ∷ []) (ys ++ others) in
      let Q : Entry Call Reply → Type 0 = λ e. IsInTurn batch other_next.rest (made ++ e ∷ []) ys in
      let R : Drawn → Type 0 = λ d. IsInTurn batch d.rest (made ++ x ∷ []) ys in
      let behind = same_turns batch next.rest (after_entry fixed.facts s x) (past ++ x ∷ []) (made ++ x ∷ []) xs ys rest others later (subst R same_next (subst Q same other_later)) run.1 (subst P same other_run.1) (λ k. refused (suc k)) in
      record { same = ap (λ e. e ∷ ys) same ∙ ap (λ l. x ∷ l) behind.same; refused = behind.refused }

  -- what stands behind the first entries is a run from the state that they leave
  run_behind : (s : State) (past xs ys : List (Entry Call Reply)) → IsRun fixed s past (xs ++ ys) → IsRun fixed (state_from fixed.facts s xs) (past ++ xs) ys
  run_behind s past [] ys run = rw (append-nil past) run
  run_behind s past (x ∷ xs) ys run =
      let P : List (Entry Call Reply) → Type 0 = λ all. IsRun fixed (state_from fixed.facts s (x ∷ xs)) all ys in
      subst P (append_assoc past (x ∷ []) xs) (run_behind (after_entry fixed.facts s x) (past ++ x ∷ []) xs ys run.1)

-- 4. The parts of a run are the same.

-- entries of caller 0 alone have its calls
by_program : (es : List (Entry Call Reply)) → entries_of 0 es ≡ es → calls_of es ≡ map (by_caller 0) (map (λ e. e.call) es)
by_program es own = subst (λ (l : List (Entry Call Reply)). calls_of l ≡ map (by_caller 0) (map (λ e. e.call) l)) own (of es)
  where
    of : (es : List (Entry Call Reply)) → calls_of (entries_of 0 es) ≡ map (by_caller 0) (map (λ e. e.call) (entries_of 0 es))
    of [] = refl
    of (e ∷ es) = elim (cases_Bool (nat_eq e.caller 0)) [
      | inl mine ↦ let is : e.caller ≡ 0 = eqb-true e.caller 0 mine in rw (mine, is) (ap (λ l. (0, e.call) ∷ l) (of es))
      | inr other ↦ rw other (of es)
    ]

-- two lists of entries of caller 0, with the same calls
same_program : (xs ys : List (Entry Call Reply)) → entries_of 0 xs ≡ xs → entries_of 0 ys ≡ ys → map (λ e. e.call) ys ≡ map (λ e. e.call) xs → calls_of ys ≡ calls_of xs
same_program xs ys own other same = by_program ys other ∙ ap (map (by_caller 0)) same ∙ sym (by_program xs own)

joined : (a b c d : List (Entry Call Reply)) → a ++ b ++ c ++ d ≡ a ++ (b ++ (c ++ d))
joined a b c d = append_assoc (a ++ b) c d ∙ append_assoc a b (c ++ d)

one_run : (settings : SettingsView) (batch : Batch) (list : List ℕ) (fixed : Fixed) (entries others : List (Entry Call Reply)) → IsRunInOrder settings batch list entries → IsLegal fixed entries →
    IsRunInOrder settings batch list others → IsLegal fixed others → ((k : ℕ) → refuses_at k others ≡ refuses_at k entries) → others ≡ entries
one_run settings batch list fixed entries others run legal other other_legal refused =
    other.parts ∙ joined other.opening other.turns other.returning other.closing
    ∙ ap (λ l. l ++ (other.turns ++ (other.returning ++ other.closing))) opening.same
    ∙ ap (λ l. run.opening ++ (l ++ (other.returning ++ other.closing))) turns.same
    ∙ ap (λ l. run.opening ++ (run.turns ++ (l ++ other.closing))) returning.same
    ∙ ap (λ l. run.opening ++ (run.turns ++ (run.returning ++ l))) closing_same.same
    ∙ sym (joined run.opening run.turns run.returning run.closing) ∙ sym run.parts
  where
    start : State
    start = opening_state fixed.contexts

    behind_opening : List (Entry Call Reply)
    behind_opening = run.turns ++ (run.returning ++ run.closing)

    others_behind_opening : List (Entry Call Reply)
    others_behind_opening = other.turns ++ (other.returning ++ other.closing)

    whole : IsRun fixed start [] (run.opening ++ behind_opening)
    whole = subst (IsRun fixed start []) (run.parts ∙ joined run.opening run.turns run.returning run.closing) legal

    other_whole : IsRun fixed start [] (other.opening ++ others_behind_opening)
    other_whole = subst (IsRun fixed start []) (other.parts ∙ joined other.opening other.turns other.returning other.closing) other_legal

    refused_whole : (k : ℕ) → refuses_at k (other.opening ++ others_behind_opening) ≡ refuses_at k (run.opening ++ behind_opening)
    refused_whole k =
        sym (ap (refuses_at k) (other.parts ∙ joined other.opening other.turns other.returning other.closing))
        ∙ refused k ∙ ap (refuses_at k) (run.parts ∙ joined run.opening run.turns run.returning run.closing)

    opening : AreSame run.opening other.opening behind_opening others_behind_opening
    opening = same_calls fixed start [] run.opening other.opening behind_opening others_behind_opening whole other_whole refused_whole
        (same_program run.opening other.opening run.opened.caller other.opened.caller (other.opened.calls ∙ sym run.opened.calls))

    after_opening : State
    after_opening = state_from fixed.facts start run.opening

    run_turns : IsRun fixed after_opening run.opening behind_opening
    run_turns = run_behind fixed start [] run.opening behind_opening whole

    other_turns : IsRun fixed after_opening run.opening others_behind_opening
    other_turns = run_behind fixed start [] run.opening others_behind_opening (subst (λ (l : List (Entry Call Reply)). IsRun fixed start [] (l ++ others_behind_opening)) opening.same other_whole)

    turns : AreSame run.turns other.turns (run.returning ++ run.closing) (other.returning ++ other.closing)
    turns = same_turns fixed batch list after_opening run.opening [] run.turns other.turns (run.returning ++ run.closing) (other.returning ++ other.closing) run.in_turn other.in_turn run_turns other_turns opening.refused

    after_turns : State
    after_turns = state_from fixed.facts after_opening run.turns

    run_returning : IsRun fixed after_turns (run.opening ++ run.turns) (run.returning ++ run.closing)
    run_returning = run_behind fixed after_opening run.opening run.turns (run.returning ++ run.closing) run_turns

    other_returning : IsRun fixed after_turns (run.opening ++ run.turns) (other.returning ++ other.closing)
    other_returning = run_behind fixed after_opening run.opening run.turns (other.returning ++ other.closing)
        (subst (λ (l : List (Entry Call Reply)). IsRun fixed after_opening run.opening (l ++ (other.returning ++ other.closing))) turns.same other_turns)

    returning : AreSame run.returning other.returning run.closing other.closing
    returning = same_calls fixed after_turns (run.opening ++ run.turns) run.returning other.returning run.closing other.closing run_returning other_returning turns.refused
        (other.returned ∙ ap (returning_calls batch) turns.same ∙ sym run.returned)

    run_closing : IsRun fixed (state_from fixed.facts after_turns run.returning) (run.opening ++ run.turns ++ run.returning) run.closing
    run_closing = run_behind fixed after_turns (run.opening ++ run.turns) run.returning run.closing run_returning

    other_closing : IsRun fixed (state_from fixed.facts after_turns run.returning) (run.opening ++ run.turns ++ run.returning) other.closing
    other_closing = run_behind fixed after_turns (run.opening ++ run.turns) run.returning other.closing
        (subst (λ (l : List (Entry Call Reply)). IsRun fixed after_turns (run.opening ++ run.turns) (l ++ other.closing)) returning.same other_returning)

    ended : (l : List (Entry Call Reply)) → IsRun fixed (state_from fixed.facts after_turns run.returning) (run.opening ++ run.turns ++ run.returning) l →
        IsRun fixed (state_from fixed.facts after_turns run.returning) (run.opening ++ run.turns ++ run.returning) (l ++ [])
    ended l is = rw (append-nil l) is

    closing_same : AreSame run.closing other.closing [] []
    closing_same = same_calls fixed (state_from fixed.facts after_turns run.returning) (run.opening ++ run.turns ++ run.returning) run.closing other.closing [] []
        (ended run.closing run_closing) (ended other.closing other_closing)
        (λ k. ap (refuses_at k) (append-nil other.closing) ∙ returning.refused k ∙ sym (ap (refuses_at k) (append-nil run.closing)))
        (same_program run.closing other.closing run.closed.caller other.closed.caller
        (other.closed.calls ∙ ap (λ o. closing_calls (contexts_of batch.lines) (activations_of o)) opening.same ∙ sym run.closed.calls))

-- how many faults the boxes had before is looked at by no rule
pub same_opened : (facts : List Facts) (contexts : ℕ) (opened other : List ℕ) (s : State) (past es : List (Entry Call Reply)) → IsRun (record { facts = facts; contexts = contexts; opened = opened }) s past es →
    IsRun (record { facts = facts; contexts = contexts; opened = other }) s past es
same_opened facts contexts opened other s past [] run = tt
same_opened facts contexts opened other s past (e ∷ es) run = (
  record { allowed = record { lib = run.0.allowed.lib; tokens = run.0.allowed.tokens }; answers = run.0.answers },
  same_opened facts contexts opened other (after_entry facts s e) (past ++ e ∷ []) es run.1,
)

pub run_is_fixed : RunIsFixed
run_is_fixed settings batch list fixed other entries others facts contexts run legal other_run other_legal refused =
    one_run settings batch list fixed entries others run legal other_run over refused
  where
    over : IsLegal fixed others
    over =
        same_opened fixed.facts fixed.contexts other.opened fixed.opened (opening_state fixed.contexts) [] others
        (subst (λ n. IsLegal (record { facts = fixed.facts; contexts = n; opened = other.opened }) others) contexts
        (subst (λ f. IsLegal (record { facts = f; contexts = other.contexts; opened = other.opened }) others) facts other_legal))
