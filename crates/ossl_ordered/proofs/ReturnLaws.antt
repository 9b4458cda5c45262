-- What callers give back.
use Rattle.std.proofs.Common.{◌≡◌, ℕ, ◌+◌, ◌<◌, zero, suc, true, nat_eq, List, [], ◌∷◌, ◌++◌, length, map, get_or, refl, sym, ap, subst, ◌∙◌, append_assoc, arith, inl, inr}
use Rattle.std.specs.List.{flat_map, range_with_len}
use Rattle.std.proofs.lemmas.Bool.{cases_Bool, cases_eq, eqb-true, ne_eqb}
use Rattle.std.proofs.lemmas.List.{append-nil, get_or-set_other, get_or-set_same, length-set, map-append}
use Rattle.std.proofs.Math.ListN.{set}
use Rattle.std.proofs.lemmas.List.Elements.{filter-append}
use Rattle.std.proofs.lemmas.Grind.{flat_map-append}
use Rattle.ossl_base.specs.declared.entry.Entry.{Entry}
use Rattle.ossl_calls.specs.Registry.{takes_no_memory}
use Rattle.ossl_state.specs.declared.call.Call.{Call}
use Rattle.ossl_state.specs.declared.call.Reply.{Reply}
use Rattle.ossl_state.specs.declared.state.State.{State}
use Rattle.ossl_state.specs.History.{Fixed, IsAllowed, IsLegal}
use Rattle.ossl_state.specs.Tokens.{entries_of}
use Rattle.ossl_script.specs.declared.held.Held.{Held}
use Rattle.ossl_script.specs.declared.held.TokenKind.{TokenKind}
use Rattle.ossl_script.specs.declared.held.TokenKind.TheVariants.{Activation, Method, Context}
use Rattle.ossl_script.specs.Caller.{giving_back, standing_of}
use Rattle.ossl_script.specs.Held.{give_back_call, give_back_calls}
use Rattle.ossl_script.specs.View.{ScriptCallerView, back_of}
use Rattle.ossl_script.proofs.AllowedLaws.{giving_back_is_allowed}
use Rattle.ossl_ordered.specs.declared.player.Player.{Player}
use Rattle.ossl_ordered.specs.Turns.{by_caller, returning_calls}
use Rattle.ossl_ordered.specs.Work.{AreAtWork, AreKept, IsAtWork, IsGiving, IsKept}
use Rattle.ossl_ordered.proofs.DoneLaws.{calls_by, calls_by-entries, calls_by-outside, no_calls_no_entries}
use Rattle.ossl_ordered.proofs.ProgramLaws.{range_more}
use Rattle.ossl_ordered.proofs.WorkLaws.{other_work, own_entries, own_push}
use Rattle.ossl_print.specs.Batched.{Batch, giving_back_of, replies_to}

-- a call that gives back takes no memory
back_takes_none : (s : State) (held : List Held) (before : List Call) (call : Call) (more : List Call) → before ++ call ∷ more ≡ give_back_calls held → takes_no_memory s call ≡ true
back_takes_none s [] [] call more is = absurd cc
back_takes_none s [] (first ∷ before) call more is = absurd cc
back_takes_none s (one ∷ held) (first ∷ before) call more is = back_takes_none s held before call more (cc)
back_takes_none s (one ∷ held) [] call more is = let equal : call ≡ give_back_call one = (cc) in subst (λ c. takes_no_memory s c ≡ true) (sym equal) (at one.number one.kind)
  where
    at : (n : ℕ) (kind : TokenKind) → takes_no_memory s (give_back_call (record { number = n; kind = kind })) ≡ true
    at n Activation = refl
    at n Method = refl
    at n Context = refl

pub back_no_memory : (s : State) (view : ScriptCallerView) (given : List Call) (call : Call) (more : List Call) → given ++ call ∷ more ≡ back_of view → takes_no_memory s call ≡ true
back_no_memory s view given call more is = back_takes_none s (standing_of view.lines view.contents view.caller view.replies).held given call more is

-- entries by one caller, and their calls
pub record IsBy (c : ℕ) (given : List (Entry Call Reply)) (calls : List Call) : Type 0 where
  pub own : entries_of c given ≡ given
  pub calls_are : map (λ e. e.call) given ≡ calls

pub by_nobody : (c : ℕ) → IsBy c [] []
by_nobody c = record { own = refl; calls_are = refl }

pub by_more : (c : ℕ) (given : List (Entry Call Reply)) (calls : List Call) (call : Call) (reply : Reply) → IsBy c given calls → IsBy c (given ++ record { caller = c; call = call; reply = reply } ∷ []) (calls ++ call ∷ [])
by_more c given calls call reply by = record {
  own = own_push c given (record { caller = c; call = call; reply = reply }) refl ∙ ap (λ l. l ++ record { caller = c; call = call; reply = reply } ∷ []) by.own;
  calls_are = map-append (λ (e : Entry Call Reply). e.call) given (record { caller = c; call = call; reply = reply } ∷ []) ∙ ap (λ l. l ++ call ∷ []) by.calls_are;
}

pairs_of : (c : ℕ) (given : List (Entry Call Reply)) (calls : List Call) → IsBy c given calls → map (λ (e : Entry Call Reply). by_caller e.caller e.call) given ≡ map (by_caller c) calls
pairs_of c given calls by = of given by.own ∙ ap (map (by_caller c)) by.calls_are
  where
    of : (es : List (Entry Call Reply)) → entries_of c es ≡ es → map (λ (e : Entry Call Reply). by_caller e.caller e.call) es ≡ map (by_caller c) (map (λ (e : Entry Call Reply). e.call) es)
    of es own = subst (λ (l : List (Entry Call Reply)). map (λ (e : Entry Call Reply). by_caller e.caller e.call) l ≡ map (by_caller c) (map (λ (e : Entry Call Reply). e.call) l)) own (filtered es)
      where
        filtered : (es : List (Entry Call Reply)) → map (λ (e : Entry Call Reply). by_caller e.caller e.call) (entries_of c es) ≡ map (by_caller c) (map (λ (e : Entry Call Reply). e.call) (entries_of c es))
        filtered [] = refl
        filtered (e ∷ es) = elim (cases_Bool (nat_eq e.caller c)) [
          | inl mine ↦ let is : e.caller ≡ c = eqb-true e.caller c mine in rw (mine, is) (ap (λ l. (c, e.call) ∷ l) (filtered es))
          | inr other ↦ rw other (filtered es)
        ]

module _ (start before : List (Entry Call Reply)) (old new : Player) (given : List (Entry Call Reply)) (parts : before ≡ start ++ given) (kept : IsKept old new) (by : IsBy old.caller given new.work.given)
    (giving : IsGiving start old) where
  abbrev calls_back : List Call
  calls_back = giving_back giving.0.lines giving.0.contents old.caller (replies_to old.caller start)

  same_back : back_of new.work ≡ giving_back giving.0.lines giving.0.contents old.caller (replies_to old.caller start)
  same_back =
      ap back_of kept.work
      ∙ (giving.1.speaks old.work.replies).2
      ∙ ap (λ n. giving_back giving.0.lines giving.0.contents n old.work.replies) giving.1.same
      ∙ ap (λ r. giving_back giving.0.lines giving.0.contents old.caller r) giving.1.replies

  own_parts : entries_of old.caller before ≡ entries_of old.caller start ++ given
  own_parts = ap (entries_of old.caller) parts ∙ filter-append (λ (e : Entry Call Reply). nat_eq e.caller old.caller) start given ∙ ap (λ l. entries_of old.caller start ++ l) by.own

  -- the next call that gives back is allowed
  pub back_allowed : (fixed : Fixed) → IsLegal fixed before → (call : Call) (more : List Call) → new.work.given ++ call ∷ more ≡ back_of new.work → IsAllowed fixed (entries_of old.caller before) call
  back_allowed fixed legal call more is =
      giving_back_is_allowed giving.0.lines giving.0.contents old.caller fixed before old.caller (entries_of old.caller start) given call more legal own_parts giving.1.follows
      (ap (λ l. l ++ call ∷ more) by.calls_are ∙ is ∙ same_back)

  -- all of them were made
  pub all_back : new.work.given ≡ back_of new.work → map (λ (e : Entry Call Reply). by_caller e.caller e.call) given ≡ map (by_caller old.caller) (back_of old.work)
  all_back is = pairs_of old.caller given new.work.given by ∙ ap (map (by_caller old.caller)) (is ∙ ap back_of kept.work)

-- what the first callers gave back
abbrev back_by : Batch → List (Entry Call Reply) → ℕ → List (ℕ × Call)
back_by batch turns caller = map (by_caller caller) (giving_back_of batch caller (replies_to caller turns))

abbrev pub returned_by : Batch → List (Entry Call Reply) → ℕ → List (ℕ × Call)
returned_by batch turns n = flat_map (back_by batch turns) (range_with_len 1 n)

pub record HaveReturned (batch : Batch) (turns start now : List (Entry Call Reply)) (n : ℕ) : Type 0 where
  pub returning : List (Entry Call Reply)
  pub parts : now ≡ start ++ returning
  pub calls : map (λ (e : Entry Call Reply). by_caller e.caller e.call) returning ≡ returned_by batch turns n

pub returned_none : (batch : Batch) (turns start : List (Entry Call Reply)) → HaveReturned batch turns start start 0
returned_none batch turns start = record { returning = []; parts = sym (append-nil start); calls = refl }

module _ (batch : Batch) (contexts : ℕ) (opening turns start now : List (Entry Call Reply)) (players : List Player) (at : AreAtWork batch contexts opening turns start players) (n : ℕ) (so_far : HaveReturned batch turns start now n) where
  -- a caller that has not given back yet
  pub still_work : (player : Player) → n < length players → player ≡ get_or players n player → IsGiving now player
  still_work player here there = (batch, subst (λ c. IsAtWork batch c now player) (sym work.number) (other_work batch (n + 1) turns now player own work))
    where
      work : IsAtWork batch (n + 1) turns player
      work = subst (λ p. IsAtWork batch (n + 1) turns p) (sym there) (at.work n player here)

      none : entries_of (n + 1) so_far.returning ≡ []
      none = no_calls_no_entries (entries_of (n + 1) so_far.returning) (
          sym (calls_by-entries (n + 1) so_far.returning) ∙ ap (calls_by (n + 1)) so_far.calls
          ∙ calls_by-outside (λ caller. giving_back_of batch caller (replies_to caller turns)) (n + 1) 1 n (λ k from below. ne_eqb k (n + 1) (λ same. absurd (omega (arith, from, below, same)))))

      own : entries_of (n + 1) now ≡ entries_of (n + 1) turns
      own =
          ap (entries_of (n + 1)) so_far.parts ∙ filter-append (λ (e : Entry Call Reply). nat_eq e.caller (n + 1)) start so_far.returning
          ∙ ap (λ l. entries_of (n + 1) start ++ l) none ∙ append-nil (entries_of (n + 1) start)
          ∙ own_entries batch contexts opening turns start players at (n + 1) (omega arith)

  -- it gave back
  pub returned_more : (player : Player) → n < length players → player ≡ get_or players n player → (after given : List (Entry Call Reply)) → after ≡ now ++ given →
      map (λ (e : Entry Call Reply). by_caller e.caller e.call) given ≡ map (by_caller player.caller) (back_of player.work) → HaveReturned batch turns start after (n + 1)
  returned_more player here there after given parts calls = record {
    returning = so_far.returning ++ given;
    parts = parts ∙ ap (λ l. l ++ given) so_far.parts ∙ append_assoc start so_far.returning given;
    calls = map-append (λ (e : Entry Call Reply). by_caller e.caller e.call) so_far.returning given
        ∙ ap (λ l. l ++ map (λ (e : Entry Call Reply). by_caller e.caller e.call) given) so_far.calls
        ∙ ap (λ l. returned_by batch turns n ++ l) (calls ∙ mine)
        ∙ sym (ap (flat_map (back_by batch turns)) (range_more 1 n ∙ ap (λ m. range_with_len 1 n ++ m ∷ []) (let e : 1 + n ≡ n + 1 = omega arith in e))
        ∙ flat_map-append (back_by batch turns) (range_with_len 1 n) ((n + 1) ∷ [])
        ∙ ap (λ l. returned_by batch turns n ++ l) (append-nil (back_by batch turns (n + 1))));
  }
    where
      work : IsAtWork batch (n + 1) turns player
      work = subst (λ p. IsAtWork batch (n + 1) turns p) (sym there) (at.work n player here)

      mine : map (by_caller player.caller) (back_of player.work) ≡ map (by_caller (n + 1)) (giving_back_of batch (n + 1) (replies_to (n + 1) turns))
      mine =
          ap (λ c. map (by_caller c) (back_of player.work)) work.number
          ∙ ap (map (by_caller (n + 1))) ((work.speaks player.work.replies).2
          ∙ ap (λ c. giving_back batch.lines batch.contents c player.work.replies) work.same
          ∙ ap (λ r. giving_back batch.lines batch.contents (n + 1) r) work.replies)

  pub returned_all : n ≡ length players → (returning : List (Entry Call Reply)) × (now ≡ start ++ returning) × (map (λ (e : Entry Call Reply). by_caller e.caller e.call) returning ≡ returning_calls batch turns)
  returned_all all = (so_far.returning, so_far.parts, so_far.calls ∙ ap (λ m. returned_by batch turns m) (all ∙ at.each))

player_any : (players : List Player) (i : ℕ) (a b : Player) → i < length players → get_or players i a ≡ get_or players i b
player_any [] i a b here = absurd (omega (arith, here))
player_any (x ∷ players) zero a b here = refl
player_any (x ∷ players) (suc i) a b here = player_any players i a b (omega (arith, here))

-- the callers from a place on are as they were: so is the one at this place
pub as_it_was : (players now : List Player) (n : ℕ) (r : Player) → n < length players → get_or now n r ≡ get_or players n r → get_or now n r ≡ get_or players n (get_or now n r)
as_it_was players now n r here same = same ∙ player_any players n r (get_or now n r) here

-- one more caller has given back, and is otherwise as it was
pub kept_set : (players now : List Player) (n : ℕ) (r new : Player) → n < length players → get_or now n r ≡ get_or players n r → IsKept (get_or now n r) new → AreKept players now → AreKept players (set now n new)
kept_set players now n r new here same kept so_far = (
  length-set now n new ∙ so_far.0,
  λ k other below. elim (cases_eq k n) [
    | inl is ↦ subst (λ k. IsKept (get_or players k other) (get_or (set now n new) k other)) (sym is)
        (subst (λ p. IsKept (get_or players n other) p) (sym (get_or-set_same now n new other (omega (arith, here, so_far.0))))
        (subst (λ p. IsKept p new) (same ∙ player_any players n r other here) kept))
    | inr apart ↦ subst (λ p. IsKept (get_or players k other) p) (sym (get_or-set_other now n k new other apart)) (so_far.1 k other below)
  ],
)
