-- A live element is a token that its owner has: where no caller owns a method or an operation context, nothing is live.
use Rattle.std.proofs.Common.{◌≡◌, ℕ, Bool, true, false, not, ◌||◌, nat_eq, List, [], ◌∷◌, ◌++◌, refl, sym, subst, ◌∙◌, append_assoc, inl, inr}
use Rattle.std.specs.List.{list_all, filter}
use Rattle.std.specs.Prelude.{None, Some, Option}
use Rattle.std.proofs.lemmas.Bool.{cases_Bool, and_parts, eq-eqb, ne_eqb, true≢false}
use Rattle.std.proofs.lemmas.List.{append-nil}
use Rattle.std.proofs.lemmas.List.Folds.{list_all-append}
use Rattle.ossl_base.specs.declared.entry.Entry.{Entry}
use Rattle.ossl_codes.specs.declared.code.Code.{Code}
use Rattle.ossl_codes.specs.declared.code.Operation.{Operation}
use Rattle.ossl_property.specs.declared.clause.Clause.{Clause}
use Rattle.ossl_state.specs.declared.call.Call.{Call}
use Rattle.ossl_state.specs.declared.call.Call.TheVariants.{Load, Unload, SetDefault, Fetch, UpRef, Free, NewCtx, FreeCtx, CloseLib}
use Rattle.ossl_state.specs.declared.call.Reply.{Reply}
use Rattle.ossl_state.specs.declared.call.Reply.TheVariants.{Loaded, Fetched, Made, Done, NoLib, NoProvider, StartRefused, Unsupported, NotAdmitted}
use Rattle.ossl_state.specs.declared.state.Live.{Live}
use Rattle.ossl_state.specs.declared.state.State.{State}
use Rattle.ossl_provider.specs.Sheet.{Facts}
use Rattle.ossl_state.specs.Best.{best_method}
use Rattle.ossl_state.specs.Boxes.{place_of}
use Rattle.ossl_state.specs.History.{Fixed, IsLegal, IsRun, after_entry, state_after, state_from}
use Rattle.ossl_state.specs.State.{opening_state}
use Rattle.ossl_state.specs.Step.{Answers, after_fallback, element_of, holder_of, is_named, left_by, new_context, new_method, second_method, with_context, with_second}
use Rattle.ossl_state.specs.Tokens.{Token, context_token, entries_of, gains, gives_up, method_token, owns}
use Rattle.ossl_state.proofs.HistoryLaws.{after_fallback-live, after_load-live, after_unload-live}
use Rattle.ossl_state.proofs.TokenLaws.{fetched_some, owns-push}

-- a caller with these entries owns the token, as a method or as an operation context
abbrev pub owns_element : List (Entry Call Reply) → ℕ → Bool
owns_element mine t = owns mine t method_token || owns mine t context_token

abbrev pub is_owned_live : List (Entry Call Reply) → Live → Bool
is_owned_live past x = owns_element (entries_of x.owner past) x.number

pub all_stay : {X : Type 0} (p q : X → Bool) (xs : List X) → ((x : X) → p x ≡ true → q x ≡ true) → list_all p xs ≡ true → list_all q xs ≡ true
all_stay p q [] step all = refl
all_stay p q (x ∷ xs) step all =
    let parts = and_parts _ _ all in
    rw (step x parts.0, all_stay p q xs step parts.1) refl

all_kept : {X : Type 0} (p q r : X → Bool) (xs : List X) → ((x : X) → p x ≡ true → r x ≡ true → q x ≡ true) → list_all p xs ≡ true → list_all q (filter r xs) ≡ true
all_kept p q r [] step all = refl
all_kept p q r (x ∷ xs) step all =
    let parts = and_parts _ _ all in
    elim (cases_Bool (r x)) [
      | inl stays ↦ rw stays (rw (step x parts.0 stays, all_kept p q r xs step parts.1) refl)
      | inr goes ↦ rw goes (all_kept p q r xs step parts.1)
    ]

-- an entry gives up no element of this number
pub record Keeps (e : Entry Call Reply) (t : ℕ) : Type 0 where
  pub method : gives_up e t method_token ≡ false
  pub context : gives_up e t context_token ≡ false

module _ (past : List (Entry Call Reply)) (e : Entry Call Reply) where
  -- a token that is not given up stays owned
  pub stays_owned : (c t : ℕ) (token : Token) → gives_up e t token ≡ false → owns (entries_of c past) t token ≡ true → owns (entries_of c (past ++ e ∷ [])) t token ≡ true
  stays_owned c t token keeps owned = owns-push past e c t token ∙ elim (cases_Bool (nat_eq e.caller c)) [
    | inl mine ↦ rw mine (rw (keeps, owned) (elim (cases_Bool (gains e t token)) [ inl gained ↦ rw gained refl | inr other ↦ rw other refl ]))
    | inr other ↦ rw other owned
  ]

  stays_element : (c t : ℕ) → Keeps e t → owns_element (entries_of c past) t ≡ true → owns_element (entries_of c (past ++ e ∷ [])) t ≡ true
  stays_element c t keeps owned = elim (cases_Bool (owns (entries_of c past) t method_token)) [
    | inl method ↦ rw (stays_owned c t method_token keeps.method method) refl
    | inr other ↦
        let context : owns (entries_of c past) t context_token ≡ true = rw other at owned in
        let kept = stays_owned c t context_token keeps.context context in
        elim (cases_Bool (owns (entries_of c (past ++ e ∷ [])) t method_token)) [ inl method ↦ rw method refl | inr none ↦ rw (none, kept) refl ]
  ]

  -- a token that is handed out is owned
  pub gained_owned : (t : ℕ) (token : Token) → gains e t token ≡ true → owns (entries_of e.caller (past ++ e ∷ [])) t token ≡ true
  gained_owned t token gained = owns-push past e e.caller t token ∙ rw (eq-eqb e.caller e.caller refl) (rw gained refl)

  gained_method : (t : ℕ) → gains e t method_token ≡ true → owns_element (entries_of e.caller (past ++ e ∷ [])) t ≡ true
  gained_method t gained = rw (gained_owned t method_token gained) refl

  gained_context : (t : ℕ) → gains e t context_token ≡ true → owns_element (entries_of e.caller (past ++ e ∷ [])) t ≡ true
  gained_context t gained =
      let own = gained_owned t context_token gained in
      elim (cases_Bool (owns (entries_of e.caller (past ++ e ∷ [])) t method_token)) [ inl method ↦ rw method refl | inr none ↦ rw (none, own) refl ]

  -- an entry that gives no element up
  all_stay-entry : (live : List Live) → ((t : ℕ) → Keeps e t) → list_all (is_owned_live past) live ≡ true → list_all (is_owned_live (past ++ e ∷ [])) live ≡ true
  all_stay-entry live keeps all = all_stay (is_owned_live past) (is_owned_live (past ++ e ∷ [])) live (λ x. stays_element x.owner x.number (keeps x.number)) all

  -- an entry that hands an element out
  all_more : (live : List Live) (x : Live) → ((t : ℕ) → Keeps e t) → is_owned_live (past ++ e ∷ []) x ≡ true → list_all (is_owned_live past) live ≡ true →
      list_all (is_owned_live (past ++ e ∷ [])) (live ++ x ∷ []) ≡ true
  all_more live x keeps own all = rw (list_all-append (is_owned_live (past ++ e ∷ [])) live (x ∷ []), all_stay-entry live keeps all, own) refl

  -- an entry by which the element of a number goes
  all_without : (live : List Live) (h : ℕ) → ((t : ℕ) → nat_eq h t ≡ false → Keeps e t) → list_all (is_owned_live past) live ≡ true →
      list_all (is_owned_live (past ++ e ∷ [])) (filter (λ x. not (is_named h x)) live) ≡ true
  all_without live h keeps all =
      all_kept (is_owned_live past) (is_owned_live (past ++ e ∷ [])) (λ x. not (is_named h x)) live
      (λ x owned stays. stays_element x.owner x.number (keeps x.number (other x stays)) owned) all
    where
      other : (x : Live) → not (is_named h x) ≡ true → nat_eq h x.number ≡ false
      other x stays = elim (cases_Bool (nat_eq x.number h)) [
        | inl same ↦ absurd (true≢false (sym stays ∙ rw same refl))
        | inr apart ↦ ne_eqb h x.number (λ is. absurd (true≢false (sym (eq-eqb x.number h (sym is)) ∙ apart)))
      ]

module _ (facts : List Facts) (s : State) (past : List (Entry Call Reply)) (all : list_all (is_owned_live past) s.live ≡ true) (c : ℕ) where
  abbrev entry_of : Call → Reply → Entry Call Reply
  entry_of call reply = record { caller = c; call = call; reply = reply }

  abbrev Goal : Call → Reply → Type 0
  Goal call reply = list_all (is_owned_live (past ++ entry_of call reply ∷ [])) (left_by facts s c call reply).live ≡ true

  by_same : (call : Call) (reply : Reply) → ((t : ℕ) → Keeps (entry_of call reply) t) → (left_by facts s c call reply).live ≡ s.live → Goal call reply
  by_same call reply keeps same = rw same (all_stay-entry past (entry_of call reply) s.live keeps all)

  method_more : (n : ℕ) (p : List ℕ) (i r : ℕ) (code : Code) (l : ℕ) (op : Operation) (name : List ℕ) (query : List Clause) →
      Answers facts s c (Fetch l op name query) (Fetched n p i r code) → Goal (Fetch l op name query) (Fetched n p i r code)
  method_more n p i r code l op name query a =
      let f = after_fallback facts s l in
      let chosen = fetched_some facts s.next n p i r code (best_method f l op name query) a.1 in
      let kept = after_fallback-live facts s l in
      let e = entry_of (Fetch l op name query) (Fetched n p i r code) in
      let x = new_method f.next c chosen.0 in
      let live : f.live ≡ s.live = kept.0 in
      let number : n ≡ f.next = chosen.2 ∙ sym kept.1 in
      rw (chosen.1) (rw live (all_more past e s.live x (λ t. record { method = refl; context = refl }) (gained_method past e f.next (eq-eqb n f.next number)) all))

  second_more : (h n : ℕ) → n ≡ s.next → Goal (UpRef h) (Made n)
  second_more h n number = of (element_of s h)
    where
      e : Entry Call Reply
      e = entry_of (UpRef h) (Made n)

      of : (o : Option Live) → list_all (is_owned_live (past ++ entry_of (UpRef h) (Made n) ∷ [])) (with_second s c o).live ≡ true
      of None = all_stay-entry past (entry_of (UpRef h) (Made n)) s.live (λ t. record { method = refl; context = refl }) all
      of (Some x) = all_more past (entry_of (UpRef h) (Made n)) s.live (second_method s.next c x) (λ t. record { method = refl; context = refl })
          (gained_method past (entry_of (UpRef h) (Made n)) s.next (eq-eqb n s.next number)) all

  context_more : (h : ℕ) (inner : Option ℕ) (len n : ℕ) → n ≡ s.next → Goal (NewCtx h inner len) (Made n)
  context_more h inner len n number = of (element_of s h)
    where
      of : (o : Option Live) → list_all (is_owned_live (past ++ entry_of (NewCtx h inner len) (Made n) ∷ [])) (with_context s c inner o).live ≡ true
      of None = all_stay-entry past (entry_of (NewCtx h inner len) (Made n)) s.live (λ t. record { method = refl; context = refl }) all
      of (Some x) = all_more past (entry_of (NewCtx h inner len) (Made n)) s.live (new_context s c inner x) (λ t. record { method = refl; context = refl })
          (gained_context past (entry_of (NewCtx h inner len) (Made n)) s.next (eq-eqb n s.next number)) all

  step : (call : Call) (reply : Reply) → Answers facts s c call reply → Goal call reply
  step (Load l name retain) NoLib a = by_same (Load l name retain) NoLib (λ t. record { method = refl; context = refl }) refl
  step (Load l name retain) NoProvider a = by_same (Load l name retain) NoProvider (λ t. record { method = refl; context = refl }) refl
  step (Load l name retain) (StartRefused p) a = by_same (Load l name retain) (StartRefused p) (λ t. record { method = refl; context = refl }) refl
  step (Load l name retain) (Loaded n i skipped) a =
      by_same (Load l name retain) (Loaded n i skipped) (λ t. record { method = refl; context = refl }) (after_load-live facts s c l retain (place_of name facts)).0
  step (Unload t) NoLib a = by_same (Unload t) NoLib (λ t. record { method = refl; context = refl }) refl
  step (Unload t) Done a = by_same (Unload t) Done (λ t. record { method = refl; context = refl }) (after_unload-live facts s t (holder_of s t)).0
  step (SetDefault l query) NoLib a = by_same (SetDefault l query) NoLib (λ t. record { method = refl; context = refl }) refl
  step (SetDefault l query) Done a = by_same (SetDefault l query) Done (λ t. record { method = refl; context = refl }) refl
  step (Fetch l op name query) NoLib a = by_same (Fetch l op name query) NoLib (λ t. record { method = refl; context = refl }) refl
  step (Fetch l op name query) (StartRefused p) a = by_same (Fetch l op name query) (StartRefused p) (λ t. record { method = refl; context = refl }) refl
  step (Fetch l op name query) (Fetched n p i r code) a = method_more n p i r code l op name query a
  step (Fetch l op name query) Unsupported a = by_same (Fetch l op name query) Unsupported (λ t. record { method = refl; context = refl }) (after_fallback-live facts s l).0
  step (UpRef h) (Made n) a = second_more h n a
  step (Free h) Done a = all_without past (entry_of (Free h) Done) s.live h (λ t apart. record { method = apart; context = refl }) all
  step (FreeCtx h) Done a = all_without past (entry_of (FreeCtx h) Done) s.live h (λ t apart. record { method = refl; context = apart }) all
  step (NewCtx h inner len) NotAdmitted a = by_same (NewCtx h inner len) NotAdmitted (λ t. record { method = refl; context = refl }) refl
  step (NewCtx h inner len) (Made n) a = context_more h inner len n a.1
  step (CloseLib l) NoLib a = by_same (CloseLib l) NoLib (λ t. record { method = refl; context = refl }) refl
  step (CloseLib l) Done a = by_same (CloseLib l) Done (λ t. record { method = refl; context = refl }) refl
  step call reply a = absurd a

live_from : (fixed : Fixed) (s : State) (past es : List (Entry Call Reply)) → list_all (is_owned_live past) s.live ≡ true → IsRun fixed s past es →
    list_all (is_owned_live (past ++ es)) (state_from fixed.facts s es).live ≡ true
live_from fixed s past [] all run = rw append-nil all
live_from fixed s past (e ∷ es) all run =
    let P : List (Entry Call Reply) → Type 0 = λ l. list_all (is_owned_live l) (state_from fixed.facts (after_entry fixed.facts s e) es).live ≡ true in
    subst P (append_assoc past (e ∷ []) es)
    (live_from fixed (after_entry fixed.facts s e) (past ++ e ∷ []) es (step fixed.facts s past all e.caller e.call e.reply run.0.answers) run.1)

-- every live element is owned after a legal history
pub live_is_owned : (fixed : Fixed) (entries : List (Entry Call Reply)) → IsLegal fixed entries → list_all (is_owned_live entries) (state_after fixed entries).live ≡ true
live_is_owned fixed entries legal = live_from fixed (opening_state fixed.contexts) [] entries refl legal

none_of_live : (entries : List (Entry Call Reply)) → ((c t : ℕ) → owns_element (entries_of c entries) t ≡ false) → (live : List Live) → list_all (is_owned_live entries) live ≡ true → live ≡ []
none_of_live entries none [] all = refl
none_of_live entries none (x ∷ live) all = absurd (true≢false (sym (and_parts _ _ all).0 ∙ none x.owner x.number))

-- where nobody owns one, none is live
pub nothing_live : (fixed : Fixed) (entries : List (Entry Call Reply)) → IsLegal fixed entries → ((c t : ℕ) → owns_element (entries_of c entries) t ≡ false) → (state_after fixed entries).live ≡ []
nothing_live fixed entries legal none = none_of_live entries none (state_after fixed entries).live (live_is_owned fixed entries legal)
