-- What an answered call tells of its caller's tokens.
use Rattle.std.proofs.Common.{◌≡◌, ℕ, ◌<◌, Bool, true, false, ◌&&◌, nat_eq, nat_lt, IsTrue, List, [], ◌∷◌, ◌++◌, refl, sym, ap, ◌∙◌, subst, arith, append_assoc, true≢false, inl, inr}
use Rattle.std.specs.Prelude.{if◌then◌else◌, None, Some, Result, Ok, Err, IfOk}
use Rattle.std.specs.declared.option.Option.{Option}
use Rattle.std.specs.List.{list_any, list_all}
use Rattle.std.proofs.lemmas.Bool.{cases_Bool, and_parts, eqb-true, ltb-true}
use Rattle.std.proofs.lemmas.List.{append_cancel_right}
use Rattle.ossl_base.specs.declared.entry.Entry.{Entry}
use Rattle.ossl_provider.specs.Sheet.{Facts}
use Rattle.ossl_turn.specs.History.{own_of, entry_of, IsHistory}
use Rattle.ossl_turn.specs.Passes.{Answers}
use Rattle.ossl_turn.proofs.Views.{own_same, history_front}
use Rattle.ossl_state.specs.declared.call.Call.{Call}
use Rattle.ossl_state.specs.declared.call.Call.TheVariants.{Load, Fetch, UpRef, NewCtx}
use Rattle.ossl_state.specs.declared.call.Reply.{Reply}
use Rattle.ossl_state.specs.declared.call.Reply.TheVariants.{Loaded, Fetched, Made}
use Rattle.ossl_state.specs.declared.state.Kind.TheVariants.{Method, Context}
use Rattle.ossl_state.specs.declared.state.State.{State}
use Rattle.ossl_state.specs.Best.{best_method}
use Rattle.ossl_state.specs.History.{Fixed, IsRun, IsLegal, IsNext, state_after}
use Rattle.ossl_state.specs.Sound.{is_own, is_lent_to, lent_after, number_of_live, number_of_lent}
use Rattle.ossl_state.specs.Boxes.{place_of}
use Rattle.ossl_state.specs.Step.{after_fallback, IsLoaded}
use Rattle.ossl_state.specs.Step as step
use Rattle.ossl_state.specs.Tokens.{Token, activation_token, method_token, context_token, gains_by, owns_after_entry, owns_after, owns}
use Rattle.ossl_state.proofs.HistoryLaws.{state_after-push}
use Rattle.ossl_state.proofs.LegalLaws.{sound_after}
use Rattle.ossl_state.proofs.TokenLaws.{fetched_some}
use Rattle.ossl_codes.specs.declared.code.Code.{Code}
use Rattle.ossl_codes.specs.declared.code.Operation.{Operation}
use Rattle.ossl_property.specs.declared.clause.Clause.{Clause}
use Rattle.ossl_core.specs.Answered.{CallerFacts, HandsOut, IsAnswered}
use Rattle.ossl_core.specs.Owned.{is_token, IsFresh}

-- entries that may each come next make a run
run_of : (fixed : Fixed) (past es : List (Entry Call Reply)) →
    ((before : List (Entry Call Reply)) (e : Entry Call Reply) (after : List (Entry Call Reply)) →
    past ++ es ≡ before ++ e ∷ after → IsNext fixed before e) →
    IsRun fixed (state_after fixed past) past es
run_of fixed past [] next = tt
run_of fixed past (e ∷ es) next = (
  next past e es refl,
  subst (λ (s : State). IsRun fixed s (past ++ e ∷ []) es) (state_after-push fixed past e)
      (run_of fixed (past ++ e ∷ []) es
      (λ before x after cut. next before x after (sym (append_assoc past (e ∷ []) es) ∙ cut))),
)

-- a list of which each entry may come next is a legal history
pub legal_of : (fixed : Fixed) (es : List (Entry Call Reply)) → IsHistory (IsNext fixed) es → IsLegal fixed es
legal_of fixed es lawful = run_of fixed [] es lawful

-- ownership after one more entry of one's own
pub owns-more : (o : Bool) (mine : List (Entry Call Reply)) (e : Entry Call Reply) (t : ℕ) (kind : Token) →
    owns_after o (mine ++ e ∷ []) t kind ≡ owns_after_entry (owns_after o mine t kind) e t kind
owns-more o [] e t kind = refl
owns-more o (x ∷ mine) e t kind = owns-more (owns_after_entry o x t kind) mine e t kind

-- what is among numbers below n has one
live_below : {X : Type 0} (number : X → ℕ) (p : X → Bool) (xs : List X) (t n : ℕ) →
    list_all (λ x. nat_lt (number x) n) xs ≡ true → list_any (λ x. nat_eq (number x) t && p x) xs ≡ true → t < n
live_below number p [] t n all some = absurd (true≢false (sym some))
live_below number p (x ∷ xs) t n all some =
    let both = and_parts (nat_lt (number x) n) (list_all (λ y. nat_lt (number y) n) xs) all in
    elim (cases_Bool (nat_eq (number x) t)) [
      | inl here ↦ let same = eqb-true (number x) t here in let low = ltb-true (number x) n both.0 in omega arith
      | inr other ↦ live_below number p xs t n both.1 (rw other at some)
    ]

-- a load is answered with the next number
loaded_is_next : (facts : List Facts) (s : State) (l n i k : ℕ) (o : Option ℕ) →
    IsLoaded facts s l (Loaded n i k) o → n ≡ s.next
loaded_is_next facts s l n i k None a = absurd a
loaded_is_next facts s l n i k (Some place) a = cc

-- a token that an answer hands out is the number of its entry
token_is_next : (facts : List Facts) (s : State) (c : ℕ) (call : Call) (reply : Reply) (t : ℕ) (kind : Token) →
    step.Answers facts s c call reply → gains_by call reply t kind ≡ true → t ≡ s.next
token_is_next facts s c (Load l name retain) (Loaded n i k) t activation_token a g =
    sym (eqb-true n t g) ∙ loaded_is_next facts s l n i k (place_of name facts) a.1
token_is_next facts s c (Fetch l op name q) (Fetched n p i r code) t method_token a g =
    sym (eqb-true n t g)
    ∙ (fetched_some facts s.next n p i r code (best_method (after_fallback facts s l) l op name q) a.1).2
token_is_next facts s c (UpRef h) (Made n) t method_token a g = sym (eqb-true n t g) ∙ a
token_is_next facts s c (NewCtx h inner len) (Made n) t context_token a g = sym (eqb-true n t g) ∙ a.1
token_is_next facts s c call reply t kind a g = absurd (true≢false (sym g))

-- a token that is owned is the number of an entry
owned_below : (fixed : Fixed) (log : List (Entry Call Reply)) (c t : ℕ) (kind : Token) →
    IsLegal fixed log → owns (own_of c log) t kind ≡ true → t < (state_after fixed log).next
owned_below fixed log c t activation_token legal has = let sound = sound_after fixed log legal in
    live_below number_of_lent (is_lent_to c) (lent_after log) t (state_after fixed log).next sound.activations.below
    (sound.owned c t activation_token has)
owned_below fixed log c t method_token legal has = let sound = sound_after fixed log legal in
    live_below number_of_live (is_own c Method) (state_after fixed log).live t (state_after fixed log).next
    sound.elements.below (sound.owned c t method_token has)
owned_below fixed log c t context_token legal has = let sound = sound_after fixed log legal in
    live_below number_of_live (is_own c Context) (state_after fixed log).live t (state_after fixed log).next
    sound.elements.below (sound.owned c t context_token has)

-- so a token that an answer hands out was not owned
fresh_after : (fixed : Fixed) (log : List (Entry Call Reply)) (e : Entry Call Reply) (c t : ℕ) (kind kind' : Token) →
    IsLegal fixed log → IsNext fixed log e → gains_by e.call e.reply t kind ≡ true → owns (own_of c log) t kind' ≡ false
fresh_after fixed log e c t kind kind' legal next gains = elim (cases_Bool (owns (own_of c log) t kind')) [
  | inl has ↦
      let low = owned_below fixed log c t kind' legal has in
      let is = token_is_next fixed.facts (state_after fixed log) e.caller e.call e.reply t kind next.answers gains in
      absurd (omega arith)
  | inr not_owned ↦ not_owned
]

module _ {P : Type 0} (fixed : Fixed) (before after : CallerFacts P) (call : Call) (reply : Reply)
    (a : Answers (IsNext fixed) before after (entry_of before.number call reply)) where
  abbrev e : Entry Call Reply
  e = entry_of before.number call reply

  abbrev log : List (Entry Call Reply)
  log = before.seen ++ a.history.0

  -- what was the caller's own before its call
  own_then : own_of before.number log ≡ before.own
  own_then = append_cancel_right (own_of before.number log) before.own (e ∷ [])
      (sym (own_same before.number log e refl) ∙ (ap (own_of before.number) (sym a.history.1)
      ∙ (ap (λ (n : ℕ). own_of n after.seen) (sym a.stays.2) ∙ (a.own_seen ∙ a.own))))

  -- an answered call stands at the end of a legal history
  pub answered_of : IsAnswered fixed before after call reply
  answered_of = record { answers = a; legal = legal_of fixed after.seen a.lawful }

  -- what is owned after it
  pub owned_of : (t : ℕ) (kind : Token) → owns after.own t kind ≡ owns_after_entry (owns before.own t kind) e t kind
  owned_of t kind =
      ap (λ (mine : List (Entry Call Reply)). owns mine t kind) a.own ∙ owns-more false before.own e t kind

  -- a token that it hands out was not owned
  pub fresh_of : (t : ℕ) (kind : Token) → gains_by call reply t kind ≡ true → IsFresh before.own t
  fresh_of t kind gains kind' = ap (λ (mine : List (Entry Call Reply)). owns mine t kind') (sym own_then)
      ∙ fresh_after fixed log e before.number t kind kind'
      (legal_of fixed log (history_front (IsNext fixed) log after.seen (e ∷ [], sym a.history.1) a.lawful))
      (a.lawful log e [] a.history.1) gains

-- the same of whatever a call returned, of a caller that is opened
module _ {P : Type 0} (fixed : Fixed) (before inside after : CallerFacts P) (call : Call) (same : inside ≡ before) where
  -- the call was answered so, of the caller as it is opened
  abbrev Told : Reply → Type 0
  Told reply = Answers (IsNext fixed) inside after (entry_of inside.number call reply)

  moved : (reply : Reply) → Told reply → Answers (IsNext fixed) before after (entry_of before.number call reply)
  moved reply a = subst (λ (z : CallerFacts P). Answers (IsNext fixed) z after (entry_of z.number call reply)) same a

  pub answered_if : {X : Type 0} (res : Result Reply X) → IfOk res Told →
      IfOk res (λ reply. IsAnswered fixed before after call reply)
  answered_if (Ok reply) a = answered_of fixed before after call reply (moved reply a)
  answered_if (Err x) a = tt

  pub owned_if : {X : Type 0} (res : Result Reply X) → IfOk res Told →
      IfOk res (λ reply. (t : ℕ) (kind : Token) →
      owns after.own t kind ≡ owns_after_entry (owns before.own t kind) (entry_of before.number call reply) t kind)
  owned_if (Ok reply) a = owned_of fixed before after call reply (moved reply a)
  owned_if (Err x) a = tt

  pub fresh_if : {X : Type 0} (res : Result Reply X) → IfOk res Told →
      IfOk res (λ reply. (t : ℕ) (kind : Token) → IsTrue (gains_by call reply t kind) → IsFresh before.own t)
  fresh_if (Ok reply) a = fresh_of fixed before after call reply (moved reply a)
  fresh_if (Err x) a = tt

-- an answer that hands out a token
pub handed : {P : Type 0} (fixed : Fixed) (before after : CallerFacts P) (call : Call) (reply reply' : Reply) (n : ℕ)
    (kind : Token) → reply ≡ reply' → IsAnswered fixed before after call reply →
    ((t : ℕ) (kind' : Token) →
    owns after.own t kind' ≡ owns_after_entry (owns before.own t kind') (entry_of before.number call reply) t kind') →
    ((t : ℕ) (kind' : Token) → IsTrue (gains_by call reply t kind') → IsFresh before.own t) →
    gains_by call reply' n kind ≡ true →
    ((o : Bool) (t : ℕ) (kind' : Token) →
    owns_after_entry o (entry_of before.number call reply') t kind' ≡ (if is_token n kind t kind' then true else o)) →
    HandsOut fixed before after call reply' n kind
handed fixed before after call reply reply' n kind is answered owned fresh gains gained = record {
  answered = subst (IsAnswered fixed before after call) is answered;
  fresh = fresh n kind (subst (λ (r : Reply). gains_by call r n kind ≡ true) (sym is) gains);
  gained = λ t kind'. owned t kind'
      ∙ (ap (λ (r : Reply). owns_after_entry (owns before.own t kind') (entry_of before.number call r) t kind') is
      ∙ gained (owns before.own t kind') t kind');
}

-- what each answer that hands out a token does to what is owned
pub gained-load : (c l : ℕ) (name : List ℕ) (retain : Bool) (n i k : ℕ) (o : Bool) (t : ℕ) (kind : Token) →
    owns_after_entry o (entry_of c (Load l name retain) (Loaded n i k)) t kind
    ≡ (if is_token n activation_token t kind then true else o)
gained-load c l name retain n i k o t activation_token = refl
gained-load c l name retain n i k o t method_token = refl
gained-load c l name retain n i k o t context_token = refl

pub gained-fetch : (c l : ℕ) (op : Operation) (name : List ℕ) (query : List Clause) (n : ℕ) (p : List ℕ) (i r : ℕ)
    (code : Code) (o : Bool) (t : ℕ) (kind : Token) →
    owns_after_entry o (entry_of c (Fetch l op name query) (Fetched n p i r code)) t kind
    ≡ (if is_token n method_token t kind then true else o)
gained-fetch c l op name query n p i r code o t activation_token = refl
gained-fetch c l op name query n p i r code o t method_token = refl
gained-fetch c l op name query n p i r code o t context_token = refl

pub gained-up_ref : (c h n : ℕ) (o : Bool) (t : ℕ) (kind : Token) →
    owns_after_entry o (entry_of c (UpRef h) (Made n)) t kind ≡ (if is_token n method_token t kind then true else o)
gained-up_ref c h n o t activation_token = refl
gained-up_ref c h n o t method_token = refl
gained-up_ref c h n o t context_token = refl

pub gained-new_ctx : (c h : ℕ) (inner : Option ℕ) (len n : ℕ) (o : Bool) (t : ℕ) (kind : Token) →
    owns_after_entry o (entry_of c (NewCtx h inner len) (Made n)) t kind
    ≡ (if is_token n context_token t kind then true else o)
gained-new_ctx c h inner len n o t activation_token = refl
gained-new_ctx c h inner len n o t method_token = refl
gained-new_ctx c h inner len n o t context_token = refl
