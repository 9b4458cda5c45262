-- In a legal history a caller may make each call that comes next, and each that gives back.
use Rattle.std.proofs.Common.{◌≡◌, ℕ, ◌+◌, ◌≤◌, Bool, true, false, nat_eq, List, [], ◌∷◌, ◌++◌, map, refl, sym, ap, subst, arith}
use Rattle.std.specs.Prelude.{⊤, cond, Option, None, Some}
use Rattle.ossl_base.specs.declared.entry.Entry.{Entry}
use Rattle.ossl_state.specs.declared.call.Call.{Call}
use Rattle.ossl_state.specs.declared.call.Call.TheVariants as calls
use Rattle.ossl_state.specs.declared.call.Reply.{Reply}
use Rattle.ossl_state.specs.declared.call.Reply.TheVariants as replies
use Rattle.ossl_state.specs.declared.state.State.{State}
use Rattle.ossl_state.specs.Best.{best_method}
use Rattle.ossl_state.specs.Boxes.{place_of}
use Rattle.ossl_state.specs.History.{Fixed, IsLegal, IsRun, after_entry}
use Rattle.ossl_state.specs.Step.{Answers, IsLoaded, after_fallback}
use Rattle.ossl_state.specs.Tokens.{entries_of, names_context, owns_named}
use Rattle.ossl_state.proofs.HistoryLaws.{left_by-next}
use Rattle.ossl_state.proofs.TokenLaws.{fetched_some}
use Rattle.ossl_script.specs.declared.held.Held.{Held}
use Rattle.ossl_script.specs.declared.held.TokenKind.{TokenKind}
use Rattle.ossl_script.specs.declared.held.TokenKind.TheVariants.{Activation, Method, Context}
use Rattle.ossl_script.specs.Caller.{standing_of}
use Rattle.ossl_script.specs.Held.{handed_out, give_back_call, give_back_calls}
use Rattle.ossl_script.specs.Laws.{CallsAreAllowed, GivingBackIsAllowed, IsFrom, Rises, least_behind}
use Rattle.ossl_script.proofs.ContextLaws.{calls_name_contexts}
use Rattle.ossl_script.proofs.OwnedLaws.{calls_are_owned, giving_back_is_owned}

-- a token that is handed out has this number
abbrev IsNumbered : Option Held → ℕ → Type 0
IsNumbered None n = ⊤
IsNumbered (Some one) n = one.number ≡ n

-- an entry hands out the number of the entry
handed_next : (fixed : Fixed) (s : State) (c : ℕ) (call : Call) (reply : Reply) → Answers fixed.facts s c call reply → IsNumbered (handed_out call reply) s.next
handed_next fixed s c (calls.Load l name retain) (replies.Loaded n i skipped) answers = loaded (place_of name fixed.facts) answers.1
  where
    loaded : (o : Option ℕ) → IsLoaded fixed.facts s l (replies.Loaded n i skipped) o → n ≡ s.next
    loaded None a = absurd a
    loaded (Some k) a = cc
handed_next fixed s c (calls.Fetch l op name query) (replies.Fetched n p i r code) answers =
    (fetched_some fixed.facts s.next n p i r code (best_method (after_fallback fixed.facts s l) l op name query) answers.1).2
handed_next fixed s c (calls.UpRef h) (replies.Made n) answers = answers
handed_next fixed s c (calls.NewCtx h inner len) (replies.Made n) answers = answers.1
handed_next fixed s c call reply answers = tt

-- a caller's entries of a run hand out rising numbers
rises : (fixed : Fixed) (c : ℕ) (s : State) (past entries : List (Entry Call Reply)) (least : ℕ) → IsRun fixed s past entries → least ≤ s.next → Rises least (entries_of c entries)
rises fixed c s past [] least run from = tt
rises fixed c s past (e ∷ es) least run from =
    at (nat_eq e.caller c) (λ least small. rises fixed c (after_entry fixed.facts s e) (past ++ e ∷ []) es least run.1 small)
  where
    next : (after_entry fixed.facts s e).next ≡ s.next + 1
    next = ap (λ n. n + 1) (left_by-next fixed.facts s e.caller e.call e.reply)

    at : (is : Bool) → ((least : ℕ) → least ≤ (after_entry fixed.facts s e).next → Rises least (entries_of c es)) → Rises least (cond is (e ∷ entries_of c es) (entries_of c es))
    at false rest = rest least (omega (arith, next, from))
    at true rest = by_handed (handed_out e.call e.reply) (handed_next fixed s e.caller e.call e.reply run.0.answers) rest
      where
        by_handed : (handed : Option Held) → IsNumbered handed s.next → ((least : ℕ) → least ≤ (after_entry fixed.facts s e).next → Rises least (entries_of c es))
            → IsFrom least handed × Rises (least_behind least handed) (entries_of c es)
        by_handed None number rest = (tt, rest least (omega (arith, next, from)))
        by_handed (Some one) number rest = (omega (arith, number, from), rest (one.number + 1) (omega (arith, number, next)))

legal_rises : (fixed : Fixed) (c : ℕ) (history : List (Entry Call Reply)) → IsLegal fixed history → Rises 0 (entries_of c history)
legal_rises fixed c history legal = rises fixed c _ [] history 0 legal (omega arith)

-- a caller may make each call that comes next
pub calls_are_allowed : CallsAreAllowed
calls_are_allowed lines contents caller fixed history number line call legal follows most next = record {
  lib = calls_name_contexts lines contents caller (map (λ e. e.reply) (entries_of number history)) line call fixed.contexts most next;
  tokens = calls_are_owned lines contents caller (entries_of number history) line call follows (legal_rises fixed number history legal) next;
}

rises_first : (least : ℕ) (made given : List (Entry Call Reply)) → Rises least (made ++ given) → Rises least made
rises_first least [] given rise = tt
rises_first least (e ∷ made) given rise = (rise.0, rises_first (least_behind least (handed_out e.call e.reply)) made given rise.1)

-- a call that gives back names no library context
within_giving : (contexts : ℕ) (held : List Held) (before : List Call) (call : Call) (more : List Call) → before ++ call ∷ more ≡ give_back_calls held → names_context contexts call ≡ true
within_giving contexts [] [] call more is = absurd cc
within_giving contexts [] (first ∷ before) call more is = absurd cc
within_giving contexts (one ∷ held) (first ∷ before) call more is = within_giving contexts held before call more (cc)
within_giving contexts (one ∷ held) [] call more is = let equal : call ≡ give_back_call one = (cc) in subst (λ c. names_context contexts c ≡ true) (sym equal) (at one.number one.kind)
  where
    at : (n : ℕ) (kind : TokenKind) → names_context contexts (give_back_call (record { number = n; kind = kind })) ≡ true
    at n Activation = refl
    at n Method = refl
    at n Context = refl

-- and each that gives back
pub giving_back_is_allowed : GivingBackIsAllowed
giving_back_is_allowed lines contents caller fixed history number made given call more legal parts follows calls = record {
  lib = within_giving fixed.contexts (standing_of lines contents caller (map (λ e. e.reply) made)).held (map (λ e. e.call) given) call more calls;
  tokens = subst (λ mine. owns_named mine call ≡ true) (sym parts) (
      giving_back_is_owned lines contents caller made given call more follows (rises_first 0 made given (subst (Rises 0) parts (legal_rises fixed number history legal))) calls
      );
}
