-- What a caller holds is what it owns, and giving it back leaves it no token.
use Rattle.std.proofs.Common.{◌≡◌, ℕ, Bool, true, false, ◌||◌, not, nat_lt, List, [], ◌∷◌, ◌++◌, map, refl, sym, ◌∙◌, ap, subst, append_assoc}
use Rattle.std.specs.Prelude.{if◌then◌else◌, cond, None, Some, Option}
use Rattle.std.proofs.lemmas.Bool.{eqb-true, true≢false}
use Rattle.std.proofs.lemmas.List.Sums.{fold-append}
use Rattle.std.proofs.lemmas.List.{append-nil}
use Rattle.ossl_base.specs.declared.entry.Entry.{Entry}
use Rattle.ossl_state.specs.declared.call.Call.{Call}
use Rattle.ossl_state.specs.declared.call.Call.TheVariants.{Load, Fetch, UpRef, NewCtx}
use Rattle.ossl_state.specs.declared.call.Reply.{Reply}
use Rattle.ossl_state.specs.declared.call.Reply.TheVariants.{Loaded, Fetched, Made, Done}
use Rattle.ossl_state.specs.Tokens.{Token, gains_by, gives_up_by, owns, owns_after, owns_after_entry}
use Rattle.ossl_state.specs.Tokens.Token.{activation_token, method_token, context_token}
use Rattle.ossl_script.specs.declared.caller.LineResult.{LineResult}
use Rattle.ossl_commands.specs.declared.command.Line.{Line}
use Rattle.ossl_script.specs.declared.held.Held.{Held}
use Rattle.ossl_script.specs.declared.held.TokenKind.{TokenKind}
use Rattle.ossl_script.specs.declared.held.TokenKind.TheVariants.{Activation, Method, Context}
use Rattle.ossl_script.specs.Caller.{Follows, Place, Standing, after_reply, after_reply_at, call_in, goes_on, line_result, lines_of, next_at, opening, standing_of}
use Rattle.ossl_script.specs.Caller.Place.{asking, ended}
use Rattle.ossl_script.specs.Bindings.{nothing_bound}
use Rattle.ossl_script.specs.Commands.{course_of}
use Rattle.ossl_script.specs.Course.{Course}
use Rattle.ossl_script.specs.Course.Course.{ask, said}
use Rattle.ossl_script.specs.Given.{Content, content_by}
use Rattle.ossl_script.specs.Held.{token_of, handed_out, with_token, with_handed, left_by, held_after, give_back_call, give_back_calls, is_held}
use Rattle.ossl_script.specs.Laws.{GoesByReply, HeldIsOwned, GivingBackLeavesNone}

-- a further reply is one step more
pub goes_by_reply : GoesByReply
goes_by_reply lines contents caller replies reply = fold-append (after_reply (content_by contents)) (opening (content_by contents) (lines_of caller lines)) replies (reply ∷ [])

-- a token stands for this one: giving it back gives this one up
abbrev pub is_token : Held → ℕ → Token → Bool
is_token held t token = gives_up_by (give_back_call held) Done t token

-- 1. A step: what is held after an entry is what is owned after it.

-- the test whether a token is given up, at the token that a held one is
pub up_at : (call : Call) (reply : Reply) (one : Held) (t : ℕ) (token : Token) → is_token one t token ≡ true
    → gives_up_by call reply one.number (token_of one.kind) ≡ gives_up_by call reply t token
up_at call reply one t token same = by_kind one.number one.kind token same
  where
    by_kind : (n : ℕ) (kind : TokenKind) (token : Token) → is_token (record { number = n; kind = kind }) t token ≡ true
        → gives_up_by call reply n (token_of kind) ≡ gives_up_by call reply t token
    by_kind n Activation activation_token same = ap (λ m. gives_up_by call reply m activation_token) (eqb-true n t same)
    by_kind n Method method_token same = ap (λ m. gives_up_by call reply m method_token) (eqb-true n t same)
    by_kind n Context context_token same = ap (λ m. gives_up_by call reply m context_token) (eqb-true n t same)
    by_kind n Activation method_token same = absurd (true≢false (sym same))
    by_kind n Activation context_token same = absurd (true≢false (sym same))
    by_kind n Method activation_token same = absurd (true≢false (sym same))
    by_kind n Method context_token same = absurd (true≢false (sym same))
    by_kind n Context activation_token same = absurd (true≢false (sym same))
    by_kind n Context method_token same = absurd (true≢false (sym same))

-- what a call leaves is what was held, but for what it gives up
pub left-held : (call : Call) (reply : Reply) (t : ℕ) (token : Token) (held : List Held)
    → is_held (left_by call reply held) t token ≡ (if gives_up_by call reply t token then false else is_held held t token)
left-held call reply t token [] = elim (gives_up_by call reply t token) as (λ up. false ≡ (if up then false else false)) [ true ↦ refl | false ↦ refl ]
left-held call reply t token (one ∷ held) =
    at (left-held call reply t token held) (is_token one t token) refl (gives_up_by call reply one.number (token_of one.kind)) refl
  where
    at : is_held (left_by call reply held) t token ≡ (if gives_up_by call reply t token then false else is_held held t token)
        → (same : Bool) → is_token one t token ≡ same → (up : Bool) → gives_up_by call reply one.number (token_of one.kind) ≡ up
        → is_held (cond (not up) (one ∷ left_by call reply held) (left_by call reply held)) t token
        ≡ (if gives_up_by call reply t token then false else (is_token one t token || is_held held t token))
    at rest true same true up = let gone : gives_up_by call reply t token ≡ true = sym (up_at call reply one t token same) ∙ up in rw gone (rw gone at rest)
    at rest true same false up = let kept : gives_up_by call reply t token ≡ false = sym (up_at call reply one t token same) ∙ up in rw (kept, same) refl
    at rest false same true up =
        subst (λ b. is_held (left_by call reply held) t token ≡ (if gives_up_by call reply t token then false else (b || is_held held t token))) (sym same) rest
    at rest false same false up =
        subst (λ b. (b || is_held (left_by call reply held) t token) ≡ (if gives_up_by call reply t token then false else (b || is_held held t token))) (sym same) rest

-- with one more token, that one is held too
pub with-held : (one : Held) (t : ℕ) (token : Token) (held : List Held) → is_held (with_token one held) t token ≡ (is_token one t token || is_held held t token)
with-held one t token [] = refl
with-held one t token (first ∷ held) = at (with-held one t token held) (nat_lt one.number first.number)
  where
    swapped : (a b c : Bool) → (b || (a || c)) ≡ (a || (b || c))
    swapped true true c = refl
    swapped true false c = refl
    swapped false true c = refl
    swapped false false c = refl

    at : is_held (with_token one held) t token ≡ (is_token one t token || is_held held t token)
        → (below : Bool) → is_held (if below then first ∷ with_token one held else one ∷ first ∷ held) t token ≡ (is_token one t token || (is_token first t token || is_held held t token))
    at rest true = ap (λ b. is_token first t token || b) rest ∙ swapped (is_token one t token) (is_token first t token) (is_held held t token)
    at rest false = refl

-- this token is the one that is handed out
abbrev pub is_handed : Option Held → ℕ → Token → Bool
is_handed None t token = false
is_handed (Some one) t token = is_token one t token

pub handed-held : (handed : Option Held) (t : ℕ) (token : Token) (held : List Held) → is_held (with_handed handed held) t token ≡ (is_handed handed t token || is_held held t token)
handed-held None t token held = refl
handed-held (Some one) t token held = with-held one t token held

-- a token is gained exactly where it is handed out
gained_handed : (call : Call) (reply : Reply) (t : ℕ) (token : Token) → gains_by call reply t token ≡ is_handed (handed_out call reply) t token
gained_handed (Load l name retain) (Loaded n i skipped) t activation_token = refl
gained_handed (Load l name retain) (Loaded n i skipped) t token = refl
gained_handed (Fetch l op name query) (Fetched n p i r code) t method_token = refl
gained_handed (Fetch l op name query) (Fetched n p i r code) t token = refl
gained_handed (UpRef h) (Made n) t method_token = refl
gained_handed (UpRef h) (Made n) t token = refl
gained_handed (NewCtx h inner len) (Made n) t context_token = refl
gained_handed (NewCtx h inner len) (Made n) t token = refl
gained_handed call reply t token = refl

-- what is held after an entry is what is owned after it
pub held-after : (e : Entry Call Reply) (held : List Held) (t : ℕ) (token : Token)
    → is_held (held_after e.call e.reply held) t token ≡ owns_after_entry (is_held held t token) e t token
held-after e held t token =
    handed-held (handed_out e.call e.reply) t token (left_by e.call e.reply held)
    ∙ ap (λ b. is_handed (handed_out e.call e.reply) t token || b) (left-held e.call e.reply t token held)
    ∙ ap (λ b. b || (if gives_up_by e.call e.reply t token then false else is_held held t token)) (sym (gained_handed e.call e.reply t token))
    ∙ by_gain (gains_by e.call e.reply t token)
  where
    by_gain : (gained : Bool) → (gained || (if gives_up_by e.call e.reply t token then false else is_held held t token))
        ≡ (if gained then true else (if gives_up_by e.call e.reply t token then false else is_held held t token))
    by_gain true = refl
    by_gain false = refl

-- 2. A whole script: what a caller holds is what it owns.

-- a line that goes on changes nothing of what is held
pub goes_on-held : (content : Content) (lines : List Line) (held : List Held) (told : List LineResult) (number : ℕ) (course : Course) → (goes_on content held told number course lines).held ≡ held
goes_on-held content lines held told number (ask next follows) = refl
goes_on-held content [] held told number (said outcome bindings) = refl
goes_on-held content (line ∷ lines) held told number (said outcome bindings) =
    goes_on-held content lines held (told ++ line_result number outcome ∷ []) line.number (course_of content bindings line.command)

pub opening-held : (content : Content) (lines : List Line) → (opening content lines).held ≡ []
opening-held content [] = refl
opening-held content (line ∷ lines) = goes_on-held content lines [] [] line.number (course_of content nothing_bound line.command)

-- a caller that asks this holds, after the reply, what its call and the reply leave
pub after_asking : (content : Content) (standing : Standing) (call : Call) (reply : Reply) → call_in (next_at standing.place) ≡ Some call
    → (after_reply content standing reply).held ≡ held_after call reply standing.held
after_asking content standing call reply asked = at standing.place asked
  where
    at : (place : Place) → call_in (next_at place) ≡ Some call → (after_reply_at content standing reply place).held ≡ held_after call reply standing.held
    at (asking number asked follows lines) same = goes_on-held content lines (held_after asked reply standing.held) standing.told number (follows reply) ∙ ap (λ c. held_after c reply standing.held) (cc)
    at ended same = absurd cc

-- the entries of a caller, from these replies on
followed : (lines : List Line) (contents : List (List ℕ)) (caller : ℕ) (replies : List Reply) (made : List (Entry Call Reply)) (t : ℕ) (token : Token)
    → Follows lines contents caller replies made
    → is_held (standing_of lines contents caller (replies ++ map (λ e. e.reply) made)).held t token
    ≡ owns_after (is_held (standing_of lines contents caller replies).held t token) made t token
followed lines contents caller replies [] t token follows = ap (λ all. is_held (standing_of lines contents caller all).held t token) (append-nil replies)
followed lines contents caller replies (e ∷ made) t token follows =
    ap (λ all. is_held (standing_of lines contents caller all).held t token) (append_push replies e.reply (map (λ e. e.reply) made))
    ∙ followed lines contents caller (replies ++ e.reply ∷ []) made t token follows.1
    ∙ ap (λ owned. owns_after owned made t token) (
    ap (λ standing. is_held standing.held t token) (goes_by_reply lines contents caller replies e.reply)
    ∙ ap (λ held. is_held held t token) (after_asking (content_by contents) (standing_of lines contents caller replies) e.call e.reply follows.0)
    ∙ held-after e (standing_of lines contents caller replies).held t token
    )
  where
    append_push : (xs : List Reply) (x : Reply) (ys : List Reply) → xs ++ x ∷ ys ≡ (xs ++ x ∷ []) ++ ys
    append_push xs x ys = sym (append_assoc xs (x ∷ []) ys)

-- 3. Giving back.

-- an entry that gives a token back takes this one where it is that one, and nothing else
pub given_back_step : (one : Held) (e : Entry Call Reply) (owned : Bool) (t : ℕ) (token : Token) → e.call ≡ give_back_call one
    → owns_after_entry owned e t token ≡ (if is_token one t token then false else owned)
given_back_step one e owned t token same = by_call one.number one.kind e.call same
  where
    by_call : (n : ℕ) (kind : TokenKind) (call : Call) → call ≡ give_back_call (record { number = n; kind = kind })
        → (if gains_by call e.reply t token then true else (if gives_up_by call e.reply t token then false else owned))
        ≡ (if is_token (record { number = n; kind = kind }) t token then false else owned)
    by_call n Activation call same = rw same refl
    by_call n Method call same = rw same refl
    by_call n Context call same = rw same refl

-- where a token is owned only if it is among these, and these are given back, it is owned no more
given_back : (held : List Held) (given : List (Entry Call Reply)) (owned : Bool) (t : ℕ) (token : Token)
    → map (λ e. e.call) given ≡ give_back_calls held → (owned ≡ true → is_held held t token ≡ true) → owns_after owned given t token ≡ false
given_back [] [] true t token calls only = absurd (true≢false (sym (only refl)))
given_back [] [] false t token calls only = refl
given_back [] (e ∷ given) owned t token calls only = absurd cc
given_back (one ∷ held) [] owned t token calls only = absurd cc
given_back (one ∷ held) (e ∷ given) owned t token calls only =
    subst (λ after. owns_after after given t token ≡ false) (sym (given_back_step one e owned t token (cc))) (given_back held given (if is_token one t token then false else owned) t token (cc) (left (is_token one t token) refl owned only))
  where
    left : (is : Bool) → is_token one t token ≡ is → (owned : Bool) → (owned ≡ true → (is_token one t token || is_held held t token) ≡ true)
        → (if is_token one t token then false else owned) ≡ true → is_held held t token ≡ true
    left true same owned only still = absurd (true≢false (sym still ∙ ap (λ b. if b then false else owned) same))
    left false same owned only still = sym (ap (λ b. b || is_held held t token) same) ∙ only (sym (ap (λ b. if b then false else owned) same) ∙ still)

pub owns_after-append : (owned : Bool) (es fs : List (Entry Call Reply)) (t : ℕ) (token : Token) → owns_after owned (es ++ fs) t token ≡ owns_after (owns_after owned es t token) fs t token
owns_after-append owned [] fs t token = refl
owns_after-append owned (e ∷ es) fs t token = owns_after-append (owns_after_entry owned e t token) es fs t token

-- what a caller holds is what it owns
pub held_is_owned : HeldIsOwned
held_is_owned lines contents caller made follows t token =
    followed lines contents caller [] made t token follows
    ∙ ap (λ held. owns_after (is_held held t token) made t token) (opening-held (content_by contents) (lines_of caller lines))

-- giving back leaves no token, at any moment
pub giving_back_leaves_none : GivingBackLeavesNone
giving_back_leaves_none lines contents caller made given follows calls t token =
    owns_after-append false made given t token
    ∙ given_back (standing_of lines contents caller (map (λ e. e.reply) made)).held given (owns made t token) t token calls
    (λ owned. held_is_owned lines contents caller made follows t token ∙ owned)
