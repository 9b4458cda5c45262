-- Each call that comes next names tokens that the caller owns.
use Rattle.std.proofs.Common.{◌≡◌, ℕ, Bool, true, false, ◌||◌, List, [], ◌∷◌, ◌++◌, map, refl, sym, ◌∙◌, ap, subst, append_assoc, ◌&&◌}
use Rattle.std.specs.Prelude.{⊤, if◌then◌else◌, None, Some}
use Rattle.std.proofs.lemmas.Bool.{true≢false}
use Rattle.std.proofs.lemmas.List.{append-nil}
use Rattle.ossl_base.specs.declared.entry.Entry.{Entry}
use Rattle.ossl_state.specs.declared.call.Call.{Call}
use Rattle.ossl_state.specs.declared.call.Call.TheVariants as calls
use Rattle.ossl_state.specs.declared.call.Reply.{Reply}
use Rattle.ossl_state.specs.Tokens.{Token, owns, owns_named}
use Rattle.ossl_state.specs.Tokens.Token.{activation_token, method_token, context_token}
use Rattle.ossl_script.specs.declared.caller.LineResult.{LineResult}
use Rattle.ossl_script.specs.declared.caller.Next.TheVariants as nexts
use Rattle.ossl_commands.specs.declared.command.Line.{Line}
use Rattle.ossl_script.specs.declared.held.Held.{Held}
use Rattle.ossl_script.specs.declared.held.TokenKind.{TokenKind}
use Rattle.ossl_script.specs.declared.held.TokenKind.TheVariants as kinds
use Rattle.ossl_script.specs.Bindings.{nothing_bound}
use Rattle.ossl_script.specs.Caller.{Follows, Place, Standing, after_reply, after_reply_at, call_in, goes_on, line_result, lines_of, next_at, opening, standing_of}
use Rattle.ossl_script.specs.Caller.Place.{asking, ended}
use Rattle.ossl_script.specs.Commands.{course_of}
use Rattle.ossl_script.specs.Course.{Course}
use Rattle.ossl_script.specs.Course.Course.{ask, said}
use Rattle.ossl_script.specs.Given.{Content, content_by}
use Rattle.ossl_script.specs.Held.{token_of, handed_out, held_after, give_back_call, give_back_calls, is_held}
use Rattle.ossl_script.specs.Laws.{CallsAreOwned, GivingBackIsOwned, IsFrom, Rises, least_behind}
use Rattle.ossl_script.proofs.HeldLaws.{goes_by_reply, held_is_owned, given_back_step, owns_after-append, is_token}
use Rattle.ossl_script.proofs.NamesHeld.{IsBelow, one_of, itself, given, still_below, IsDistinct, distinct_after, IsBound, NamesHeld, IsSound}
use Rattle.ossl_script.proofs.CourseLaws.{sound_course}

-- Whole scripts.

-- a caller stands at a call that names what it holds, and so it goes on
abbrev IsSoundPlace : ℕ → List Held → Place → Type 0
IsSoundPlace least held (asking number call follows lines) = IsSound least held (ask call follows)
IsSoundPlace least held ended = ⊤

record IsSoundStanding (least : ℕ) (standing : Standing) : Type 0 where
  below : IsBelow least standing.held
  distinct : IsDistinct standing.held
  place : IsSoundPlace least standing.held standing.place

sound_going : (content : Content) (least : ℕ) (lines : List Line) (held : List Held) (told : List LineResult) (number : ℕ) (course : Course) → IsBelow least held → IsDistinct held → IsSound least held course
    → IsSoundStanding least (goes_on content held told number course lines)
sound_going content least lines held told number (ask call follows) below distinct sound = record { below = below; distinct = distinct; place = sound }
sound_going content least [] held told number (said outcome b) below distinct sound = record { below = below; distinct = distinct; place = tt }
sound_going content least (line ∷ lines) held told number (said outcome b) below distinct sound =
    sound_going content least lines held (told ++ line_result number outcome ∷ []) line.number (course_of content b line.command) below distinct (sound_course content least held b below sound line.command)

none_bound : IsBound [] nothing_bound
none_bound = record { has = λ name x is. absurd cc; apart = λ name other x y is also same. absurd cc }

none_below : IsBelow 0 []
none_below t token has = absurd (true≢false (sym has))

sound_opening : (content : Content) (lines : List Line) → IsSoundStanding 0 (opening content lines)
sound_opening content [] = record { below = none_below; distinct = tt; place = tt }
sound_opening content (line ∷ lines) =
    sound_going content 0 lines [] [] line.number (course_of content nothing_bound line.command) none_below tt (sound_course content 0 [] nothing_bound none_below none_bound line.command)

-- one entry more
sound_step : (content : Content) (least : ℕ) (standing : Standing) (call : Call) (reply : Reply) → call_in (next_at standing.place) ≡ Some call → IsFrom least (handed_out call reply) → IsSoundStanding least standing
    → IsSoundStanding (least_behind least (handed_out call reply)) (after_reply content standing reply)
sound_step content least standing call reply asked from sound = at standing.place asked sound.place
  where
    at : (place : Place) → call_in (next_at place) ≡ Some call → IsSoundPlace least standing.held place → IsSoundStanding (least_behind least (handed_out call reply)) (after_reply_at content standing reply place)
    at (asking number other follows lines) same sound_place =
        let equal : other ≡ call = (cc) in
        subst (λ c. IsSoundStanding (least_behind least (handed_out c reply)) (after_reply_at content standing reply (asking number other follows lines))) equal (
        let from_other : IsFrom least (handed_out other reply) = subst (λ c. IsFrom least (handed_out c reply)) (sym equal) from in
        sound_going content (least_behind least (handed_out other reply)) lines (held_after other reply standing.held) standing.told number (follows reply)
        (still_below least other reply standing.held from_other sound.below) (distinct_after least other reply standing.held from_other sound.below sound.distinct) (sound_place.1 reply from_other)
        )
    at ended same sound_place = absurd cc

-- the least number that comes behind these entries
abbrev least_after : ℕ → List (Entry Call Reply) → ℕ
least_after least [] = least
least_after least (e ∷ es) = least_after (least_behind least (handed_out e.call e.reply)) es

sound_steps : (lines : List Line) (contents : List (List ℕ)) (caller : ℕ) (least : ℕ) (replies : List Reply) (made : List (Entry Call Reply)) → Follows lines contents caller replies made → Rises least made
    → IsSoundStanding least (standing_of lines contents caller replies) → IsSoundStanding (least_after least made) (standing_of lines contents caller (replies ++ map (λ e. e.reply) made))
sound_steps lines contents caller least replies [] follows rises sound = subst (λ all. IsSoundStanding least (standing_of lines contents caller all)) (sym (append-nil replies)) sound
sound_steps lines contents caller least replies (e ∷ made) follows rises sound =
    subst (λ all. IsSoundStanding (least_after (least_behind least (handed_out e.call e.reply)) made) (standing_of lines contents caller all)) (append_assoc replies (e.reply ∷ []) (map (λ one. one.reply) made))
    (sound_steps lines contents caller (least_behind least (handed_out e.call e.reply)) (replies ++ e.reply ∷ []) made follows.1 rises.1
    (subst (λ standing. IsSoundStanding (least_behind least (handed_out e.call e.reply)) standing) (sym (goes_by_reply lines contents caller replies e.reply))
    (sound_step (content_by contents) least (standing_of lines contents caller replies) e.call e.reply follows.0 rises.0 sound)))

-- a call whose tokens are held names tokens that are owned
owns_what_it_holds : (held : List Held) (made : List (Entry Call Reply)) (call : Call) → ((t : ℕ) (token : Token) → is_held held t token ≡ owns made t token) → NamesHeld held call → owns_named made call ≡ true
owns_what_it_holds held made (calls.Load l name retain) same names = refl
owns_what_it_holds held made (calls.SetDefault l query) same names = refl
owns_what_it_holds held made (calls.Fetch l op name query) same names = refl
owns_what_it_holds held made (calls.CloseLib l) same names = refl
owns_what_it_holds held made (calls.Unload token) same names = sym (same token activation_token) ∙ names
owns_what_it_holds held made (calls.UpRef token) same names = sym (same token method_token) ∙ names
owns_what_it_holds held made (calls.Free token) same names = sym (same token method_token) ∙ names
owns_what_it_holds held made (calls.FreeCtx token) same names = sym (same token context_token) ∙ names
owns_what_it_holds held made (calls.NewCtx token None len) same names = ap (λ b. b && true) (sym (same token method_token) ∙ names)
owns_what_it_holds held made (calls.NewCtx token (Some inner) len) same names =
    ap (λ b. b && owns made inner method_token) (sym (same token method_token) ∙ names.0) ∙ sym (same inner method_token) ∙ names.1

-- where a caller stands after its entries
sound_after : (lines : List Line) (contents : List (List ℕ)) (caller : ℕ) (made : List (Entry Call Reply)) → Follows lines contents caller [] made → Rises 0 made
    → IsSoundStanding (least_after 0 made) (standing_of lines contents caller (map (λ e. e.reply) made))
sound_after lines contents caller made follows rises = sound_steps lines contents caller 0 [] made follows rises (sound_opening (content_by contents) (lines_of caller lines))

-- each call that comes next names tokens that the caller owns
pub calls_are_owned : CallsAreOwned
calls_are_owned lines contents caller made line call follows rises next =
    owns_what_it_holds _ made call (held_is_owned lines contents caller made follows)
    (at (standing_of lines contents caller (map (λ e. e.reply) made)) next (sound_after lines contents caller made follows rises))
  where
    at_place : (held : List Held) (place : Place) → next_at place ≡ nexts.Call line call → IsSoundPlace (least_after 0 made) held place → NamesHeld held call
    at_place held (asking number other follows behind) same sound = let equal : other ≡ call = (cc) in subst (λ c. NamesHeld held c) equal sound.0
    at_place held ended same sound = absurd cc

    at : (standing : Standing) → next_at standing.place ≡ nexts.Call line call → IsSoundStanding (least_after 0 made) standing → NamesHeld standing.held call
    at standing same sound = at_place standing.held standing.place same sound.place

-- Giving back.

-- a token that is given back is owned until then
given_is_owned : (held : List Held) (made given : List (Entry Call Reply)) (call : Call) (more : List Call) → IsDistinct held → ((t : ℕ) (token : Token) → is_held held t token ≡ true → owns made t token ≡ true)
    → map (λ e. e.call) given ++ call ∷ more ≡ give_back_calls held → owns_named (made ++ given) call ≡ true
given_is_owned [] made [] call more distinct owned calls = absurd cc
given_is_owned [] made (e ∷ given) call more distinct owned calls = absurd cc
given_is_owned (one ∷ held) made [] call more distinct owned calls =
    let equal : call ≡ give_back_call one = (cc) in
    rw append-nil (subst (λ c. owns_named made c ≡ true) (sym equal) (at one.number one.kind (owned one.number (token_of one.kind) (ap (λ b. b || is_held held one.number (token_of one.kind)) (itself one)))))
  where
    at : (n : ℕ) (kind : TokenKind) → owns made n (token_of kind) ≡ true → owns_named made (give_back_call (one_of n kind)) ≡ true
    at n kinds.Activation owns = owns
    at n kinds.Method owns = owns
    at n kinds.Context owns = owns
given_is_owned (one ∷ held) made (e ∷ given) call more distinct owned calls =
    subst (λ es. owns_named es call ≡ true) (append_assoc made (e ∷ []) given)
    (given_is_owned held (made ++ e ∷ []) given call more distinct.1 (λ t token has.
    owns_after-append false made (e ∷ []) t token
    ∙ given_back_step one e (owns made t token) t token (cc)
    ∙ ap (λ b. if b then false else owns made t token) (distinct.0 t token has)
    ∙ owned t token (ap (λ b. is_token one t token || b) has ∙ or-true (is_token one t token))) (cc))
  where
    or-true : (b : Bool) → (b || true) ≡ true
    or-true true = refl
    or-true false = refl

-- each call that gives back names a token that is owned
pub giving_back_is_owned : GivingBackIsOwned
giving_back_is_owned lines contents caller made given call more follows rises calls =
    given_is_owned (standing_of lines contents caller (map (λ e. e.reply) made)).held made given call more
    (sound_after lines contents caller made follows rises).distinct
    (λ t token has. sym (held_is_owned lines contents caller made follows t token) ∙ has) calls
