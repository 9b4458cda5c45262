-- What a caller holds, and what its names are bound to.
use Rattle.std.proofs.Common.{◌≡◌, ℕ, ◌+◌, ◌<◌, ◌≤◌, Bool, true, false, ◌||◌, not, nat_lt, List, [], ◌∷◌, refl, sym, ◌∙◌, ap, subst, arith}
use Rattle.std.specs.Prelude.{⊤, cond, if◌then◌else◌, None, Some, Option}
use Rattle.std.specs.Bool.{Decides}
use Rattle.std.specs.Str.{bytes_eq}
use Rattle.std.proofs.lemmas.Bool.{eq-eqb, eqb-true, true≢false}
use Rattle.std.proofs.lemmas.Slice.Eq.{bytes_eq-Decides}
use Rattle.ossl_state.specs.declared.call.Call.{Call}
use Rattle.ossl_state.specs.declared.call.Call.TheVariants as calls
use Rattle.ossl_state.specs.declared.call.Reply.{Reply}
use Rattle.ossl_state.specs.Tokens.{Token, gives_up_by}
use Rattle.ossl_state.specs.Tokens.Token.{activation_token, method_token, context_token}
use Rattle.ossl_script.specs.declared.held.Held.{Held}
use Rattle.ossl_script.specs.declared.held.TokenKind.{TokenKind}
use Rattle.ossl_script.specs.declared.held.TokenKind.TheVariants as kinds
use Rattle.ossl_script.specs.Bindings.{Binding, Bindings, bind, unbind}
use Rattle.ossl_script.specs.Bindings.Binding.{activation, method, running, finished}
use Rattle.ossl_script.specs.Course.{Course}
use Rattle.ossl_script.specs.Course.Course.{ask, said}
use Rattle.ossl_script.specs.Held.{token_of, handed_out, held_after, give_back_call, is_held, left_by, with_handed, with_token}
use Rattle.ossl_script.specs.Laws.{IsFrom, least_behind}
use Rattle.ossl_script.proofs.HeldLaws.{handed-held, left-held, with-held, is_handed, is_token}

-- Tokens.

-- a token is among those held
abbrev pub Has : List Held → Held → Type 0
Has held one = is_held held one.number (token_of one.kind) ≡ true

-- the token that a name stands for
abbrev pub token_in : Binding → Held
token_in (activation token) = record { number = token; kind = kinds.Activation }
token_in (method used) = record { number = used.token; kind = kinds.Method }
token_in (running operating) = record { number = operating.token; kind = kinds.Context }
token_in (finished token) = record { number = token; kind = kinds.Context }

-- all that is held has numbers below this one
abbrev pub IsBelow : ℕ → List Held → Type 0
IsBelow least held = (t : ℕ) (token : Token) → is_held held t token ≡ true → t < least

abbrev pub one_of : ℕ → TokenKind → Held
one_of n kind = record { number = n; kind = kind }

-- a token stands for itself
pub itself : (one : Held) → is_token one one.number (token_of one.kind) ≡ true
itself one = at one.number one.kind
  where
    at : (n : ℕ) (kind : TokenKind) → is_token (one_of n kind) n (token_of kind) ≡ true
    at n kinds.Activation = eq-eqb n n refl
    at n kinds.Method = eq-eqb n n refl
    at n kinds.Context = eq-eqb n n refl

-- a call and its reply leave a token that the call does not give back
pub kept : (call : Call) (reply : Reply) (held : List Held) (one : Held) → gives_up_by call reply one.number (token_of one.kind) ≡ false → Has held one → Has (held_after call reply held) one
kept call reply held one stays has =
    handed-held (handed_out call reply) one.number (token_of one.kind) (left_by call reply held)
    ∙ ap (λ b. is_handed (handed_out call reply) one.number (token_of one.kind) || b)
    (left-held call reply one.number (token_of one.kind) held ∙ ap (λ up. if up then false else is_held held one.number (token_of one.kind)) stays ∙ has)
    ∙ or-true (is_handed (handed_out call reply) one.number (token_of one.kind))
  where
    or-true : (b : Bool) → (b || true) ≡ true
    or-true true = refl
    or-true false = refl

-- the token that is handed out is held
pub gained : (call : Call) (reply : Reply) (held : List Held) (one : Held) → handed_out call reply ≡ Some one → Has (held_after call reply held) one
gained call reply held one handed =
    handed-held (handed_out call reply) one.number (token_of one.kind) (left_by call reply held)
    ∙ ap (λ o. is_handed o one.number (token_of one.kind) || is_held (left_by call reply held) one.number (token_of one.kind)) handed
    ∙ ap (λ b. b || is_held (left_by call reply held) one.number (token_of one.kind)) (itself one)

-- the token that a call gives back is the one that it names
pub given : (one other : Held) (reply : Reply) → gives_up_by (give_back_call one) reply other.number (token_of other.kind) ≡ true → other ≡ one
given one other reply up = at one.number one.kind other.number other.kind up
  where
    at : (n : ℕ) (kind : TokenKind) (m : ℕ) (other : TokenKind) → gives_up_by (give_back_call (one_of n kind)) reply m (token_of other) ≡ true
        → one_of m other ≡ one_of n kind
    at n kinds.Activation m kinds.Activation up = ap (λ k. one_of k kinds.Activation) (sym (eqb-true n m up))
    at n kinds.Method m kinds.Method up = ap (λ k. one_of k kinds.Method) (sym (eqb-true n m up))
    at n kinds.Context m kinds.Context up = ap (λ k. one_of k kinds.Context) (sym (eqb-true n m up))
    at n kinds.Activation m kinds.Method up = absurd (true≢false (sym up))
    at n kinds.Activation m kinds.Context up = absurd (true≢false (sym up))
    at n kinds.Method m kinds.Activation up = absurd (true≢false (sym up))
    at n kinds.Method m kinds.Context up = absurd (true≢false (sym up))
    at n kinds.Context m kinds.Activation up = absurd (true≢false (sym up))
    at n kinds.Context m kinds.Method up = absurd (true≢false (sym up))

-- a token has the number of the one that it stands for
number_of_token : (one : Held) (t : ℕ) (token : Token) → is_token one t token ≡ true → one.number ≡ t
number_of_token one t token same = at one.number one.kind token same
  where
    at : (n : ℕ) (kind : TokenKind) (token : Token) → is_token (one_of n kind) t token ≡ true → n ≡ t
    at n kinds.Activation activation_token same = eqb-true n t same
    at n kinds.Method method_token same = eqb-true n t same
    at n kinds.Context context_token same = eqb-true n t same
    at n kind token same = absurd (true≢false (sym same))

-- the numbers stay below the least that comes next
pub still_below : (least : ℕ) (call : Call) (reply : Reply) (held : List Held) → IsFrom least (handed_out call reply) → IsBelow least held
    → IsBelow (least_behind least (handed_out call reply)) (held_after call reply held)
still_below least call reply held from below t token has =
    at (handed_out call reply) from (sym (handed-held (handed_out call reply) t token (left_by call reply held)) ∙ has)
  where
    left : is_held (left_by call reply held) t token ≡ true → t < least
    left has = by_up (gives_up_by call reply t token) (sym (left-held call reply t token held) ∙ has)
      where
        by_up : (up : Bool) → (if up then false else is_held held t token) ≡ true → t < least
        by_up true is = absurd (true≢false (sym is))
        by_up false is = below t token is

    at : (handed : Option Held) → IsFrom least handed → (is_handed handed t token || is_held (left_by call reply held) t token) ≡ true → t < least_behind least handed
    at None from has = left has
    at (Some one) from has = by_is (is_token one t token) refl has
      where
        by_is : (is : Bool) → is_token one t token ≡ is → (is || is_held (left_by call reply held) t token) ≡ true → t < one.number + 1
        by_is true same has = let equal : one.number ≡ t = number_of_token one t token same in omega arith
        by_is false same has = let small : t < least = left has in omega (arith, from)

-- no token stands twice
abbrev pub IsDistinct : List Held → Type 0
IsDistinct [] = ⊤
IsDistinct (one ∷ held) = ((t : ℕ) (token : Token) → is_held held t token ≡ true → is_token one t token ≡ false) × IsDistinct held

distinct_with : (one : Held) (held : List Held) → ((t : ℕ) (token : Token) → is_held held t token ≡ true → is_token one t token ≡ false) → IsDistinct held → IsDistinct (with_token one held)
distinct_with one [] new distinct = (λ t token has. absurd (true≢false (sym has)), tt)
distinct_with one (first ∷ held) new distinct =
    at (nat_lt one.number first.number) (distinct_with one held (λ t token has. new t token (ap (λ b. is_token first t token || b) has ∙ or-true (is_token first t token))) distinct.1)
  where
    or-true : (b : Bool) → (b || true) ≡ true
    or-true true = refl
    or-true false = refl

    apart : (t : ℕ) (token : Token) → (is_one is_first : Bool) → is_token one t token ≡ is_one → is_token first t token ≡ is_first → (is_one || is_held held t token) ≡ true → is_first ≡ false
    apart t token is_one false one_is first_is has = refl
    apart t token true true one_is first_is has = sym one_is ∙ new t token (ap (λ b. b || is_held held t token) first_is)
    apart t token false true one_is first_is has = sym first_is ∙ distinct.0 t token has

    at : (below : Bool) → IsDistinct (with_token one held) → IsDistinct (if below then first ∷ with_token one held else one ∷ first ∷ held)
    at true rest = (λ t token has. apart t token (is_token one t token) (is_token first t token) refl refl (sym (with-held one t token held) ∙ has), rest)
    at false rest = (new, distinct)

distinct_left : (call : Call) (reply : Reply) (held : List Held) → IsDistinct held → IsDistinct (left_by call reply held)
distinct_left call reply [] distinct = tt
distinct_left call reply (one ∷ held) distinct = at (gives_up_by call reply one.number (token_of one.kind)) (distinct_left call reply held distinct.1)
  where
    fewer : (t : ℕ) (token : Token) → is_held (left_by call reply held) t token ≡ true → is_held held t token ≡ true
    fewer t token has = by_up (gives_up_by call reply t token) (sym (left-held call reply t token held) ∙ has)
      where
        by_up : (up : Bool) → (if up then false else is_held held t token) ≡ true → is_held held t token ≡ true
        by_up true is = absurd (true≢false (sym is))
        by_up false is = is

    at : (up : Bool) → IsDistinct (left_by call reply held) → IsDistinct (cond (not up) (one ∷ left_by call reply held) (left_by call reply held))
    at true rest = rest
    at false rest = (λ t token has. distinct.0 t token (fewer t token has), rest)

-- a token of a number that nothing held reaches is new
pub distinct_after : (least : ℕ) (call : Call) (reply : Reply) (held : List Held) → IsFrom least (handed_out call reply) → IsBelow least held → IsDistinct held → IsDistinct (held_after call reply held)
distinct_after least call reply held from below distinct = at (handed_out call reply) from
  where
    at : (handed : Option Held) → IsFrom least handed → IsDistinct (with_handed handed (left_by call reply held))
    at None from = distinct_left call reply held distinct
    at (Some one) from = distinct_with one (left_by call reply held) new (distinct_left call reply held distinct)
      where
        new : (t : ℕ) (token : Token) → is_held (left_by call reply held) t token ≡ true → is_token one t token ≡ false
        new t token has = by_up (gives_up_by call reply t token) (sym (left-held call reply t token held) ∙ has)
          where
            by_is : (is : Bool) → is_token one t token ≡ is → t < least → is_token one t token ≡ false
            by_is true same small = let equal : one.number ≡ t = number_of_token one t token same in absurd (omega (arith, from))
            by_is false same small = same

            by_up : (up : Bool) → (if up then false else is_held held t token) ≡ true → is_token one t token ≡ false
            by_up true is = absurd (true≢false (sym is))
            by_up false is = by_is (is_token one t token) refl (below t token is)

-- What names are bound to, and courses.

-- what is bound is held, and no two names stand for one token
pub record IsBound (held : List Held) (b : Bindings) : Type 0 where
  pub has : (name : List ℕ) (x : Binding) → b name ≡ Some x → Has held (token_in x)
  pub apart : (name other : List ℕ) (x y : Binding) → b name ≡ Some x → b other ≡ Some y → token_in x ≡ token_in y → name ≡ other

-- the tokens that a call names are held, each of the kind that the call takes
abbrev pub NamesHeld : List Held → Call → Type 0
NamesHeld held (calls.Unload token) = Has held (one_of token kinds.Activation)
NamesHeld held (calls.UpRef token) = Has held (one_of token kinds.Method)
NamesHeld held (calls.Free token) = Has held (one_of token kinds.Method)
NamesHeld held (calls.NewCtx token None len) = Has held (one_of token kinds.Method)
NamesHeld held (calls.NewCtx token (Some inner) len) = Has held (one_of token kinds.Method) × Has held (one_of inner kinds.Method)
NamesHeld held (calls.FreeCtx token) = Has held (one_of token kinds.Context)
NamesHeld held call = ⊤

-- in a course each call names tokens that are held then, where each that is handed out has a greater number than those before it
abbrev pub IsSound : ℕ → List Held → Course → Type 0
IsSound least held (ask call follows) =
    NamesHeld held call
    × ((reply : Reply) → IsFrom least (handed_out call reply) → IsSound (least_behind least (handed_out call reply)) (held_after call reply held) (follows reply))
IsSound least held (said outcome b) = IsBound held b

-- a call that gives nothing back leaves what is bound held
abbrev pub GivesNothing : Call → Type 0
GivesNothing call = (reply : Reply) (t : ℕ) (token : Token) → gives_up_by call reply t token ≡ false

pub same_bound : (call : Call) (reply : Reply) (held : List Held) (b : Bindings) → GivesNothing call → IsBound held b → IsBound (held_after call reply held) b
same_bound call reply held b nothing bound = record {
  has = λ name x is. kept call reply held (token_in x) (nothing reply (token_in x).number (token_of (token_in x).kind)) (bound.has name x is);
  apart = bound.apart;
}

-- a name is bound to a token that is new
pub more_bound : (call : Call) (reply : Reply) (least : ℕ) (held : List Held) (b : Bindings) (name : List ℕ) (x : Binding) → GivesNothing call
    → handed_out call reply ≡ Some (token_in x) → least ≤ (token_in x).number → IsBelow least held → IsBound held b → IsBound (held_after call reply held) (bind name x b)
more_bound call reply least held b name x nothing handed from below bound = record {
  has = λ other y is. has other y (bytes_eq name other) is;
  apart = λ one other y z is also same. apart one other y z (bytes_eq name one) (bytes_eq-Decides name one) (bytes_eq name other) (bytes_eq-Decides name other) is also same;
}
  where
    has : (other : List ℕ) (y : Binding) (is : Bool) → (if is then Some x else b other) ≡ Some y → Has (held_after call reply held) (token_in y)
    has other y true is = let equal : x ≡ y = (cc) in subst (λ z. Has (held_after call reply held) (token_in z)) equal (gained call reply held (token_in x) handed)
    has other y false is = kept call reply held (token_in y) (nothing reply (token_in y).number (token_of (token_in y).kind)) (bound.has other y is)

    -- a new token is none that is bound
    fresh : (other : List ℕ) (y : Binding) → b other ≡ Some y → token_in x ≡ token_in y → ⊥
    fresh other y is same =
        let small : (token_in y).number < least = below (token_in y).number (token_of (token_in y).kind) (bound.has other y is) in
        let equal : (token_in x).number ≡ (token_in y).number = ap (λ one. one.number) same in
        omega (arith, from)

    apart : (one other : List ℕ) (y z : Binding) (is_one : Bool) → Decides is_one (name ≡ one) → (is_other : Bool) → Decides is_other (name ≡ other)
        → (if is_one then Some x else b one) ≡ Some y → (if is_other then Some x else b other) ≡ Some z → token_in y ≡ token_in z → one ≡ other
    apart one other y z true first true second is also same = sym (first.0 refl) ∙ second.0 refl
    apart one other y z true first false second is also same = let equal : x ≡ y = (cc) in absurd (fresh other z also (ap token_in equal ∙ same))
    apart one other y z false first true second is also same = let equal : x ≡ z = (cc) in absurd (fresh one y is (ap token_in equal ∙ sym same))
    apart one other y z false first false second is also same = bound.apart one other y z is also same

-- a name whose token is given back is free
pub less_bound : (reply : Reply) (held : List Held) (b : Bindings) (name : List ℕ) (x : Binding) → b name ≡ Some x → IsBound held b
    → IsBound (held_after (give_back_call (token_in x)) reply held) (unbind name b)
less_bound reply held b name x named bound = record {
  has = λ other y is. has other y (bytes_eq name other) (bytes_eq-Decides name other) is;
  apart = λ one other y z is also same. apart one other y z (bytes_eq name one) (bytes_eq name other) is also same;
}
  where
    has : (other : List ℕ) (y : Binding) (is : Bool) → Decides is (name ≡ other) → (if is then None else b other) ≡ Some y → Has (held_after (give_back_call (token_in x)) reply held) (token_in y)
    has other y true decides is = absurd cc
    has other y false decides is = by_up (gives_up_by (give_back_call (token_in x)) reply (token_in y).number (token_of (token_in y).kind)) refl
      where
        by_up : (up : Bool) → gives_up_by (give_back_call (token_in x)) reply (token_in y).number (token_of (token_in y).kind) ≡ up → Has (held_after (give_back_call (token_in x)) reply held) (token_in y)
        by_up true up =
            let same : token_in x ≡ token_in y = sym (given (token_in x) (token_in y) reply up) in
            absurd (true≢false (sym (decides.1 (bound.apart name other x y named is same))))
        by_up false up = kept (give_back_call (token_in x)) reply held (token_in y) up (bound.has other y is)

    apart : (one other : List ℕ) (y z : Binding) (is_one is_other : Bool) → (if is_one then None else b one) ≡ Some y → (if is_other then None else b other) ≡ Some z
        → token_in y ≡ token_in z → one ≡ other
    apart one other y z true is_other is also same = absurd cc
    apart one other y z false true is also same = absurd cc
    apart one other y z false false is also same = bound.apart one other y z is also same

-- a name stands for the same token as before
pub re_bound : (held : List Held) (b : Bindings) (name : List ℕ) (x y : Binding) → b name ≡ Some x → token_in y ≡ token_in x → IsBound held b → IsBound held (bind name y b)
re_bound held b name x y named same bound = record {
  has = λ other z is. has other z (bytes_eq name other) is;
  apart = λ one other z u is also equal. apart one other z u (bytes_eq name one) (bytes_eq-Decides name one) (bytes_eq name other) (bytes_eq-Decides name other) is also equal;
}
  where
    has : (other : List ℕ) (z : Binding) (is : Bool) → (if is then Some y else b other) ≡ Some z → Has held (token_in z)
    has other z true is = let equal : y ≡ z = (cc) in subst (λ one. Has held one) (sym same ∙ ap token_in equal) (bound.has name x named)
    has other z false is = bound.has other z is

    apart : (one other : List ℕ) (z u : Binding) (is_one : Bool) → Decides is_one (name ≡ one) → (is_other : Bool) → Decides is_other (name ≡ other)
        → (if is_one then Some y else b one) ≡ Some z → (if is_other then Some y else b other) ≡ Some u → token_in z ≡ token_in u → one ≡ other
    apart one other z u true first true second is also equal = sym (first.0 refl) ∙ second.0 refl
    apart one other z u true first false second is also equal =
        let this : y ≡ z = (cc) in sym (first.0 refl) ∙ bound.apart name other x u named also (sym same ∙ ap token_in this ∙ equal)
    apart one other z u false first true second is also equal =
        let this : y ≡ u = (cc) in bound.apart one name z x is named (equal ∙ sym (ap token_in this) ∙ same) ∙ second.0 refl
    apart one other z u false first false second is also equal = bound.apart one other z u is also equal

-- a token that is given back and not bound leaves what is bound held
abbrev pub IsFree : Bindings → Held → Type 0
IsFree b one = (name : List ℕ) (x : Binding) → b name ≡ Some x → token_in x ≡ one → ⊥

-- neither a method nor what is bound is given back
pub record Spares (call : Call) (reply : Reply) (b : Bindings) : Type 0 where
  pub methods : (t : ℕ) → gives_up_by call reply t method_token ≡ false
  pub names : (name : List ℕ) (x : Binding) → b name ≡ Some x → gives_up_by call reply (token_in x).number (token_of (token_in x).kind) ≡ false

pub not_given : (one : Held) (reply : Reply) (b : Bindings) → IsFree b one → (name : List ℕ) (x : Binding) → b name ≡ Some x
    → gives_up_by (give_back_call one) reply (token_in x).number (token_of (token_in x).kind) ≡ false
not_given one reply b free name x is = at (gives_up_by (give_back_call one) reply (token_in x).number (token_of (token_in x).kind)) refl
  where
    at : (up : Bool) → gives_up_by (give_back_call one) reply (token_in x).number (token_of (token_in x).kind) ≡ up → up ≡ false
    at true up = absurd (free name x is (given one (token_in x) reply up))
    at false up = refl

pub spared : (call : Call) (reply : Reply) (b : Bindings) → GivesNothing call → Spares call reply b
spared call reply b nothing = record { methods = λ t. nothing reply t method_token; names = λ name x is. nothing reply (token_in x).number (token_of (token_in x).kind) }

pub bound_after : (call : Call) (reply : Reply) (held : List Held) (b : Bindings) → ((name : List ℕ) (x : Binding) → b name ≡ Some x → gives_up_by call reply (token_in x).number (token_of (token_in x).kind) ≡ false)
    → IsBound held b → IsBound (held_after call reply held) b
bound_after call reply held b names bound = record {
  has = λ name x is. kept call reply held (token_in x) (names name x is) (bound.has name x is);
  apart = bound.apart;
}

-- a token with a number that nothing held reaches is not bound
pub free_from : (least : ℕ) (held : List Held) (b : Bindings) (one : Held) → IsBelow least held → IsBound held b → least ≤ one.number → IsFree b one
free_from least held b one below bound from name x is same =
    let small : (token_in x).number < least = below (token_in x).number (token_of (token_in x).kind) (bound.has name x is) in
    let equal : (token_in x).number ≡ one.number = ap (λ h. h.number) same in
    omega (arith, from)
