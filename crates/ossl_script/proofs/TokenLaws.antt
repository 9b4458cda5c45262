-- The tokens that stand in places.
use Rattle.std.proofs.Common.{◌≡◌, ℕ, zero, suc, ◌+◌, ◌<◌, ◌≤◌, Bool, true, false, not, List, [], ◌∷◌, ◌++◌, map, length, take, drop, get_or, refl, sym, ap, ◌∙◌, subst, append_assoc, arith}
use Rattle.std.specs.Prelude.{if◌then◌else◌, cond, filter, slice_set, ⊤}
use Rattle.std.proofs.lemmas.Bool.{eq-eqb, le-ltb, lt-ltb, ne_eqb}
use Rattle.std.proofs.lemmas.List.{append-nil, drop_more, get_or-drop, get_or_append_left, get_or_default, get_or-map, get_or-take, length-drop, length-map, length-take-le, map-append, take-append-drop, take_more}
use Rattle.std.proofs.lemmas.List.Elements.{filter-append}
use Rattle.std.proofs.Math.Seq.{set-append_seam}
use Rattle.ossl_state.specs.declared.call.Call.{Call}
use Rattle.ossl_state.specs.declared.call.Call.TheVariants.{Unload, Free, FreeCtx}
use Rattle.ossl_state.specs.declared.call.Reply.{Reply}
use Rattle.ossl_state.specs.declared.call.Reply.TheVariants.{Done}
use Rattle.ossl_state.specs.Tokens.{Token, gives_up_by}
use Rattle.ossl_state.specs.Tokens.Token.{activation_token, method_token, context_token}
use Rattle.ossl_script.specs.declared.held.Held.{Held}
use Rattle.ossl_script.specs.declared.held.TokenKind.{TokenKind}
use Rattle.ossl_script.specs.declared.held.TokenKind.TheVariants.{Activation, Method, Context}
use Rattle.ossl_script.specs.declared.tokens.Place.{Place}
use Rattle.ossl_script.specs.Held.{give_back_call, left_by, token_of, with_token}
use Rattle.ossl_script.specs.Places.{Ascends, held_in, kept_at}

-- the token is this one, by number and kind
abbrev pub is_same : Held → Held → Bool
is_same token one = gives_up_by (give_back_call token) Done one.number (token_of one.kind)

-- a place that keeps this token no more
abbrev pub without : Held → Place → Place
without token place = record place { kept = if is_same token place.token then false else place.kept }

-- 1. What is held in two parts.

pub held_in-append : (xs ys : List Place) → held_in (xs ++ ys) ≡ held_in ys ++ held_in xs
held_in-append [] ys = sym (append-nil (held_in ys))
held_in-append (x ∷ xs) ys = ap (λ (h : List Held). h ++ kept_at x) (held_in-append xs ys) ∙ append_assoc (held_in ys) (held_in xs) (kept_at x)

-- 2. One more token.

-- all of these places have greater numbers
abbrev Above : ℕ → List Place → Type 0
Above n [] = ⊤
Above n (x ∷ xs) = (n < x.token.number) × Above n xs

-- none of these has a greater one
abbrev AtMost : ℕ → List Held → Type 0
AtMost n [] = ⊤
AtMost n (x ∷ xs) = (x.number ≤ n) × AtMost n xs

above_from : (n : ℕ) (xs : List Place) → ((k : ℕ) (d : Place) → k < length xs → n < (get_or xs k d).token.number) → Above n xs
above_from n [] h = tt
above_from n (x ∷ xs) h = (h zero x (omega arith), above_from n xs (λ k d l. h (suc k) d (omega (arith, l))))

at_most-append : (n : ℕ) (xs ys : List Held) → AtMost n xs → AtMost n ys → AtMost n (xs ++ ys)
at_most-append n [] ys a b = b
at_most-append n (x ∷ xs) ys a b = (a.0, at_most-append n xs ys a.1 b)

at_most_kept : (n : ℕ) (number : ℕ) (kind : TokenKind) (kept : Bool) → number ≤ n → AtMost n (kept_at (record { token = record { number = number; kind = kind }; kept = kept }))
at_most_kept n number kind true h = (h, tt)
at_most_kept n number kind false h = tt

at_most_from : (n : ℕ) (xs : List Place) → ((k : ℕ) (d : Place) → k < length xs → (get_or xs k d).token.number ≤ n) → AtMost n (held_in xs)
at_most_from n [] h = tt
at_most_from n (x ∷ xs) h =
    at_most-append n (held_in xs) (kept_at x) (at_most_from n xs (λ k d l. h (suc k) d (omega (arith, l))))
    (at_most_kept n x.token.number x.token.kind x.kept (h zero x (omega arith)))

-- a token that no number passes comes first
first_of : (token : Held) (held : List Held) → AtMost token.number held → with_token token held ≡ token ∷ held
first_of token [] h = refl
first_of token (x ∷ held) h =
    ap (λ below. if below then x ∷ with_token token held else token ∷ x ∷ held) (le-ltb token.number x.number h.0)

-- it comes behind those with greater numbers
behind_kept : (token : Held) (number : ℕ) (kind : TokenKind) (kept : Bool) (rest : List Held) → token.number < number
    → with_token token (kept_at (record { token = record { number = number; kind = kind }; kept = kept }) ++ rest)
    ≡ kept_at (record { token = record { number = number; kind = kind }; kept = kept }) ++ with_token token rest
behind_kept token number kind false rest h = refl
behind_kept token number kind true rest h =
    let x : Held = record { number = number; kind = kind } in
    ap (λ below. if below then x ∷ with_token token rest else token ∷ x ∷ rest) (lt-ltb token.number number h)

behind : (token : Held) (xs : List Place) (rest : List Held) → Above token.number xs
    → with_token token (held_in xs ++ rest) ≡ held_in xs ++ with_token token rest
behind token [] rest h = refl
behind token (x ∷ xs) rest h =
    ap (with_token token) (append_assoc (held_in xs) (kept_at x) rest)
    ∙ behind token xs (kept_at x ++ rest) h.1
    ∙ ap (λ (r : List Held). held_in xs ++ r) (behind_kept token x.token.number x.token.kind x.kept rest h.0)
    ∙ sym (append_assoc (held_in xs) (kept_at x) (with_token token rest))

-- a token that is put behind all places whose numbers do not pass its own
pub held_with : (token : Held) (xs : List Place) (i : ℕ) → i ≤ length xs
    → ((k : ℕ) (d : Place) → k < i → (get_or xs k d).token.number ≤ token.number)
    → ((k : ℕ) (d : Place) → i ≤ k → k < length xs → token.number < (get_or xs k d).token.number)
    → held_in (take i xs ++ record { token = token; kept = true } ∷ drop i xs) ≡ with_token token (held_in xs)
held_with token xs i within below above =
    let high : Above token.number (drop i xs) =
    above_from token.number (drop i xs)
    (λ k d l. subst (λ (place : Place). token.number < place.token.number) (sym (get_or-drop i xs k d)) (above (i + k) d (omega arith) (omega (arith, l, length-drop i xs)))) in
    let low : AtMost token.number (held_in (take i xs)) =
    at_most_from token.number (take i xs)
    (λ k d l. let less : k < i = omega (arith, l, length-take-le i xs within) in
    subst (λ (place : Place). place.token.number ≤ token.number) (sym (get_or-take i xs k d less)) (below k d less)) in
    held_in-append (take i xs) (record { token = token; kept = true } ∷ drop i xs)
    ∙ append_assoc (held_in (drop i xs)) (token ∷ []) (held_in (take i xs))
    ∙ ap (λ (r : List Held). held_in (drop i xs) ++ r) (sym (first_of token (held_in (take i xs)) low))
    ∙ sym (behind token (drop i xs) (held_in (take i xs)) high)
    ∙ ap (with_token token) (sym (held_in-append (take i xs) (drop i xs)) ∙ ap held_in (take-append-drop i xs))

-- 3. One token less.

any_reply : (n : ℕ) (kind : TokenKind) (reply : Reply) (t : ℕ) (token : Token)
    → gives_up_by (give_back_call (record { number = n; kind = kind })) reply t token ≡ gives_up_by (give_back_call (record { number = n; kind = kind })) Done t token
any_reply n Activation reply t activation_token = refl
any_reply n Activation reply t token = refl
any_reply n Method reply t method_token = refl
any_reply n Method reply t token = refl
any_reply n Context reply t context_token = refl
any_reply n Context reply t token = refl

-- the test with which tokens are left, at a token that gives back
abbrev stays : Held → Reply → Held → Bool
stays token reply one = not (gives_up_by (give_back_call token) reply one.number (token_of one.kind))

one_left : (token : Held) (same gone kept : Bool) → gone ≡ same
    → ◌≡◌ {A = List Held} (if (if same then false else kept) then token ∷ [] else []) (if kept then (if not gone then token ∷ [] else []) else [])
one_left token true true true h = refl
one_left token true true false h = refl
one_left token false false kept h = refl
one_left token true false kept h = absurd cc
one_left token false true kept h = absurd cc

filtered : (token one : Held) (reply : Reply) (kept : Bool)
    → filter (stays token reply) (if kept then one ∷ [] else []) ≡ (if kept then (if stays token reply one then one ∷ [] else []) else [])
filtered token one reply true = refl
filtered token one reply false = refl

kept_without : (token : Held) (reply : Reply) (place : Place) → kept_at (without token place) ≡ filter (stays token reply) (kept_at place)
kept_without token reply place =
    one_left place.token (is_same token place.token) (gives_up_by (give_back_call token) reply place.token.number (token_of place.token.kind)) place.kept
    (any_reply token.number token.kind reply place.token.number (token_of place.token.kind))
    ∙ sym (filtered token place.token reply place.kept)

pub held_without : (token : Held) (reply : Reply) (xs : List Place) → held_in (map (without token) xs) ≡ left_by (give_back_call token) reply (held_in xs)
held_without token reply [] = refl
held_without token reply (x ∷ xs) =
    ap (λ (h : List Held). h ++ kept_at (without token x)) (held_without token reply xs)
    ∙ ap (λ (h : List Held). filter (stays token reply) (held_in xs) ++ h) (kept_without token reply x)
    ∙ sym (filter-append (stays token reply) (held_in xs) (kept_at x))

-- the numbers stay
pub ascends_without : (token : Held) (xs : List Place) → Ascends xs → Ascends (map (without token) xs)
ascends_without token xs h i j d below within =
    let short : j < length xs = omega (arith, within, length-map xs (without token)) in
    let at_i = get_or-map (without token) xs i d d (omega arith) in
    let at_j = get_or-map (without token) xs j d d short in
    subst (λ (place : Place). (get_or (map (without token) xs) i d).token.number ≤ place.token.number) (sym at_j)
    (subst (λ (place : Place). place.token.number ≤ (get_or xs j d).token.number) (sym at_i) (h i j d below short))

-- a call that gives nothing back leaves all
pub all_left : (call : Call) (reply : Reply) → ((t : ℕ) (token : Token) → gives_up_by call reply t token ≡ false) → (held : List Held) → left_by call reply held ≡ held
all_left call reply none [] = refl
all_left call reply none (one ∷ held) =
    ap (λ up. cond (not up) (one ∷ left_by call reply held) (left_by call reply held)) (none one.number (token_of one.kind))
    ∙ ap (λ (h : List Held). one ∷ h) (all_left call reply none held)

-- 4. Which places a token's are.

other_kind : (n : ℕ) (kind : TokenKind) (t : ℕ) (other : TokenKind) → (n ≡ t → ⊥)
    → is_same (record { number = n; kind = kind }) (record { number = t; kind = other }) ≡ false
other_kind n Activation t Activation apart = ne_eqb n t apart
other_kind n Method t Method apart = ne_eqb n t apart
other_kind n Context t Context apart = ne_eqb n t apart
other_kind n Activation t Method apart = refl
other_kind n Activation t Context apart = refl
other_kind n Method t Activation apart = refl
other_kind n Method t Context apart = refl
other_kind n Context t Activation apart = refl
other_kind n Context t Method apart = refl

-- a place of another number stays
stays_apart : (token : Held) (place : Place) → (token.number ≡ place.token.number → ⊥) → without token place ≡ place
stays_apart token place apart =
    ap (λ (same : Bool). record place { kept = if same then false else place.kept })
    (other_kind token.number token.kind place.token.number place.token.kind apart)

-- places of other numbers stay
pub stay_apart : (token : Held) (xs : List Place) → ((k : ℕ) (d : Place) → k < length xs → token.number ≡ (get_or xs k d).token.number → ⊥)
    → map (without token) xs ≡ xs
stay_apart token [] h = refl
stay_apart token (x ∷ xs) h =
    ap (λ (y : Place). y ∷ map (without token) xs) (stays_apart token x (h zero x (omega arith)))
    ∙ ap (λ (ys : List Place). x ∷ ys) (stay_apart token xs (λ k d l. h (suc k) d (omega (arith, l))))

same_kind : (n : ℕ) (kind : TokenKind) → is_same (record { number = n; kind = kind }) (record { number = n; kind = kind }) ≡ true
same_kind n Activation = eq-eqb n n refl
same_kind n Method = eq-eqb n n refl
same_kind n Context = eq-eqb n n refl

-- the place of the token is left empty
pub emptied : (token : Held) (place : Place) → place.token ≡ token → without token place ≡ record { token = place.token; kept = false }
emptied token place same =
    ap (λ (is : Bool). record place { kept = if is then false else place.kept })
    (ap (is_same token) same ∙ same_kind token.number token.kind)

-- one place more of which the token is gone
pub gone_more : (token : Held) (xs : List Place) (q : ℕ) (d : Place) (now : List Place) → q < length xs
    → now ≡ take (q + 1) xs ++ map (without token) (drop (q + 1) xs)
    → slice_set now q (without token (get_or xs q d)) ≡ take q xs ++ map (without token) (drop q xs)
gone_more token xs q d now within so_far =
    let one = get_or xs q d in
    let rest = map (without token) (drop (q + 1) xs) in
    let seam : now ≡ take q xs ++ one ∷ rest =
    so_far ∙ ap (λ (ys : List Place). ys ++ rest) (take_more xs q d within) ∙ append_assoc (take q xs) (one ∷ []) rest in
    ap (λ (ys : List Place). slice_set ys q (without token one)) seam
    ∙ ap (λ n. slice_set (take q xs ++ one ∷ rest) n (without token one)) (sym (length-take-le q xs (omega (arith, within))))
    ∙ set-append_seam (take q xs) one rest (without token one)
    ∙ ap (λ (ys : List Place). take q xs ++ map (without token) ys) (sym (drop_more xs q d within))

-- the same of a place that keeps another
pub gone_same : (token : Held) (xs : List Place) (q : ℕ) (d : Place) (now : List Place) → q < length xs
    → now ≡ take (q + 1) xs ++ map (without token) (drop (q + 1) xs) → without token (get_or xs q d) ≡ get_or xs q d
    → now ≡ take q xs ++ map (without token) (drop q xs)
gone_same token xs q d now within so_far same =
    let one = get_or xs q d in
    let rest = map (without token) (drop (q + 1) xs) in
    so_far ∙ ap (λ (ys : List Place). ys ++ rest) (take_more xs q d within) ∙ append_assoc (take q xs) (one ∷ []) rest
    ∙ ap (λ (y : Place). take q xs ++ y ∷ rest) (sym same)
    ∙ ap (λ (ys : List Place). take q xs ++ map (without token) ys) (sym (drop_more xs q d within))

-- all places of the token are behind this one, and all of them are empty
pub all_gone : (token : Held) (xs now : List Place) (p : ℕ) → ((k : ℕ) (d : Place) → k < p → (get_or xs k d).token.number < token.number) → p ≤ length xs
    → now ≡ take p xs ++ map (without token) (drop p xs) → now ≡ map (without token) xs
all_gone token xs now p below within so_far =
    so_far
    ∙ ap (λ (ys : List Place). ys ++ map (without token) (drop p xs))
    (sym (stay_apart token (take p xs) (λ k d l e.
    let less : k < p = omega (arith, l, length-take-le p xs within) in
    let number = below k d less in
    let same = get_or-take p xs k d less in
    let e2 : token.number ≡ (get_or xs k d).token.number = e ∙ ap (λ (place : Place). place.token.number) same in omega (arith, number, e2))))
    ∙ sym (map-append (without token) (take p xs) (drop p xs))
    ∙ ap (map (without token)) (take-append-drop p xs)

-- a call by which nothing is given back
pub nothing_back : (call : Call) → ((t : ℕ) → call ≡ Unload t → ⊥) → ((t : ℕ) → call ≡ Free t → ⊥) → ((t : ℕ) → call ≡ FreeCtx t → ⊥)
    → (reply : Reply) (t : ℕ) (token : Token) → gives_up_by call reply t token ≡ false
nothing_back (Unload n) a b d reply t token = absurd (a n refl)
nothing_back (Free n) a b d reply t token = absurd (b n refl)
nothing_back (FreeCtx n) a b d reply t token = absurd (d n refl)
nothing_back call a b d reply t token = refl

-- the last place is taken out
pub last_out : (xs : List Place) (place : Place) → held_in (xs ++ place ∷ []) ≡ kept_at place ++ held_in xs
last_out xs place = held_in-append xs (place ∷ [])

-- what stands in a place that was not looked at yet
pub place_at : (token : Held) (xs now : List Place) (p q : ℕ) (d : Place) → p ≡ q + 1 → p ≤ length xs
    → now ≡ take p xs ++ map (without token) (drop p xs) → (one : Place) → one ≡ get_or now q one → one ≡ get_or xs q d
place_at token xs now p q d next within so_far one is =
    let less : q < p = omega (arith, next) in
    let long : q < length (take p xs) = omega (arith, less, length-take-le p xs within) in
    is ∙ ap (λ (ys : List Place). get_or ys q one) so_far
    ∙ get_or_append_left (take p xs) (map (without token) (drop p xs)) one q long
    ∙ get_or-take p xs q one less
    ∙ get_or_default xs q one d (omega (arith, less, within))

pub held_same : (a b : Held) → a.number ≡ b.number → a.kind ≡ b.kind → a ≡ b
held_same a b number kind =
    ap (λ (n : ℕ). let h : Held = record { number = n; kind = a.kind } in h) number
    ∙ ap (λ (k : TokenKind). let h : Held = record { number = b.number; kind = k } in h) kind
