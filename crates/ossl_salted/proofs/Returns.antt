-- Whole runs: a text comes back, and a run that nothing stands against comes to its end.
use Rattle.std.proofs.Common.{◌≡◌, ◌≢◌, ℕ, ◌<◌, ◌≤◌, Bool, true, false, nat_lt, if◌then◌else◌, List, length, Result, Ok, Err, None, Some, inl, inr, ◌⊎◌, refl, sym, ap, subst, ◌∙◌, arith, IsOk}
use Rattle.std.specs.declared.option.Option.{Option}
use Rattle.std.proofs.lemmas.Bool.Decides.{nat_tests}
use Rattle.ossl_base.specs.Files.{Entries, HasContent, IsLonger, LacksName, content_of}
use Rattle.ossl_salted.specs.Course.{Due, Ending, Goes, IsInput, decryption_due, decryption_status, decryption_text, due_by, due_of, limited, most_bytes, most_password}
use Rattle.ossl_salted.specs.File.{Fault, password_of, salted_file, unsealed, unsealed_unchecked}
use Rattle.ossl_salted.specs.Outside.{Looking, Reading, Writing}
use Rattle.ossl_salted.specs.Return.{AreTold, BringsBack, Completes}
use Rattle.ossl_salted.specs.Words.{Asked}
use Rattle.ossl_salted.proofs.RoundTrip.{unsealed_file}

-- what is told is what there is
content_same : (entries : Option Entries) (told : Entries) (name x y : List ℕ) → entries ≡ Some told → HasContent entries name x → content_of told name ≡ Some y → x ≡ y
content_same None told name x y e h k = cc e
content_same (Some entries) told name x y e h k =
    let same : entries ≡ told = cc e in
    let P : Entries → Type 0 = λ t. content_of t name ≡ Some y in
    let both : Some x ≡ Some y = sym h ∙ subst P (sym same) k in cc both

input_same : (left : Option (List ℕ)) (input file : List ℕ) → IsInput left input → left ≡ Some file → input ≡ file
input_same None input file h e = cc e
input_same (Some bs) input file h e = let same : bs ≡ file = cc e in sym h ∙ same

due_same : (a : Asked) (s : Reading) (f : Looking) (content input : List ℕ) (has read : List ℕ) → AreTold a s f content input
    → HasContent f.entries a.name has → IsInput s.left read → due_of a (password_of has) read ≡ due_of a (password_of content) input
due_same a s f content input has read told h is =
    ap (λ t. due_of a (password_of t) read) (content_same f.entries told.told a.name has content told.files h told.password)
    ∙ ap (λ t. due_of a (password_of content) t) (input_same s.left read input is told.source)

-- ---- a text comes back

-- what is due of a file that holds a text
opened : (input password p : List ℕ) (rounds bits : ℕ) → unsealed input password rounds bits ≡ Ok p
    → decryption_due password input rounds bits ≡ record { status = limited most_bytes input 0; text = p }
opened input password p rounds bits e =
    let D : Result (List ℕ) Fault → Due = λ u. record { status = decryption_status u input; text = decryption_text u (unsealed_unchecked input password rounds bits) } in
    ap D e

zero_or_long : (room : ℕ) (input : List ℕ) → (limited room input 0 ≡ 0) ⊎ (limited room input 0 ≡ 7)
zero_or_long room input =
    let P : Bool → Type 0 = λ t. let n : ℕ = if t then 7 else 0 in (n ≡ 0) ⊎ (n ≡ 7) in
    elim (nat_lt room (length input)) as P [ true ↦ inr refl | false ↦ inl refl ]

not_refused : (n due : ℕ) (r w : Type 0) → (due ≡ 0) ⊎ (due ≡ 7) → (n ≡ due) ⊎ ((n ≡ 3) × r) ⊎ ((n ≡ 4) × w) ⊎ (n ≡ 9) → (n ≢ 5) × (n ≢ 6)
not_refused n due r w (inl z) (inl x) = (λ e. omega (arith, e, x, z), λ e. omega (arith, e, x, z))
not_refused n due r w (inr z) (inl x) = (λ e. omega (arith, e, x, z), λ e. omega (arith, e, x, z))
not_refused n due r w z (inr (inl x)) = (λ e. omega (arith, e, x.0), λ e. omega (arith, e, x.0))
not_refused n due r w z (inr (inr (inl x))) = (λ e. omega (arith, e, x.0), λ e. omega (arith, e, x.0))
not_refused n due r w z (inr (inr (inr x))) = (λ e. omega (arith, e, x), λ e. omega (arith, e, x))

by_file : (n : ℕ) (a b : Type 0) → ((n ≡ 3) × a) ⊎ ((n ≡ 7) × b) ⊎ (n ≡ 9) → (n ≢ 5) × (n ≢ 6) × (n ≢ 0)
by_file n a b (inl x) = (λ e. omega (arith, e, x.0), λ e. omega (arith, e, x.0), λ e. omega (arith, e, x.0))
by_file n a b (inr (inl x)) = (λ e. omega (arith, e, x.0), λ e. omega (arith, e, x.0), λ e. omega (arith, e, x.0))
by_file n a b (inr (inr x)) = (λ e. omega (arith, e, x), λ e. omega (arith, e, x), λ e. omega (arith, e, x))

pub goes_back : (a : Asked) (status : ℕ) (s : Reading) (f : Looking) (k : Writing) → Goes a status s f k → BringsBack a status s f k
goes_back a status s f k (inl h) = λ p salt content none bytes len told. let other = by_file status _ _ h.cause in (other.0, other.1, λ e. absurd (other.2 e))
goes_back a status s f k (inr h) = λ p salt content none bytes len told.
    let sealed : List ℕ = salted_file p (password_of content) salt a.rounds a.bits in
    let due : Due = record { status = limited most_bytes sealed 0; text = p } in
    let same : due_of a (password_of h.content) h.runs.input ≡ due =
    due_same a s f content sealed h.content h.runs.input told h.has h.runs.is_input
    ∙ ap (λ t. due_by t a.bits a.rounds (password_of content) sealed) none
    ∙ opened sealed (password_of content) p a.rounds a.bits (unsealed_file p (password_of content) salt a.rounds a.bits bytes len) in
    let P : Due → Type 0 = λ u. Ending u status s k in
    let ending = subst P same h.runs.ending in
    let other = not_refused status due.status _ _ (zero_or_long most_bytes sealed) ending.ends in (other.0, other.1, ending.all)

-- ---- a run comes to its end

not_lacking : (entries : Option Entries) (told : Entries) (name content : List ℕ) → entries ≡ Some told → content_of told name ≡ Some content
    → LacksName entries name → ⊥
not_lacking None told name content e h k = k
not_lacking (Some entries) told name content e h k =
    let same : entries ≡ told = cc e in
    let P : Entries → Type 0 = λ t. content_of t name ≡ Some content in
    let both : Some content ≡ None = sym (subst P (sym same) h) ∙ k in cc both

not_longer : (entries : Option Entries) (told : Entries) (name content : List ℕ) (limit : ℕ) → entries ≡ Some told → content_of told name ≡ Some content
    → length content ≤ limit → IsLonger entries name limit → ⊥
not_longer None told name content limit e h fits k = cc e
not_longer (Some entries) told name content limit e h fits k =
    let same : entries ≡ told = cc e in
    let P : Entries → Type 0 = λ t. content_of t name ≡ Some content in
    let is : content_of entries name ≡ Some content = subst P (sym same) h in
    let long : limit < length content = rw is at k in
    omega (arith, long, fits)

within_limit : (input : List ℕ) (status : ℕ) → length input ≤ most_bytes → limited most_bytes input status ≡ status
within_limit input status h = let t : nat_lt most_bytes (length input) ≡ false = grind (arith, nat_tests) in rw t refl

unsealed_status : (u : Result (List ℕ) Fault) (input : List ℕ) → length input ≤ most_bytes → IsOk u → decryption_status u input ≡ 0
unsealed_status (Ok p) input fits ok = within_limit input 0 fits
unsealed_status (Err e) input fits ok = cc ok

due_zero : (a : Asked) (content input : List ℕ) → length input ≤ most_bytes
    → (a.salt ≡ None → IsOk (unsealed input (password_of content) a.rounds a.bits)) → (due_of a (password_of content) input).status ≡ 0
due_zero a content input fits ok =
    elim a.salt as (λ salt. (salt ≡ None → IsOk (unsealed input (password_of content) a.rounds a.bits)) → (due_by salt a.bits a.rounds (password_of content) input).status ≡ 0) [
      | None ↦ λ k. unsealed_status (unsealed input (password_of content) a.rounds a.bits) input fits (k refl)
      | Some salt ↦ λ k. within_limit input 0 fits
    ] ok

pub goes_through : (a : Asked) (status : ℕ) (s : Reading) (f : Looking) (k : Writing) → Goes a status s f k → Completes a status s f k
goes_through a status s f k (inl h) = λ content input told free. elim h.cause [
  | inl x ↦ absurd (elim x.1 [ inl y ↦ free.looked y | inr y ↦ not_lacking f.entries told.told a.name content told.files told.password y ])
  | inr (inl x) ↦ absurd (not_longer f.entries told.told a.name content most_password told.files told.password free.password x.1)
  | inr (inr x) ↦ inr x
]
goes_through a status s f k (inr h) = λ content input told free.
    let P : Due → Type 0 = λ u. Ending u status s k in
    let ending = subst P (due_same a s f content input h.content h.runs.input told h.has h.runs.is_input) h.runs.ending in
    let zero : (due_of a (password_of content) input).status ≡ 0 = due_zero a content input free.bytes free.unsealed in elim ending.ends [
      | inl x ↦ inl (x ∙ zero)
      | inr (inl x) ↦ absurd (free.read x.1)
      | inr (inr (inl x)) ↦ absurd (free.written x.1)
      | inr (inr (inr x)) ↦ inr x
    ]
