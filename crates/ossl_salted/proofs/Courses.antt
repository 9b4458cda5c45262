-- Runs over whole inputs: the header before what is decrypted, and runs that write nothing.
use Rattle.std.proofs.Common.{◌≡◌, ℕ, ◌+◌, ◌-◌, ◌/◌, ◌<◌, ◌≤◌, Bool, true, false, nat_le, nat_lt, if◌then◌else◌, List, [], ◌++◌, length, take, drop, Result, Ok, Err, None, Some, refl, sym, ap, ◌∙◌, arith, length-append, inl, inr, ◌⊎◌, subst, IfErr}
use Rattle.std.specs.declared.option.Option.{Option}
use Rattle.std.specs.Str.{bytes_eq}
use Rattle.std.specs.Io.KnownBytes.{Consumes}
use Rattle.std.proofs.lemmas.Bool.{cases_lt}
use Rattle.std.proofs.lemmas.Bool.Decides.{nat_tests}
use Rattle.std.proofs.lemmas.List.{drop-append-le, drop-take, drop_at, length-drop, length-take-le, take-append-le, take_at, take-take}
use Rattle.std.proofs.Math.Seq.{take-append-add}
use Rattle.ossl_base.proofs.Streams.{Consumes-append}
use Rattle.ossl_aes.specs.Cipher.{encrypted, decrypted}
use Rattle.ossl_modes.specs.declared.kinds.FinishRefused.{FinishRefused}
use Rattle.ossl_base.specs.Whole.{AppendsPrefix}
use Rattle.ossl_salted.specs.declared.end.End.{End}
use Rattle.ossl_salted.specs.declared.end.End.TheVariants.{Done, Usage, Unread, Unwritten, Header, FinalBlock, TooLong, NoMemory}
use Rattle.ossl_salted.specs.Course.{Due, Ending, IsInput, Runs, decryption_due, decryption_status, decryption_text, due_by, limited, most_bytes}
use Rattle.ossl_salted.specs.Ends.{status_of}
use Rattle.ossl_salted.specs.File.{Fault, body_in, decrypted_or_fault, decryption, final_block, header, is_salted, key_and_iv, key_of, magic, salt_in, unchecked, unsealed, unsealed_unchecked}
use Rattle.ossl_salted.specs.Flow.{aes_due, cbc_due, status_with, text_with}
use Rattle.ossl_salted.specs.Header.{HasHeader, HasNone, salt_after}
use Rattle.ossl_salted.specs.Outside.{Reading, ReadFailed, Writing}
use Rattle.ossl_salted.proofs.Flows.{AppendsPrefix-none, ended_rest, input_is, rest_of}

is_left : (left : Option (List ℕ)) → IsInput left (rest_of left)
is_left None = tt
is_left (Some bs) = refl

-- nothing is written
pub nothing_written : (k : Writing) (w : List ℕ) → k.taken' ≡ k.taken → AppendsPrefix k.taken k.taken' w
nothing_written k w e = let P : Option (List ℕ) → Type 0 = λ t. AppendsPrefix k.taken t w in subst P (sym e) (AppendsPrefix-none k.taken w)

-- a run that ends before it writes
pub runs_nothing : (due : List ℕ → Due) (status : ℕ) (s : Reading) (k : Writing) → k.taken' ≡ k.taken → ((status ≡ 3) × ReadFailed s) ⊎ (status ≡ 9)
    → Runs due status s k
runs_nothing due status s k same h = record {
  input = rest_of s.left;
  is_input = is_left s.left;
  ending = record {
    ends = elim h [ inl x ↦ inr (inl x) | inr x ↦ inr (inr (inr x)) ];
    all = λ e. absurd (elim h [ inl x ↦ omega (arith, e, x.0) | inr x ↦ omega (arith, e, x) ]);
    part = nothing_written k (due (rest_of s.left)).text same;
    unwritten = λ e f. elim h [ inl x ↦ omega (arith, f, x.0) | inr x ↦ omega (arith, f, x) ];
  };
  ended = λ e. absurd (elim h [ inl x ↦ omega (arith, e, x.0) | inr x ↦ omega (arith, e, x) ]);
}

-- ---- files without a header

short : (input : List ℕ) → length input < 16 → is_salted input ≡ false
short input h = let t : nat_le 16 (length input) ≡ false = grind (arith, nat_tests) in rw t refl

other_magic : (head : List ℕ) → salt_after head ≡ Err Header → bytes_eq (take 8 head) magic ≡ false
other_magic head =
    elim (bytes_eq (take 8 head) magic) as (λ t. (if t then Ok (drop 8 head) else Err Header) ≡ Err Header → t ≡ false) [
      | true ↦ λ e. cc e
      | false ↦ λ e. refl
    ]

no_magic : (head rest : List ℕ) → length head ≡ 16 → salt_after head ≡ Err Header → is_salted (head ++ rest) ≡ false
no_magic head rest len e =
    let front : take 8 (head ++ rest) ≡ take 8 head = take-append-le 8 head rest (omega (arith, len)) in
    let t : nat_le 16 (length (head ++ rest)) ≡ true = grind (arith, nat_tests, length-append head rest, len) in
    rw (t, front, other_magic head e) refl

-- a file that is refused by its header
refused_due : (password input : List ℕ) (rounds bits : ℕ) → is_salted input ≡ false → decryption_due password input rounds bits ≡ record { status = 5; text = [] }
refused_due password input rounds bits e =
    let bad : unsealed input password rounds bits ≡ Err header = rw e refl in
    let D : Result (List ℕ) Fault → Due = λ u. record { status = decryption_status u input; text = decryption_text u (unsealed_unchecked input password rounds bits) } in
    ap D bad

runs_refused : (password input : List ℕ) (rounds bits : ℕ) (s : Reading) (k : Writing) → k.taken' ≡ k.taken → IsInput s.left input → is_salted input ≡ false
    → Runs (λ text. decryption_due password text rounds bits) 5 s k
runs_refused password input rounds bits s k same is e =
    let P : Due → Type 0 = λ u. Ending u 5 s k in
    record {
      input = input;
      is_input = is;
      ending = subst P (sym (refused_due password input rounds bits e)) (record {
        ends = inl refl;
        all = λ z. absurd (omega (arith, z));
        part = nothing_written k [] same;
        unwritten = λ x y. omega (arith, y);
      });
      ended = λ z. absurd (omega (arith, z));
    }

pub runs_none : (password : List ℕ) (rounds bits : ℕ) (s : Reading) (k : Writing) (end : End) → k.taken' ≡ k.taken → HasNone s end
    → Runs (λ text. decryption_due password text rounds bits) (status_of end) s k
runs_none password rounds bits s k Unread same h = runs_nothing (λ text. decryption_due password text rounds bits) 3 s k same (inl (refl, h.cause))
runs_none password rounds bits s k Header same h =
    let input : List ℕ = h.head ++ rest_of s.left' in
    let bad : is_salted input ≡ false = elim h.cause [
      | inl x ↦ short input (omega (arith, x.0, length-append h.head (rest_of s.left'), ap length (ended_rest s.left' x.1)))
      | inr x ↦ no_magic h.head (rest_of s.left') x.0 x.1
    ] in
    runs_refused password input rounds bits s k same (input_is s.left s.left' h.head h.consumes) bad
runs_none password rounds bits s k Done same h = absurd h.cause
runs_none password rounds bits s k Usage same h = absurd h.cause
runs_none password rounds bits s k Unwritten same h = absurd h.cause
runs_none password rounds bits s k FinalBlock same h = absurd h.cause
runs_none password rounds bits s k TooLong same h = absurd h.cause
runs_none password rounds bits s k NoMemory same h = absurd h.cause

-- ---- what is behind a header

header_is : (head salt : List ℕ) → salt_after head ≡ Ok salt → (bytes_eq (take 8 head) magic ≡ true) × (drop 8 head ≡ salt)
header_is head salt =
    elim (bytes_eq (take 8 head) magic) as (λ t. (if t then Ok (drop 8 head) else Err Header) ≡ Ok salt → (t ≡ true) × (drop 8 head ≡ salt)) [
      | true ↦ λ e. (refl, cc e)
      | false ↦ λ e. cc e
    ]

limit_same : (input body : List ℕ) (status : ℕ) → length input ≡ 16 + length body → limited most_bytes input status ≡ limited (most_bytes - 16) body status
limit_same input body status e =
    elim (cases_lt most_bytes (length input)) [
      | inl more ↦
          let s : nat_lt most_bytes (length input) ≡ true = grind (arith, nat_tests, more) in
          let t : nat_lt (most_bytes - 16) (length body) ≡ true = grind (arith, nat_tests, more, e) in rw (s, t) refl
      | inr less ↦
          let s : nat_lt most_bytes (length input) ≡ false = grind (arith, nat_tests, less) in
          let t : nat_lt (most_bytes - 16) (length body) ≡ false = grind (arith, nat_tests, less, e) in rw (s, t) refl
    ]

-- status and text by an outcome and by a fault
status_same : (o : Result (List ℕ) FinishRefused) (input body : List ℕ) → length input ≡ 16 + length body
    → decryption_status (decrypted_or_fault o) input ≡ limited (most_bytes - 16) body (status_with o)
status_same (Ok p) input body e = limit_same input body 0 e
status_same (Err r) input body e = limit_same input body 6 e

text_same : (o : Result (List ℕ) FinishRefused) (w : List ℕ) → decryption_text (decrypted_or_fault o) w ≡ text_with [] o w
text_same (Ok p) w = refl
text_same (Err r) w = refl

opened_due : (password head body salt : List ℕ) (rounds bits : ℕ) → length head ≡ 16 → salt_after head ≡ Ok salt
    → decryption_due password (head ++ body) rounds bits ≡ aes_due bits (key_and_iv password salt rounds bits) true [] (most_bytes - 16) body
opened_due password head body salt rounds bits len e =
    let input : List ℕ = head ++ body in
    let is = header_is head salt e in
    let front : take 8 input ≡ take 8 head = take-append-le 8 head body (omega (arith, len)) in
    let t : nat_le 16 (length input) ≡ true = grind (arith, nat_tests, length-append head body, len) in
    let salted : is_salted input ≡ true = rw (t, front, is.0) refl in
    let body_is : body_in input ≡ body = drop_at head body 16 len in
    let salt_is : salt_in input ≡ salt =
    ap (take 8) (drop-append-le 8 head body (omega (arith, len))) ∙ take_at (drop 8 head) body 8 (length-drop 8 head ∙ omega (arith, len)) ∙ is.1 in
    let material : List ℕ = key_and_iv password salt rounds bits in
    let outcome = decryption bits material body in
    let whole : List ℕ = unchecked bits material body in
    let size : length input ≡ 16 + length body = omega (arith, length-append head body, len) in
    let opened : unsealed input password rounds bits ≡ decrypted_or_fault outcome = rw (salted, salt_is, body_is) refl in
    let whole_is : unsealed_unchecked input password rounds bits ≡ whole = rw (salt_is, body_is) refl in
    let D : Result (List ℕ) Fault → List ℕ → Due = λ u w. record { status = decryption_status u input; text = decryption_text u w } in
    ap (λ u. D u (unsealed_unchecked input password rounds bits)) opened
    ∙ ap (D (decrypted_or_fault outcome)) whole_is
    ∙ (λ i. record { status = status_same outcome input body size i; text = text_same outcome whole i })

behind : (left left' : Option (List ℕ)) (head body : List ℕ) → Consumes left left' head → IsInput left' body → IsInput left (head ++ body)
behind None left' head body h k = tt
behind (Some x) None head body h k = absurd h
behind (Some x) (Some y) head body h k = h ∙ ap (λ t. head ++ t) k

pub runs_behind : (password salt : List ℕ) (rounds bits status : ℕ) (left mid left' : Option (List ℕ)) (a b c : ℕ) (k : Writing) → HasHeader left mid salt → a ≤ b
    → Runs (aes_due bits (key_and_iv password salt rounds bits) true [] (most_bytes - 16)) status (record { left = mid; left' = left'; faults = b; faults' = c }) k
    → Runs (λ text. decryption_due password text rounds bits) status (record { left = left; left' = left'; faults = a; faults' = c }) k
runs_behind password salt rounds bits status left mid left' a b c k h later runs =
    let s' : Reading = record { left = mid; left' = left'; faults = b; faults' = c } in
    let s : Reading = record { left = left; left' = left'; faults = a; faults' = c } in
    let wider : ReadFailed s' → ReadFailed s = λ x. omega (arith, x, later) in
    let P : Due → Type 0 = λ u. Ending u status s k in
    let old = runs.ending in
    record {
      input = h.head ++ runs.input;
      is_input = behind left mid h.head runs.input h.consumes runs.is_input;
      ending = subst P (sym (opened_due password h.head runs.input salt rounds bits h.len h.is)) (record {
        ends = elim old.ends [
          | inl x ↦ inl x
          | inr (inl x) ↦ inr (inl (x.0, wider x.1))
          | inr (inr (inl x)) ↦ inr (inr (inl x))
          | inr (inr (inr x)) ↦ inr (inr (inr x))
        ];
        all = old.all;
        part = old.part;
        unwritten = old.unwritten;
      });
      ended = runs.ended;
    }

-- ---- key and IV out of the first bytes

pub key_parts : (n : ℕ) (bytes material key iv : List ℕ) → take (n + 16) bytes ≡ material → n + 16 ≤ length bytes → key ≡ take n bytes → iv ≡ take 16 (drop n bytes)
    → (key ≡ take n material) × (iv ≡ drop n material)
key_parts n bytes material key iv is fits is_key is_iv = (
  is_key ∙ sym (take-take n (n + 16) bytes (omega arith)) ∙ ap (take n) is,
  is_iv ∙ sym (drop-take n 16 bytes) ∙ ap (drop n) is,
)

-- a run by another word for what is due
pub runs_by : (f g : List ℕ → Due) (status : ℕ) (s : Reading) (k : Writing) → ((input : List ℕ) → f input ≡ g input) → Runs f status s k → Runs g status s k
runs_by f g status s k e h =
    let P : Due → Type 0 = λ u. Ending u status s k in record { input = h.input; is_input = h.is_input; ending = subst P (e h.input) h.ending; ended = h.ended }

-- AES under a key and an IV out of the first bytes
pub runs_keyed : (bits : ℕ) (bytes iv : List ℕ) (decrypt : Bool) (head : List ℕ) (room status : ℕ) (s : Reading) (k : Writing)
    → bits / 8 + 16 ≤ length bytes → iv ≡ take 16 (drop (bits / 8) bytes)
    → Runs (cbc_due (encrypted (bits / 32) (take (bits / 8) bytes)) (decrypted (bits / 32) (take (bits / 8) bytes)) decrypt iv head room) status s k
    → Runs (aes_due bits (take (bits / 8 + 16) bytes) decrypt head room) status s k
runs_keyed bits bytes iv decrypt head room status s k fits is h =
    let material : List ℕ = take (bits / 8 + 16) bytes in
    let parts = key_parts (bits / 8) bytes material (take (bits / 8) bytes) iv refl fits refl is in
    let P : List ℕ → Type 0 = λ key. Runs (cbc_due (encrypted (bits / 32) key) (decrypted (bits / 32) key) decrypt iv head room) status s k in
    let Q : List ℕ → Type 0 = λ v. Runs (cbc_due (encrypted (bits / 32) (key_of bits material)) (decrypted (bits / 32) (key_of bits material)) decrypt v head room) status s k in
    subst Q parts.1 (subst P parts.0 h)

-- ---- no run ends as if the words were wrong

not_usage : (room : ℕ) (input : List ℕ) (status : ℕ) → (status ≡ 2 → ⊥) → limited room input status ≡ 2 → ⊥
not_usage room input status h =
    elim (nat_lt room (length input)) as (λ t. (if t then 7 else status) ≡ 2 → ⊥) [ true ↦ λ e. omega (arith, e) | false ↦ h ]

decryption_lawful : (u : Result (List ℕ) Fault) (input : List ℕ) → decryption_status u input ≡ 2 → ⊥
decryption_lawful (Ok p) input = not_usage most_bytes input 0 (λ e. omega (arith, e))
decryption_lawful (Err header) input = λ e. omega (arith, e)
decryption_lawful (Err (final_block r)) input = not_usage most_bytes input 6 (λ e. omega (arith, e))

due_status : (salt : Option (List ℕ)) (bits rounds : ℕ) (password input : List ℕ) → (due_by salt bits rounds password input).status ≡ 2 → ⊥
due_status (Some salt) bits rounds password input = not_usage most_bytes input 0 (λ e. omega (arith, e))
due_status None bits rounds password input = decryption_lawful (unsealed input password rounds bits) input

pub runs_lawful : (salt : Option (List ℕ)) (bits rounds : ℕ) (password : List ℕ) (status : ℕ) (s : Reading) (k : Writing)
    → Runs (due_by salt bits rounds password) status s k → status ≡ 2 → ⊥
runs_lawful salt bits rounds password status s k h e =
    elim h.ending.ends [
      | inl x ↦ due_status salt bits rounds password h.input (sym x ∙ e)
      | inr (inl x) ↦ omega (arith, e, x.0)
      | inr (inr (inl x)) ↦ omega (arith, e, x.0)
      | inr (inr (inr x)) ↦ omega (arith, e, x)
    ]

-- ---- headers

-- bytes that are read behind those that were
pub header_more : (a b c : Option (List ℕ)) (head buf rest : List ℕ) (count more : ℕ) → count ≤ length head → more ≤ length buf
    → Consumes a b (take count head) → Consumes b c (take more buf) → Consumes a c (take (count + more) (take count head ++ (buf ++ rest)))
header_more a b c head buf rest count more fits within h k =
    let front : List ℕ = take count head in
    let P : List ℕ → Type 0 = λ t. Consumes a c t in
    let size : length front ≡ count = length-take-le count head fits in
    let e : take (count + more) (front ++ (buf ++ rest)) ≡ front ++ take more buf =
    ap (λ n. take (n + more) (front ++ (buf ++ rest))) (sym size) ∙ take-append-add front (buf ++ rest) more
    ∙ ap (λ t. front ++ t) (take-append-le more buf rest within) in
    subst P (sym e) (Consumes-append a b c front (take more buf) h k)

-- 16 bytes of which the first are others
no_salt_by : (s : Reading) (head : List ℕ) → length head ≡ 16 → Consumes s.left s.left' head → (t : Bool)
    → salt_after head ≡ (if t then Ok (drop 8 head) else Err Header) → IfErr (if t then Ok (drop 8 head) else Err Header) (λ end. HasNone s end)
no_salt_by s head len h true e = tt
no_salt_by s head len h false e = record { head = head; consumes = h; cause = inr (len, e) }

pub no_salt : (s : Reading) (head : List ℕ) → length head ≡ 16 → Consumes s.left s.left' head → IfErr (salt_after head) (λ end. HasNone s end)
no_salt s head len h = no_salt_by s head len h (bytes_eq (take 8 head) magic) refl
