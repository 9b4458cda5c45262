-- The key schedule goes on from turn to turn, and a stream from byte to byte.
use Rattle.std.proofs.Common.{◌≡◌, ℕ, ◌+◌, ◌%◌, ◌<◌, List, [], ◌∷◌, ◌++◌, length, get_or, slice_index, set, take, drop, bit_xor, sym, ap, ◌∙◌, append_assoc, add-one, arith}
use Rattle.std.proofs.Math.Nat.{suc-mod}
use Rattle.std.specs.List.{range_with_len, swap}
use Rattle.std.proofs.lemmas.List.{drop_more, take_more_set, drop-set-lt, append-nil, map-id}
use Rattle.std.proofs.lemmas.List.FromFn.{map-range_with_len_more}
use Rattle.ossl_legacy.specs.Rc4State.{Rc4State, advanced, first_of, key_byte, scheduled, scheduled_at, text_of}

-- one number more in a list of numbers that count up
pub counted_more : (n : ℕ) → range_with_len 0 (n + 1) ≡ range_with_len 0 n ++ n ∷ []
counted_more n =
    sym (map-id (range_with_len 0 (n + 1)))
    ∙ map-range_with_len_more (λ (k : ℕ). k) 0 n n (omega arith)
    ∙ ap (λ (x : List ℕ). x ++ n ∷ []) (map-id (range_with_len 0 n))

-- one turn more of the key schedule
pub scheduled_more : (key s t : List ℕ) (i j at : ℕ) → at ≡ i % length key → (s, j) ≡ scheduled key i
    → t ≡ swap s i (((j + slice_index s i) % 256 + slice_index key at) % 256)
    → (t, ((j + slice_index s i) % 256 + slice_index key at) % 256) ≡ scheduled key (i + 1)
unfolding scheduled
scheduled_more key s t i j at place before after =
    let carry : ((j + slice_index s i) % 256 + slice_index key at) % 256
    ≡ (j + slice_index s i + slice_index key at) % 256 = omega arith in
    rw (after, carry, place, add-one) (ap (scheduled_at key i) before)

-- the place of the turn after it in the key
pub place_more : (i at n : ℕ) → at ≡ i % n → (at + 1) % n ≡ (i + 1) % n
place_more i at n place =
    rw (place, add-one, add-one) (sym (suc-mod i n))

-- a state by its parts
abbrev pub state_of : List ℕ → ℕ → ℕ → Rc4State
state_of table i j = record { table = table; i = i; j = j }

-- the state for the next byte, with S[i] of it at hand
pub advanced_by : (table new : List ℕ) (i j first : ℕ) → first ≡ first_of (state_of table i j)
    → new ≡ swap table ((i + 1) % 256) ((j + first) % 256) → state_of new ((i + 1) % 256) ((j + first) % 256) ≡ advanced (state_of table i j)
advanced_by table new i j first is exchanged =
    ap (λ (s : List ℕ). state_of s ((i + 1) % 256) ((j + first) % 256)) exchanged
    ∙ ap (λ (f : ℕ). state_of (swap table ((i + 1) % 256) ((j + f) % 256)) ((i + 1) % 256) ((j + f) % 256)) is

-- one byte further in a text that is xored in place
pub text_more : (state next : Rc4State) (text rest : List ℕ) (i key : ℕ) → i < length text → next ≡ advanced state → key ≡ key_byte next
    → take i text ++ text_of state (drop i text ++ rest)
    ≡ take (i + 1) (set text i (bit_xor (get_or text i 0) key)) ++ text_of next (drop (i + 1) (set text i (bit_xor (get_or text i 0) key)) ++ rest)
unfolding text_of
text_more state next text rest i key h follows is =
    let y = bit_xor (get_or text i 0) (key_byte (advanced state)) in
    rw (is, follows, take_more_set text i y h, drop-set-lt (i + 1) text i y (omega arith), drop_more text i 0 h)
    (sym (append_assoc (take i text) (y ∷ []) (text_of (advanced state) (drop (i + 1) text ++ rest))))

-- a piece gives its own text, whatever comes yet
pub text_whole : (state next : Rc4State) (piece new : List ℕ)
    → ((rest : List ℕ) → text_of state (piece ++ rest) ≡ new ++ text_of next rest) → new ≡ text_of state piece
unfolding text_of
text_whole state next piece new goes =
    sym (append-nil new) ∙ sym (goes []) ∙ ap (text_of state) (append-nil piece)
