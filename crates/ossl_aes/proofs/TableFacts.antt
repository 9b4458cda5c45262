-- The tables hold what the field gives, at each of the 256 bytes.
use Rattle.std.proofs.Common.{◌≡◌, ℕ, zero, suc, ◌+◌, ◌-◌, ◌*◌, ◌<◌, List, [], ◌∷◌, refl, sym, ap, ◌∙◌, slice_index, get_or, map, take, drop, arith, length}
use Rattle.std.specs.List.{range_with_len}
use Rattle.std.specs.Int.{w32, to_be_bytes}
use Rattle.std.proofs.lemmas.List.{get_or-map, get_or-take, get_or-drop}
use Rattle.std.proofs.lemmas.List.FromFn.{get_or-map-range_with_len}
use Rattle.ossl_aes.specs.declared.tables.TheConstants.{SUB, UNSUB, SUB_WORDS, UNSUB_WORDS, ENC, DEC, ROUND_CONSTANTS}
use Rattle.ossl_aes.specs.Cipher.{scaled, enc_word, dec_word}
use Rattle.ossl_aes.specs.Field.{sub, unsub, times, power, mul, inverse, inv_affine}

-- an entry of a table of a function's values
tabled : {X : Type 0} (t : List X) (f : ℕ → X) (d : X) (n : ℕ) → t ≡ map f (range_with_len 0 n) → (b : ℕ) → b < n → get_or t b d ≡ f b
tabled t f d n e b h = ap (λ (x : List _). get_or x b d) e ∙ get_or-map-range_with_len f 0 n b b d h (omega arith)

sub_table : SUB ≡ map sub (range_with_len 0 256)
unfolding sub times power
sub_table = refl

unsub_table : UNSUB ≡ map unsub (range_with_len 0 256)
unfolding unsub times power
unsub_table = refl

pub sub_at : (b : ℕ) → b < 256 → slice_index SUB b ≡ sub b
sub_at b h = tabled SUB sub 0 256 sub_table b h

pub unsub_at : (b : ℕ) → b < 256 → slice_index UNSUB b ≡ unsub b
unsub_at b h = tabled UNSUB unsub 0 256 unsub_table b h

constant_table : ROUND_CONSTANTS ≡ map (power 2) (range_with_len 0 10)
unfolding times power
constant_table = refl

pub constant_at : (n : ℕ) → n < 10 → slice_index ROUND_CONSTANTS n ≡ power 2 n
constant_at n h = tabled ROUND_CONSTANTS (power 2) 0 10 constant_table n h

undone_table : map (slice_index UNSUB) SUB ≡ map (λ b. b) (range_with_len 0 256)
undone_table = refl

-- the inverse S-box undoes the S-box
pub undone : (b r : ℕ) → b < 256 → r < 256 → r ≡ sub b → unsub r ≡ b
undone b r hb hr e =
    sym (unsub_at r hr) ∙ ap (slice_index UNSUB) (e ∙ sym (sub_at b hb)) ∙ sym (get_or-map (slice_index UNSUB) SUB b 0 0 hb)
    ∙ tabled (map (slice_index UNSUB) SUB) (λ n. n) 0 256 undone_table b hb

-- the bytes of a column m n p q of a matrix times b
abbrev pub part : ℕ → ℕ → ℕ → ℕ → ℕ → List ℕ
part m n p q b = mul m b ∷ mul n b ∷ mul p b ∷ mul q b ∷ []

from_start : (t : List ℕ) (b : ℕ) → slice_index t (0 + b) ≡ slice_index t b
from_start t b = let e : 0 + b ≡ b = omega arith in ap (slice_index t) e

-- the 256 words from the place k of a table on, over the S-box or its inverse
module _ (t box : List ℕ) (k : ℕ) (len : length box ≡ 256) where
  word_from : (b : ℕ) → b < 256 → get_or (take 256 (drop k t)) b 0 ≡ slice_index t (k + b)
  word_from b h = get_or-take 256 (drop k t) b 0 h ∙ get_or-drop k t b 0

  word_in : (m n p q : ℕ) → take 256 (drop k t) ≡ map (scaled m n p q) box → (b : ℕ) → b < 256
      → slice_index t (k + b) ≡ scaled m n p q (slice_index box b)
  word_in m n p q e b h = sym (word_from b h) ∙ ap (λ (x : List ℕ). slice_index x b) e ∙ get_or-map (scaled m n p q) box b 0 0 (omega arith)

  bytes_in : (f : ℕ → List ℕ) → length (take 256 (drop k t)) ≡ 256 → map (to_be_bytes w32) (take 256 (drop k t)) ≡ map f box → (b : ℕ) → b < 256
      → to_be_bytes w32 (slice_index t (k + b)) ≡ f (slice_index box b)
  bytes_in f lent e b h =
      ap (to_be_bytes w32) (sym (word_from b h)) ∙ sym (get_or-map (to_be_bytes w32) (take 256 (drop k t)) b 0 [] (omega arith))
      ∙ ap (λ (x : List (List ℕ)). get_or x b []) e ∙ get_or-map f box b 0 [] (omega arith)

enc0_word : (b : ℕ) → b < 256 → slice_index ENC b ≡ scaled 2 1 1 3 (sub b)
unfolding times
enc0_word b h = sym (from_start ENC b) ∙ word_in ENC SUB 0 refl 2 1 1 3 refl b h ∙ ap (scaled 2 1 1 3) (sub_at b h)

pub enc0_bytes : (b : ℕ) → b < 256 → to_be_bytes w32 (slice_index ENC b) ≡ part 2 1 1 3 (sub b)
unfolding times
enc0_bytes b h = ap (to_be_bytes w32) (sym (from_start ENC b)) ∙ bytes_in ENC SUB 0 refl (part 2 1 1 3) refl refl b h ∙ ap (part 2 1 1 3) (sub_at b h)

enc1_word : (b : ℕ) → b < 256 → slice_index ENC (256 + b) ≡ scaled 3 2 1 1 (sub b)
unfolding times
enc1_word b h = word_in ENC SUB 256 refl 3 2 1 1 refl b h ∙ ap (scaled 3 2 1 1) (sub_at b h)

pub enc1_bytes : (b : ℕ) → b < 256 → to_be_bytes w32 (slice_index ENC (256 + b)) ≡ part 3 2 1 1 (sub b)
unfolding times
enc1_bytes b h = bytes_in ENC SUB 256 refl (part 3 2 1 1) refl refl b h ∙ ap (part 3 2 1 1) (sub_at b h)

enc2_word : (b : ℕ) → b < 256 → slice_index ENC (512 + b) ≡ scaled 1 3 2 1 (sub b)
unfolding times
enc2_word b h = word_in ENC SUB 512 refl 1 3 2 1 refl b h ∙ ap (scaled 1 3 2 1) (sub_at b h)

pub enc2_bytes : (b : ℕ) → b < 256 → to_be_bytes w32 (slice_index ENC (512 + b)) ≡ part 1 3 2 1 (sub b)
unfolding times
enc2_bytes b h = bytes_in ENC SUB 512 refl (part 1 3 2 1) refl refl b h ∙ ap (part 1 3 2 1) (sub_at b h)

enc3_word : (b : ℕ) → b < 256 → slice_index ENC (768 + b) ≡ scaled 1 1 3 2 (sub b)
unfolding times
enc3_word b h = word_in ENC SUB 768 refl 1 1 3 2 refl b h ∙ ap (scaled 1 1 3 2) (sub_at b h)

pub enc3_bytes : (b : ℕ) → b < 256 → to_be_bytes w32 (slice_index ENC (768 + b)) ≡ part 1 1 3 2 (sub b)
unfolding times
enc3_bytes b h = bytes_in ENC SUB 768 refl (part 1 1 3 2) refl refl b h ∙ ap (part 1 1 3 2) (sub_at b h)

-- the words of each column
pub enc_words : (c b : ℕ) → c < 4 → b < 256 → slice_index ENC (256 * c + b) ≡ enc_word c b
enc_words zero b less h = from_start ENC b ∙ enc0_word b h
enc_words (suc zero) b less h = enc1_word b h
enc_words (suc (suc zero)) b less h = enc2_word b h
enc_words (suc (suc (suc zero))) b less h = enc3_word b h
enc_words (suc (suc (suc (suc c)))) b less h = absurd (omega arith)

dec0_word : (b : ℕ) → b < 256 → slice_index DEC b ≡ scaled 14 9 13 11 (unsub b)
unfolding times
dec0_word b h = sym (from_start DEC b) ∙ word_in DEC UNSUB 0 refl 14 9 13 11 refl b h ∙ ap (scaled 14 9 13 11) (unsub_at b h)

pub dec0_bytes : (b : ℕ) → b < 256 → to_be_bytes w32 (slice_index DEC b) ≡ part 14 9 13 11 (unsub b)
unfolding times
dec0_bytes b h = ap (to_be_bytes w32) (sym (from_start DEC b)) ∙ bytes_in DEC UNSUB 0 refl (part 14 9 13 11) refl refl b h ∙ ap (part 14 9 13 11) (unsub_at b h)

dec1_word : (b : ℕ) → b < 256 → slice_index DEC (256 + b) ≡ scaled 11 14 9 13 (unsub b)
unfolding times
dec1_word b h = word_in DEC UNSUB 256 refl 11 14 9 13 refl b h ∙ ap (scaled 11 14 9 13) (unsub_at b h)

pub dec1_bytes : (b : ℕ) → b < 256 → to_be_bytes w32 (slice_index DEC (256 + b)) ≡ part 11 14 9 13 (unsub b)
unfolding times
dec1_bytes b h = bytes_in DEC UNSUB 256 refl (part 11 14 9 13) refl refl b h ∙ ap (part 11 14 9 13) (unsub_at b h)

dec2_word : (b : ℕ) → b < 256 → slice_index DEC (512 + b) ≡ scaled 13 11 14 9 (unsub b)
unfolding times
dec2_word b h = word_in DEC UNSUB 512 refl 13 11 14 9 refl b h ∙ ap (scaled 13 11 14 9) (unsub_at b h)

pub dec2_bytes : (b : ℕ) → b < 256 → to_be_bytes w32 (slice_index DEC (512 + b)) ≡ part 13 11 14 9 (unsub b)
unfolding times
dec2_bytes b h = bytes_in DEC UNSUB 512 refl (part 13 11 14 9) refl refl b h ∙ ap (part 13 11 14 9) (unsub_at b h)

dec3_word : (b : ℕ) → b < 256 → slice_index DEC (768 + b) ≡ scaled 9 13 11 14 (unsub b)
unfolding times
dec3_word b h = word_in DEC UNSUB 768 refl 9 13 11 14 refl b h ∙ ap (scaled 9 13 11 14) (unsub_at b h)

pub dec3_bytes : (b : ℕ) → b < 256 → to_be_bytes w32 (slice_index DEC (768 + b)) ≡ part 9 13 11 14 (unsub b)
unfolding times
dec3_bytes b h = bytes_in DEC UNSUB 768 refl (part 9 13 11 14) refl refl b h ∙ ap (part 9 13 11 14) (unsub_at b h)

-- the words of each column
pub dec_words : (c b : ℕ) → c < 4 → b < 256 → slice_index DEC (256 * c + b) ≡ dec_word c b
dec_words zero b less h = from_start DEC b ∙ dec0_word b h
dec_words (suc zero) b less h = dec1_word b h
dec_words (suc (suc zero)) b less h = dec2_word b h
dec_words (suc (suc (suc zero))) b less h = dec3_word b h
dec_words (suc (suc (suc (suc c)))) b less h = absurd (omega arith)

-- a byte in one of the four places of a word
abbrev pub placed_0 : ℕ → List ℕ
placed_0 x = x ∷ 0 ∷ 0 ∷ 0 ∷ []

abbrev pub placed_1 : ℕ → List ℕ
placed_1 x = 0 ∷ x ∷ 0 ∷ 0 ∷ []

abbrev pub placed_2 : ℕ → List ℕ
placed_2 x = 0 ∷ 0 ∷ x ∷ 0 ∷ []

abbrev pub placed_3 : ℕ → List ℕ
placed_3 x = 0 ∷ 0 ∷ 0 ∷ x ∷ []

pub sub0_bytes : (b : ℕ) → b < 256 → to_be_bytes w32 (slice_index SUB_WORDS b) ≡ placed_0 (sub b)
sub0_bytes b h = ap (to_be_bytes w32) (sym (from_start SUB_WORDS b)) ∙ bytes_in SUB_WORDS SUB 0 refl placed_0 refl refl b h ∙ ap placed_0 (sub_at b h)

pub sub1_bytes : (b : ℕ) → b < 256 → to_be_bytes w32 (slice_index SUB_WORDS (256 + b)) ≡ placed_1 (sub b)
sub1_bytes b h = bytes_in SUB_WORDS SUB 256 refl placed_1 refl refl b h ∙ ap placed_1 (sub_at b h)

pub sub2_bytes : (b : ℕ) → b < 256 → to_be_bytes w32 (slice_index SUB_WORDS (512 + b)) ≡ placed_2 (sub b)
sub2_bytes b h = bytes_in SUB_WORDS SUB 512 refl placed_2 refl refl b h ∙ ap placed_2 (sub_at b h)

pub sub3_bytes : (b : ℕ) → b < 256 → to_be_bytes w32 (slice_index SUB_WORDS (768 + b)) ≡ placed_3 (sub b)
sub3_bytes b h = bytes_in SUB_WORDS SUB 768 refl placed_3 refl refl b h ∙ ap placed_3 (sub_at b h)

pub unsub0_bytes : (b : ℕ) → b < 256 → to_be_bytes w32 (slice_index UNSUB_WORDS b) ≡ placed_0 (unsub b)
unsub0_bytes b h = ap (to_be_bytes w32) (sym (from_start UNSUB_WORDS b)) ∙ bytes_in UNSUB_WORDS UNSUB 0 refl placed_0 refl refl b h ∙ ap placed_0 (unsub_at b h)

pub unsub1_bytes : (b : ℕ) → b < 256 → to_be_bytes w32 (slice_index UNSUB_WORDS (256 + b)) ≡ placed_1 (unsub b)
unsub1_bytes b h = bytes_in UNSUB_WORDS UNSUB 256 refl placed_1 refl refl b h ∙ ap placed_1 (unsub_at b h)

pub unsub2_bytes : (b : ℕ) → b < 256 → to_be_bytes w32 (slice_index UNSUB_WORDS (512 + b)) ≡ placed_2 (unsub b)
unsub2_bytes b h = bytes_in UNSUB_WORDS UNSUB 512 refl placed_2 refl refl b h ∙ ap placed_2 (unsub_at b h)

pub unsub3_bytes : (b : ℕ) → b < 256 → to_be_bytes w32 (slice_index UNSUB_WORDS (768 + b)) ≡ placed_3 (unsub b)
unsub3_bytes b h = bytes_in UNSUB_WORDS UNSUB 768 refl placed_3 refl refl b h ∙ ap placed_3 (unsub_at b h)

inverse_table : map (λ b. inv_affine (sub b)) (range_with_len 0 256) ≡ map inverse (range_with_len 0 256)
unfolding sub times power
inverse_table = refl

-- the S-box's inverse map brings a byte's image to the byte's inverse
pub inverse_at : (b : ℕ) → b < 256 → inv_affine (sub b) ≡ inverse b
inverse_at b h =
    sym (get_or-map-range_with_len (λ c. inv_affine (sub c)) 0 256 b b 0 h (omega arith))
    ∙ tabled (map (λ c. inv_affine (sub c)) (range_with_len 0 256)) inverse 0 256 inverse_table b h

products_table : map (λ n. mul (n + 1) (inverse (n + 1))) (range_with_len 0 255) ≡ map (λ n. 1) (range_with_len 0 255)
unfolding times power
products_table = refl

-- a byte times its inverse is one, computed for each of the 255 that have one
pub product_at : (b : ℕ) → 0 < b → b < 256 → mul b (inverse b) ≡ 1
product_at b some h =
    let back : b - 1 + 1 ≡ b = omega arith in
    ap (λ (c : ℕ). mul c (inverse c)) (sym back)
    ∙ sym (get_or-map-range_with_len (λ n. mul (n + 1) (inverse (n + 1))) 0 255 (b - 1) (b - 1) 0 (omega arith) (omega arith))
    ∙ tabled (map (λ n. mul (n + 1) (inverse (n + 1))) (range_with_len 0 255)) (λ n. 1) 0 255 products_table (b - 1) (omega arith)
