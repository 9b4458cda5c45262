-- Galois/Counter mode (SP 800-38D) with a tag of 16 bytes, by a cipher's encryption e of a block of 16 bytes. A text is
-- read in blocks of 16 bytes.
use Rattle.std.specs.Prelude.{ℕ, ◌+◌, ◌-◌, ◌*◌, ◌/◌, ◌%◌, ◌^◌, List, [], ◌∷◌, ◌++◌, length, take, drop, replicate, Bool}
use Rattle.std.specs.Prelude.{nat_lt, nat_le, nat_eq, ◌&&◌, if◌then◌else◌, Result, Ok, Err}
use Rattle.std.specs.Int.{w32, w64, w128, from_be_bytes, to_be_bytes}
use Rattle.std.specs.Str.{bytes_eq}
use Rattle.ossl_aes.specs.Cipher.{add}
use Rattle.ossl_modes.specs.Steps.{stepped, value_by}
use Rattle.ossl_ghash.specs.Ghash.{ghash, filled}
use Rattle.ossl_gcm.specs.declared.kinds.GcmRefused.{GcmRefused}
use Rattle.ossl_gcm.specs.declared.kinds.GcmRefused.TheVariants.{BadTag, StreamEnd}

-- the block with its last four bytes, a big-endian number, increased by 1 modulo 2 ^ 32 (SP 800-38D, 6.2)
abbrev pub next_counter : List ℕ → List ℕ
next_counter v = take 12 v ++ to_be_bytes w32 ((from_be_bytes w32 (drop 12 v) + 1) % 2 ^ 32)

-- the first counter block J0 of an IV, under the hash subkey h (SP 800-38D, 7.1, step 2)
unfoldable pub first_counter : ℕ → List ℕ → List ℕ
first_counter h iv =
    if nat_eq (length iv) 12 then iv ++ 0 ∷ 0 ∷ 0 ∷ 1 ∷ []
    else to_be_bytes w128 (ghash h (filled iv ++ (replicate 8 0 ++ to_be_bytes w64 (8 * length iv))))

-- the bit lengths of the additional data and of the ciphertext (SP 800-38D, 7.1, step 5)
abbrev pub lengths : ℕ → ℕ → List ℕ
lengths aad ciphertext = to_be_bytes w64 (aad * 8 % 2 ^ 64) ++ to_be_bytes w64 (ciphertext * 8 % 2 ^ 64)

-- what a text of n bytes becomes, or the refusal where that is more than 2 ^ 32 - 2 blocks (SP 800-38D, 5.2.1.1)
abbrev pub if_fits : ℕ → Result (List ℕ) GcmRefused → Result (List ℕ) GcmRefused
if_fits n r = if nat_lt (16 * (2 ^ 32 - 2)) n then Err (StreamEnd (2 ^ 32 - 2)) else r

module _ (e : List ℕ → List ℕ) where
  -- the hash subkey: the block of zeros encrypted (SP 800-38D, 7.1, step 1)
  unfoldable pub subkey : ℕ
  subkey = from_be_bytes w128 (e (replicate 16 0))

  -- the counter block before that of the first block of a text
  abbrev pub start : List ℕ → List ℕ
  start iv = first_counter subkey iv

  -- the first n blocks xored with the cipher's output at the counter block v and those after it, and the counter block
  -- after those (SP 800-38D, 6.5)
  abbrev pub blocks_from : ℕ → List ℕ → List ℕ → List ℕ
  blocks_from n v bs = stepped (λ w b. add b (e w)) (λ w b. next_counter w) n v bs

  abbrev pub counter_after : ℕ → List ℕ → List ℕ → List ℕ
  counter_after n v bs = value_by (λ w b. add b (e w)) (λ w b. next_counter w) n v bs

  -- a whole text, whose last block may be short (SP 800-38D, 6.5)
  abbrev pub counted : List ℕ → List ℕ → List ℕ
  counted v bs = blocks_from ((length bs + 15) / 16) v bs

  -- the tag of additional data a and a ciphertext c, j being the first counter block (SP 800-38D, 7.1, steps 4 to 6)
  unfoldable pub tag : List ℕ → List ℕ → List ℕ → List ℕ
  tag j a c = add (e j) (to_be_bytes w128 (ghash subkey (filled a ++ (filled c ++ lengths (length a) (length c)))))

  -- encryption: the ciphertext and after it the tag (SP 800-38D, 7.1)
  abbrev pub gcm_seal : List ℕ → List ℕ → List ℕ → Result (List ℕ) GcmRefused
  gcm_seal iv a p = let c = counted (next_counter (start iv)) p in if_fits (length c) (Ok (c ++ tag (start iv) a c))

  -- decryption of a ciphertext and its tag (SP 800-38D, 7.2)
  abbrev pub gcm_open : List ℕ → List ℕ → List ℕ → Result (List ℕ) GcmRefused
  gcm_open iv a t =
      let c = take (length t - 16) t in
      if_fits (length c)
      (if nat_le 16 (length t) && bytes_eq (drop (length t - 16) t) (tag (start iv) a c)
      then Ok (counted (next_counter (start iv)) c) else Err BadTag)

  -- either
  abbrev pub gcm : List ℕ → List ℕ → Bool → List ℕ → Result (List ℕ) GcmRefused
  gcm iv a decrypt t = if decrypt then gcm_open iv a t else gcm_seal iv a t
