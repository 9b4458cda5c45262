-- What is timed of AES. Its key is as many bytes counting up from 0 as it has, and its IV and first
-- block are 16 such bytes, GCM's IV 12.
use Rattle.std.specs.Prelude.{ℕ, zero, suc, ◌*◌, ◌/◌, List, [], length, Bool, false, if◌then◌else◌, Result, Ok, Err}
use Rattle.ossl_aes.specs.Cipher.{encrypted, decrypted}
use Rattle.ossl_modes.specs.declared.kinds.ModeKind.{ModeKind}
use Rattle.ossl_modes.specs.Modes.{outcome, whole_blocks}
use Rattle.ossl_gcm.specs.Gcm.{gcm}
use Rattle.ossl_gcm.specs.Outcome.{early}
use Rattle.ossl_speed.specs.declared.algorithm.KeySize.{KeySize}
use Rattle.ossl_speed.specs.declared.algorithm.KeySize.TheVariants.{Bits128, Bits192, Bits256}
use Rattle.ossl_speed.specs.Message.{message}

-- the words of a key
abbrev pub words_of : KeySize → ℕ
words_of Bits128 = 4
words_of Bits192 = 6
words_of Bits256 = 8

-- the block function with the key of so many words, and its inverse
abbrev pub enc : ℕ → List ℕ → List ℕ
enc nk block = encrypted nk (message (4 * nk)) block

abbrev pub dec : ℕ → List ℕ → List ℕ
dec nk block = decrypted nk (message (4 * nk)) block

-- a function applied n times
unfoldable pub repeated : (List ℕ → List ℕ) → ℕ → List ℕ → List ℕ
repeated f zero block = block
repeated f (suc n) block = f (repeated f n block)

-- the text of an outcome; where it is a refusal, that of the whole blocks, or what was given early
abbrev pub text_or : {E : Type 0} → Result (List ℕ) E → List ℕ → List ℕ
text_or (Ok text) early = text
text_or (Err _) early = early

-- a message sealed by GCM, without additional data
abbrev pub gcm_text : (List ℕ → List ℕ) → List ℕ → List ℕ
gcm_text e m = text_or (gcm e (message 12) [] false m) (early e (message 12) false m)

module _ (e d : List ℕ → List ℕ) where
  -- the text of a message in a mode without padding
  abbrev pub mode_text : ModeKind → Bool → List ℕ → List ℕ
  mode_text kind decrypt m =
      text_or (outcome e d kind decrypt false (message 16) m) (whole_blocks e d kind decrypt (message 16) m)

  -- the block function alone, once for each block of a message
  abbrev pub chain_end : Bool → List ℕ → List ℕ
  chain_end decrypt m = repeated (if decrypt then d else e) (length m / 16) (message 16)
