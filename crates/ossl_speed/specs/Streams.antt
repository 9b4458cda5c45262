-- The texts of the stream ciphers and of modes, and how a cipher stands after some bytes, by the text yet to come.
use Rattle.std.specs.Prelude.{◌≡◌, ℕ, List, ◌++◌}
use Rattle.ossl_chacha.specs.KeyStream.{ChaChaState, text_of}
use Rattle.ossl_legacy.specs.Rc4State.{Rc4State}
use Rattle.ossl_legacy.specs.Rc4State as R
use Rattle.ossl_aes.specs.declared.block.Block.{Ghosts}
use Rattle.ossl_modes.specs.declared.state.Mode.{Mode}
use Rattle.ossl_modes.specs.Run.{outcome_of, whole_blocks_of}
use Rattle.ossl_gcm.specs.declared.state.Gcm.{Gcm}
use Rattle.ossl_gcm.specs.Outcome as G
use Rattle.ossl_speed.specs.Aes.{text_or}
use Rattle.ossl_speed.specs.Values.{last}

-- the text that a ChaCha20 stream gives of the bytes that come yet
abbrev pub chacha_text : ChaChaState → List ℕ → List ℕ
chacha_text state bytes = text_of state bytes

-- the text that an RC4 stream gives of the bytes that come yet
abbrev pub rc4_text : Rc4State → List ℕ → List ℕ
rc4_text state bytes = R.text_of state bytes

-- the text that a mode gives of the bytes that come yet; where their end is refused, of their whole blocks
abbrev pub text_of_mode : {C : Type 0} {g : Ghosts C} → Mode C g → List ℕ → List ℕ
text_of_mode mode bytes = text_or (outcome_of mode bytes) (whole_blocks_of mode bytes)

-- the text that GCM gives of the bytes that come yet; where their end is refused, what it gives early
abbrev pub text_of_gcm : {C : Type 0} → (C → List ℕ → List ℕ) → Gcm C → List ℕ → List ℕ
text_of_gcm enc text bytes = text_or (G.outcome_of enc text bytes) (G.early_of enc text bytes)

-- with the bytes x put in front of whatever comes yet, the text before, given and yet to come, ends as the text after
abbrev pub IsSealingFed : (List ℕ → List ℕ) → List ℕ → List ℕ → (List ℕ → List ℕ) → List ℕ → Type 0
IsSealingFed before out x after new =
    (rest : List ℕ) → last 64 (out ++ before (x ++ rest)) ≡ last 64 (new ++ after rest)
