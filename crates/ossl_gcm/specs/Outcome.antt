-- A text in either direction on its way.
use Rattle.std.specs.Prelude.{◌≡◌, ℕ, ◌≤◌, List, [], ◌++◌, length, Bool, if◌then◌else◌, Result}
use Rattle.ossl_gcm.specs.Gcm.{next_counter, start, counted, gcm}
use Rattle.ossl_gcm.specs.Held.{text_of}
use Rattle.ossl_gcm.specs.Run.{ciphertext_of, sealed_of, opened, before, RunsTo}
use Rattle.ossl_gcm.specs.declared.kinds.GcmRefused.{GcmRefused}
use Rattle.ossl_gcm.specs.declared.state.Gcm.{Gcm}
use Rattle.ossl_gcm.specs.declared.state.Side.{Side}
use Rattle.ossl_gcm.specs.declared.state.Side.TheVariants.{Encryption, Decryption}

-- the outcome of what was not given yet, where the bytes bs come yet; enc is what each cipher makes of a block
abbrev pub side_outcome : {C : Type 0} → (C → List ℕ → List ℕ) → Side C → List ℕ → Result (List ℕ) GcmRefused
side_outcome enc (Encryption s) bs = sealed_of enc s bs
side_outcome enc (Decryption o) bs = opened enc o.stream (text_of o ++ bs)

abbrev pub outcome_of : {C : Type 0} → (C → List ℕ → List ℕ) → Gcm C → List ℕ → Result (List ℕ) GcmRefused
outcome_of enc text bs = side_outcome enc text.side bs

-- what may be given of it before the end: of an encryption its ciphertext, of a decryption nothing
abbrev pub side_early : {C : Type 0} → (C → List ℕ → List ℕ) → Side C → List ℕ → List ℕ
side_early enc (Encryption s) bs = ciphertext_of enc s bs
side_early enc (Decryption o) bs = []

abbrev pub early_of : {C : Type 0} → (C → List ℕ → List ℕ) → Gcm C → List ℕ → List ℕ
early_of enc text bs = side_early enc text.side bs

-- the same of a whole text
abbrev pub early : (List ℕ → List ℕ) → List ℕ → Bool → List ℕ → List ℕ
early e iv decrypt bs = if decrypt then [] else counted e (next_counter (start e iv)) bs

-- a text at its start: whatever bytes come, its outcome and what it may give early are those of the whole text
abbrev pub StartsWhole : {C : Type 0} → (C → List ℕ → List ℕ) → C → List ℕ → List ℕ → Bool → Gcm C → Type 0
StartsWhole enc cipher iv a decrypt text =
    (bytes : List ℕ) → outcome_of enc text bytes ≡ gcm (enc cipher) iv a decrypt bytes

abbrev pub StartsEarly : {C : Type 0} → (C → List ℕ → List ℕ) → C → List ℕ → Bool → Gcm C → Type 0
StartsEarly enc cipher iv decrypt text =
    (bytes : List ℕ) → early_of enc text bytes ≡ early (enc cipher) iv decrypt bytes

-- with the bytes put in front of whatever comes yet, what a text gave and gives yet stays: its outcome, and what it may
-- give early
abbrev pub KeepsOutcome : {C : Type 0} → (C → List ℕ → List ℕ) → Gcm C → List ℕ → List ℕ → Gcm C → List ℕ → Type 0
KeepsOutcome enc old was bytes new is =
    (rest : List ℕ) → before was (outcome_of enc old (bytes ++ rest)) ≡ before is (outcome_of enc new rest)

abbrev pub KeepsEarly : {C : Type 0} → (C → List ℕ → List ℕ) → Gcm C → List ℕ → List ℕ → Gcm C → List ℕ → Type 0
KeepsEarly enc old was bytes new is =
    (rest : List ℕ) → was ++ early_of enc old (bytes ++ rest) ≡ is ++ early_of enc new rest

-- a text that goes on as before
abbrev pub IsAsBefore : {C : Type 0} → (C → List ℕ → List ℕ) → Gcm C → Gcm C → Type 0
IsAsBefore enc old new =
    ((rest : List ℕ) → outcome_of enc new rest ≡ outcome_of enc old rest)
    × ((rest : List ℕ) → early_of enc new rest ≡ early_of enc old rest)

-- an IV of 1 to 128 bytes
abbrev pub IsIv : List ℕ → Type 0
IsIv iv = (1 ≤ length iv) × (length iv ≤ 128)

-- a whole run of a text over bytes: how the call ends, by what stood in the vector before and what stands there after
abbrev pub RunsThrough : {C U : Type 0}
    → (C → List ℕ → List ℕ) → Gcm C → List ℕ → List ℕ → List ℕ → Result U GcmRefused → Type 0
RunsThrough enc text bytes old new result = RunsTo old new result (outcome_of enc text bytes) (early_of enc text bytes)
