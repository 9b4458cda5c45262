-- A text on its way.
use Rattle.std.specs.Prelude.{ℕ, ◌+◌, ◌-◌, ◌*◌, ◌/◌, ◌%◌, ◌^◌, ◌≡◌, List, ◌++◌, length, take, drop, nat_le, ◌&&◌}
use Rattle.std.specs.Prelude.{if◌then◌else◌, Result, Ok, Err}
use Rattle.std.specs.Int.{w64, w128, to_be_bytes}
use Rattle.std.specs.Str.{bytes_eq}
use Rattle.ossl_aes.specs.Cipher.{add}
use Rattle.ossl_blocks.specs.Held.{held_of}
use Rattle.ossl_ghash.specs.Ghash.{hash_from, filled}
use Rattle.ossl_gcm.specs.Gcm.{next_counter, subkey, start, blocks_from, counter_after, counted, if_fits}
use Rattle.ossl_gcm.specs.declared.kinds.GcmRefused.{GcmRefused}
use Rattle.ossl_gcm.specs.declared.kinds.GcmRefused.TheVariants.{BadTag, NoMemory}
use Rattle.ossl_gcm.specs.declared.state.Stream.{Stream}
use Rattle.ossl_gcm.specs.declared.state.Sealer.{Sealer}

-- the stream at the start of a text, enc being what each cipher makes of a block
abbrev pub started : {C : Type 0} → (C → List ℕ → List ℕ) → C → List ℕ → List ℕ → Stream C
started enc cipher iv a =
    let e = enc cipher in
    record {
      cipher = cipher;
      key = subkey e;
      mask = e (start e iv);
      aad_bits = length a * 8 % 2 ^ 64;
      counter = next_counter (start e iv);
      hash = hash_from (subkey e) 0 (filled a);
    }

-- the ciphertext of whole blocks bs of plaintext, and the stream after them and their ciphertext c
abbrev pub blocks_of : {C : Type 0} → (C → List ℕ → List ℕ) → Stream C → List ℕ → List ℕ
blocks_of enc s bs = blocks_from (enc s.cipher) (length bs / 16) s.counter bs

abbrev pub moved_on : {C : Type 0} → (C → List ℕ → List ℕ) → Stream C → List ℕ → List ℕ → Stream C
moved_on enc s bs c =
    record s { counter = counter_after (enc s.cipher) (length bs / 16) s.counter bs; hash = hash_from s.key s.hash c }

-- how a stream stands after whole blocks of plaintext, by how it stood before: their ciphertext is appended
abbrev pub HasSealed : {C : Type 0}
    → (C → List ℕ → List ℕ) → Stream C → List ℕ → List ℕ → Stream C → List ℕ → Type 0
HasSealed enc s old bs after new =
    let c = blocks_of enc s bs in (after ≡ moved_on enc s bs c) × (new ≡ old ++ c) × (length c ≡ length bs)

-- the tag where the hash value is y before the ciphertext c, which ends a ciphertext of n bytes: h is the hash subkey,
-- mask the first counter block encrypted, and a the additional data's length in bits
unfoldable pub tag_from : ℕ → List ℕ → ℕ → ℕ → ℕ → List ℕ → List ℕ
tag_from h mask a y n c =
    add mask (to_be_bytes w128 (hash_from h y (filled c ++ (to_be_bytes w64 a ++ to_be_bytes w64 (n * 8 % 2 ^ 64)))))

-- the tag of a stream
abbrev pub tag_of : {C : Type 0} → Stream C → ℕ → List ℕ → List ℕ
tag_of s n c = tag_from s.key s.mask s.aad_bits s.hash n c

-- the ciphertext that an encryption has not given yet, where the bytes bs come yet
abbrev pub ciphertext_of : {C : Type 0} → (C → List ℕ → List ℕ) → Sealer C → List ℕ → List ℕ
ciphertext_of enc s bs = counted (enc s.stream.cipher) s.stream.counter (held_of s.buffer ++ bs)

-- what it gives yet: the ciphertext and the tag, or the refusal
abbrev pub sealed_of : {C : Type 0} → (C → List ℕ → List ℕ) → Sealer C → List ℕ → Result (List ℕ) GcmRefused
sealed_of enc s bs =
    let c = ciphertext_of enc s bs in
    let n = s.len + length c in
    if_fits n (Ok (c ++ tag_of s.stream n c))

-- what a decryption gives of the whole text t
abbrev pub opened : {C : Type 0} → (C → List ℕ → List ℕ) → Stream C → List ℕ → Result (List ℕ) GcmRefused
opened enc s t =
    let c = take (length t - 16) t in
    if_fits (length c)
    (if nat_le 16 (length t) && bytes_eq (drop (length t - 16) t) (tag_of s (length c) c)
    then Ok (counted (enc s.cipher) s.counter c) else Err BadTag)

-- text put before an outcome's text
abbrev pub before : List ℕ → Result (List ℕ) GcmRefused → Result (List ℕ) GcmRefused
before t (Ok x) = Ok (t ++ x)
before t (Err r) = Err r

-- a call that appends the text of an outcome o, or refuses as o does and appends nothing: old stood in the vector
-- before it, new stands there after it. Memory may be refused in place of any answer
abbrev pub Finishes : {U : Type 0} → List ℕ → List ℕ → Result U GcmRefused → Result (List ℕ) GcmRefused → Type 0
Finishes old new (Ok _) o = before old o ≡ Ok new
Finishes old new (Err NoMemory) o = new ≡ old
Finishes old new (Err r) o = (o ≡ Err r) × (new ≡ old)

-- what stands in the vector is old, and after it what was given: a beginning of the text w
abbrev pub IsBeginning : List ℕ → List ℕ → List ℕ → Type 0
IsBeginning old new w = (given : List ℕ) × (rest : List ℕ) × (new ≡ old ++ given) × (given ++ rest ≡ w)

-- a whole run: the text of the outcome o, or its refusal after a beginning of the text w
abbrev pub RunsTo : {U : Type 0} → List ℕ → List ℕ → Result U GcmRefused → Result (List ℕ) GcmRefused → List ℕ → Type 0
RunsTo old new (Ok _) o w = before old o ≡ Ok new
RunsTo old new (Err NoMemory) o w = IsBeginning old new w
RunsTo old new (Err r) o w = (o ≡ Err r) × IsBeginning old new w

-- with the bytes put in front of whatever comes yet, what an encryption gave and gives yet stays: its outcome, and its
-- ciphertext alone
abbrev pub KeepsSealed : {C : Type 0} → (C → List ℕ → List ℕ) → Sealer C → List ℕ → List ℕ → Sealer C → List ℕ → Type 0
KeepsSealed enc old was bytes new is =
    (rest : List ℕ) → before was (sealed_of enc old (bytes ++ rest)) ≡ before is (sealed_of enc new rest)

abbrev pub KeepsCiphertext : {C : Type 0}
    → (C → List ℕ → List ℕ) → Sealer C → List ℕ → List ℕ → Sealer C → List ℕ → Type 0
KeepsCiphertext enc old was bytes new is =
    (rest : List ℕ) → was ++ ciphertext_of enc old (bytes ++ rest) ≡ is ++ ciphertext_of enc new rest
