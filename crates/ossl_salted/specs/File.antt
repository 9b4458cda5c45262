-- The salted file (openssl-enc(1)): AES in CBC mode with padding, under a key and an IV of PBKDF2.
use Rattle.std.specs.Prelude.{ℕ, ◌+◌, ◌-◌, ◌/◌, Bool, true, false, ◌&&◌, nat_eq, nat_le, if◌then◌else◌}
use Rattle.std.specs.Prelude.{List, ◌++◌, length, take, drop, codes, slice_index, Result, Ok, Err}
use Rattle.std.specs.Str.{bytes_eq}
use Rattle.ossl_digests.specs.declared.hash.Hash.TheVariants.{Sha256}
use Rattle.ossl_hmac.specs.Pbkdf2.{pbkdf2}
use Rattle.ossl_aes.specs.Cipher.{encrypted, decrypted}
use Rattle.ossl_modes.specs.declared.kinds.ModeKind.TheVariants.{Cbc}
use Rattle.ossl_modes.specs.declared.kinds.FinishRefused.{FinishRefused}
use Rattle.ossl_modes.specs.Modes.{equations, outcome, padded, whole_blocks}

-- the file's first 8 bytes
abbrev pub magic : List ℕ
magic = codes "Salted__"

-- the password: what its file holds, but for one line feed at the end
abbrev pub password_of : List ℕ → List ℕ
password_of content =
    let last = length content - 1 in if nat_eq (slice_index content last) 10 then take last content else content

-- the key and behind it the IV: as many bytes of PBKDF2 with SHA-256
abbrev pub key_and_iv : (password salt : List ℕ) (rounds bits : ℕ) → List ℕ
key_and_iv password salt rounds bits = pbkdf2 Sha256 password salt rounds (bits / 8 + 16)

-- the key of so many bits, and the IV of 16 bytes
abbrev pub key_of : ℕ → List ℕ → List ℕ
key_of bits material = take (bits / 8) material

abbrev pub iv_of : ℕ → List ℕ → List ℕ
iv_of bits material = drop (bits / 8) material

-- AES with that key, both ways: of 4, 6 or 8 words of 32 bits (FIPS 197, 5)
abbrev pub encrypts : ℕ → List ℕ → List ℕ → List ℕ
encrypts bits material = encrypted (bits / 32) (key_of bits material)

abbrev pub decrypts : ℕ → List ℕ → List ℕ → List ℕ
decrypts bits material = decrypted (bits / 32) (key_of bits material)

-- a text encrypted, and a text decrypted or refused
abbrev pub ciphertext : (bits : ℕ) (material p : List ℕ) → List ℕ
ciphertext bits material p =
    equations (encrypts bits material) (decrypts bits material) Cbc false (iv_of bits material) (padded p)

abbrev pub decryption : (bits : ℕ) (material c : List ℕ) → Result (List ℕ) FinishRefused
decryption bits material c =
    outcome (encrypts bits material) (decrypts bits material) Cbc true true (iv_of bits material) c

-- a text decrypted by the block equations, without the check of the last block
abbrev pub unchecked : (bits : ℕ) (material c : List ℕ) → List ℕ
unchecked bits material c =
    whole_blocks (encrypts bits material) (decrypts bits material) Cbc true (iv_of bits material) c

-- the file of a text p
abbrev pub salted_file : (p password salt : List ℕ) (rounds bits : ℕ) → List ℕ
salted_file p password salt rounds bits = magic ++ salt ++ ciphertext bits (key_and_iv password salt rounds bits) p

-- a file has 16 bytes at least and begins with the first 8
abbrev pub is_salted : List ℕ → Bool
is_salted text = nat_le 16 (length text) && bytes_eq (take 8 text) magic

-- its salt, and what is encrypted
abbrev pub salt_in : List ℕ → List ℕ
salt_in text = take 8 (drop 8 text)

abbrev pub body_in : List ℕ → List ℕ
body_in text = drop 16 text

-- why a file is refused: by its header, or by its last block
pub data Fault : Type 0 where
  header : Fault
  final_block : FinishRefused → Fault

abbrev pub decrypted_or_fault : Result (List ℕ) FinishRefused → Result (List ℕ) Fault
decrypted_or_fault (Ok p) = Ok p
decrypted_or_fault (Err refused) = Err (final_block refused)

-- the text of a file, or why it is refused
abbrev pub unsealed : (text password : List ℕ) (rounds bits : ℕ) → Result (List ℕ) Fault
unsealed text password rounds bits =
    if is_salted text
    then decrypted_or_fault (decryption bits (key_and_iv password (salt_in text) rounds bits) (body_in text))
    else Err header

-- the text of a file without the check of the last block
abbrev pub unsealed_unchecked : (text password : List ℕ) (rounds bits : ℕ) → List ℕ
unsealed_unchecked text password rounds bits =
    unchecked bits (key_and_iv password (salt_in text) rounds bits) (body_in text)
