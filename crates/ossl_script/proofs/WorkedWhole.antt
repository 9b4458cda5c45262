-- Worked callers by computation: whole operations, from the fetch to the bytes, and their refusals.
use Rattle.std.proofs.Common.{◌≡◌, ℕ, suc, true, false, List, [], ◌∷◌, ◌++◌, refl, replicate}
use Rattle.std.specs.Prelude.{codes, None, Some}
use Rattle.std.specs.Fmt.{digits}
use Rattle.hex.specs.Hex.{decode_pairs, encode_with}
use Rattle.ossl_codes.specs.declared.code.AesMode.TheVariants.{Cbc}
use Rattle.ossl_codes.specs.declared.code.Bits.TheVariants.{B128, B192}
use Rattle.ossl_codes.specs.declared.code.Code.TheVariants.{Sha256, Md5, Md4, Aes, Rc4, Hmac, Cmac, Hkdf}
use Rattle.ossl_codes.specs.declared.code.Operation.TheVariants as operations
use Rattle.ossl_codes.specs.declared.param.Direction.TheVariants.{Decrypt}
use Rattle.ossl_op.proofs.BlockRows.{key, by_iv, one_byte, two_bytes, whole_block, byte_255, cmac_of_nothing}
use Rattle.ossl_op.proofs.Examples.{unhex, keyed, with_iv}
use Rattle.ossl_op.proofs.ResultRows.{md4_of_abc, rc4_of_plaintext, nothing_expanded, nothing_decrypted, short_block_decrypted}
use Rattle.ossl_property.specs.declared.clause.Clause.{Clause}
use Rattle.ossl_property.specs.declared.clause.Relation.TheVariants.{Equal, Remove}
use Rattle.ossl_property.specs.declared.clause.Value.TheVariants.{Text}
use Rattle.ossl_property.specs.Grammar.{no_value}
use Rattle.ossl_property.specs.Names.{has}
use Rattle.ossl_property.specs.Reading.{list_at, more_at, clause_at, named_at, comparison_at, removal_at, value_at, plain_at, plain_value, name_at}
use Rattle.ossl_property.specs.Said.{query_said}
use Rattle.ossl_state.specs.declared.call.Call.TheVariants.{Load, Unload, SetDefault, Fetch, NewCtx, Free, FreeCtx}
use Rattle.ossl_state.specs.declared.call.Reply.{Reply}
use Rattle.ossl_state.specs.declared.call.Reply.TheVariants.{Loaded, Fetched, Made, Done, Unsupported, NotAdmitted}
use Rattle.ossl_script.specs.declared.caller.Next.{Next}
use Rattle.ossl_script.specs.Caller.{line_result}
use Rattle.ossl_script.specs.Outcome.{performed_outcome}
use Rattle.ossl_script.proofs.Runs.{DoesAll, asks, ends, line, performs, printed, plain}

-- a provider is loaded between two digests
pub load_between : DoesAll (codes "1 dgst MD5\n1 load 0 legacy L\n1 dgst MD4") [] 1
    (Fetched 1 (codes "default") 1 7 Md5 ∷ Made 2 ∷ Done ∷ Done ∷ Loaded 5 5 0 ∷ Fetched 6 (codes "legacy") 5 0 Md4 ∷ Made 7 ∷ Done ∷ Done ∷ []) (
    asks 1 (Fetch 0 operations.Digest (codes "MD5") [])
    ∷ asks 1 (NewCtx 1 None 0)
    ∷ asks 1 (FreeCtx 2)
    ∷ asks 1 (Free 1)
    ∷ asks 2 (Load 0 (codes "legacy") false)
    ∷ asks 3 (Fetch 0 operations.Digest (codes "MD4") [])
    ∷ asks 3 (NewCtx 6 None 0)
    ∷ asks 3 (FreeCtx 7)
    ∷ asks 3 (Free 6)
    ∷ ends
    ∷ []
    ) (
    performs 1 (codes "default") Md5 None plain []
    ∷ line 2 (codes "ok skipped 0")
    ∷ performs 3 (codes "legacy") Md4 None plain []
    ∷ []
    ) (Unload 5 ∷ [])
unfolding query_said list_at digits
load_between = refl

-- no active provider has it
pub unsupported : DoesAll (codes "1 load 0 legacy L\n1 dgst MD5") [] 1 (Loaded 1 1 0 ∷ Unsupported ∷ []) (
    asks 1 (Load 0 (codes "legacy") false)
    ∷ asks 2 (Fetch 0 operations.Digest (codes "MD5") [])
    ∷ ends
    ∷ []
    ) (line 1 (codes "ok skipped 0") ∷ line 2 (codes "error unsupported") ∷ []) (Unload 1 ∷ [])
unfolding query_said list_at digits
unsupported = refl

abbrev fips_yes : Clause
fips_yes = record { name = codes "fips"; relation = Equal; value = Text (codes "yes"); optional = false }

-- an optional clause
pub optional_fips : DoesAll (codes "1 load 0 default A\n1 load 0 fips B\n1 dgst SHA2-256 hex:616263 : ?fips=yes\n") [] 1
    (Loaded 1 1 0 ∷ Loaded 2 2 0 ∷ Fetched 3 (codes "fips") 2 0 Sha256 ∷ Made 4 ∷ Done ∷ Done ∷ []) (
    asks 1 (Load 0 (codes "default") false)
    ∷ asks 2 (Load 0 (codes "fips") false)
    ∷ asks 3 (Fetch 0 operations.Digest (codes "SHA2-256") (record fips_yes { optional = true } ∷ []))
    ∷ asks 3 (NewCtx 3 None 0)
    ∷ asks 3 (FreeCtx 4)
    ∷ asks 3 (Free 3)
    ∷ ends
    ∷ []
    ) (
    line 1 (codes "ok skipped 0")
    ∷ line 2 (codes "ok skipped 0")
    ∷ performs 3 (codes "fips") Sha256 None plain (codes "abc")
    ∷ []
    ) (Unload 2 ∷ Unload 1 ∷ [])
unfolding decode_pairs query_said list_at more_at clause_at named_at comparison_at removal_at value_at plain_at plain_value name_at has digits
optional_fips = refl

-- a default query, and the queries of two commands
pub default_query : DoesAll (codes "1 default 0 : fips=yes\n1 dgst SHA2-256 : -fips\n1 dgst SHA2-256 : fips=no\n") [] 1
    (Done ∷ Unsupported ∷ Unsupported ∷ []) (
    asks 1 (SetDefault 0 (fips_yes ∷ []))
    ∷ asks 2 (Fetch 0 operations.Digest (codes "SHA2-256") (record fips_yes { relation = Remove; value = no_value } ∷ []))
    ∷ asks 3 (Fetch 0 operations.Digest (codes "SHA2-256") (record fips_yes { value = Text (codes "no") } ∷ []))
    ∷ ends
    ∷ []
    ) (line 1 (codes "ok") ∷ line 2 (codes "error unsupported") ∷ line 3 (codes "error unsupported") ∷ []) []
unfolding query_said list_at more_at clause_at named_at comparison_at removal_at value_at plain_at plain_value name_at has digits
default_query = refl

-- a query outside the grammar makes no call; its place counts from the byte behind the `:`
pub bad_query : DoesAll (codes "1 dgst MD5 : a=1,b,A=2") [] 1 [] (ends ∷ []) (line 1 (codes "error query 7") ∷ []) []
unfolding query_said list_at more_at clause_at named_at comparison_at removal_at value_at plain_at plain_value name_at has digits
bad_query = refl

abbrev cipher_calls : List ℕ → List Next
cipher_calls algorithm = asks 1 (Fetch 0 operations.Cipher algorithm []) ∷ asks 1 (Free 1) ∷ ends ∷ []

abbrev aes_cbc : Reply
aes_cbc = Fetched 1 (codes "default") 1 9 (Aes B128 Cbc)

-- a beginning that is refused: no context is made, and the method is freed
pub short_key : DoesAll (codes "1 enc AES-128-CBC key=rep:15:00 iv=rep:16:00") [] 1 (aes_cbc ∷ Done ∷ []) (cipher_calls (codes "AES-128-CBC")) (line 1 (codes "error key length 15") ∷ []) []
unfolding decode_pairs query_said list_at digits
short_key = refl

pub no_iv : DoesAll (codes "1 enc AES-128-CBC key=rep:15:00") [] 1 (aes_cbc ∷ Done ∷ []) (cipher_calls (codes "AES-128-CBC")) (line 1 (codes "error missing iv") ∷ []) []
unfolding decode_pairs query_said list_at digits
no_iv = refl

-- the inner algorithm is fetched with the same query, and freed first
pub wrong_inner : DoesAll (codes "1 mac CMAC digest=MD5 key=rep:16:00 :") [] 1 (Fetched 1 (codes "default") 1 25 Cmac ∷ Fetched 2 (codes "default") 1 7 Md5 ∷ Done ∷ Done ∷ []) (
    asks 1 (Fetch 0 operations.Mac (codes "CMAC") [])
    ∷ asks 1 (Fetch 0 operations.Digest (codes "MD5") [])
    ∷ asks 1 (Free 2)
    ∷ asks 1 (Free 1)
    ∷ ends
    ∷ []
    ) (line 1 (codes "error wrong inner") ∷ []) []
unfolding decode_pairs query_said list_at digits
wrong_inner = refl

-- a key that is not admitted, told with its length
pub not_admitted : DoesAll (codes "1 load 0 fips F\n1 mac HMAC digest=SHA2-256 key=rep:13:0b hex:00") [] 1
    (Loaded 1 1 0 ∷ Fetched 2 (codes "fips") 1 22 Hmac ∷ Fetched 3 (codes "fips") 1 0 Sha256 ∷ NotAdmitted ∷ Done ∷ Done ∷ []) (
    asks 1 (Load 0 (codes "fips") false)
    ∷ asks 2 (Fetch 0 operations.Mac (codes "HMAC") [])
    ∷ asks 2 (Fetch 0 operations.Digest (codes "SHA2-256") [])
    ∷ asks 2 (NewCtx 2 (Some 3) 13)
    ∷ asks 2 (Free 3)
    ∷ asks 2 (Free 2)
    ∷ ends
    ∷ []
    ) (line 1 (codes "ok skipped 0") ∷ line 2 (codes "error not admitted") ∷ []) (Unload 1 ∷ [])
unfolding decode_pairs query_said list_at digits
not_admitted = refl

-- in the midst of a whole operation its methods are held, and its context
pub stopped_whole : DoesAll (codes "1 mac HMAC digest=MD5 key=text:Jefe lib=1") [] 1 (Fetched 1 (codes "default") 1 24 Hmac ∷ Fetched 2 (codes "default") 1 7 Md5 ∷ Made 3 ∷ []) (
    asks 1 (Fetch 1 operations.Mac (codes "HMAC") [])
    ∷ asks 1 (Fetch 1 operations.Digest (codes "MD5") [])
    ∷ asks 1 (NewCtx 1 (Some 2) 4)
    ∷ asks 1 (FreeCtx 3)
    ∷ []
    ) [] (FreeCtx 3 ∷ Free 2 ∷ Free 1 ∷ [])
unfolding query_said list_at
stopped_whole = refl

-- a message in pieces, one of them a file's
pub pieces_joined : DoesAll (codes "2 dgst MD5 file:b\n1 dgst SHA2-256 text:a file:abc.txt rep:3:00") (codes "zzz" ∷ codes "abc" ∷ []) 1
    (Fetched 1 (codes "default") 1 0 Sha256 ∷ Made 2 ∷ Done ∷ Done ∷ []) (
    asks 2 (Fetch 0 operations.Digest (codes "SHA2-256") [])
    ∷ asks 2 (NewCtx 1 None 0)
    ∷ asks 2 (FreeCtx 2)
    ∷ asks 2 (Free 1)
    ∷ ends
    ∷ []
    ) (performs 2 (codes "default") Sha256 None plain (codes "aabc" ++ 0 ∷ 0 ∷ 0 ∷ []) ∷ []) []
unfolding decode_pairs query_said list_at
pieces_joined = refl

abbrev derivation_calls : List Next
derivation_calls = asks 1 (Fetch 0 operations.Kdf (codes "HKDF") []) ∷ asks 1 (Fetch 0 operations.Digest (codes "SHA2-256") []) ∷ []

-- a derivation of more bytes than there are
pub too_long : DoesAll (codes "1 kdf HKDF digest=SHA2-256 key=rep:22:0b len=8161") [] 1 (Fetched 1 (codes "default") 1 26 Hkdf ∷ Fetched 2 (codes "default") 1 0 Sha256 ∷ Done ∷ Done ∷ [])
    (derivation_calls ++ asks 1 (Free 2) ∷ asks 1 (Free 1) ∷ ends ∷ []) (line 1 (codes "error too long 8160") ∷ []) []
unfolding decode_pairs query_said list_at digits
too_long = refl

-- a length of 0 gives no bytes
pub no_length : DoesAll (codes "1 kdf HKDF digest=SHA2-256 key=text:abc len=0") [] 1 (Fetched 1 (codes "default") 1 26 Hkdf ∷ Fetched 2 (codes "default") 1 0 Sha256 ∷ Made 3 ∷ Done ∷ Done ∷ Done ∷ [])
    (derivation_calls ++ asks 1 (NewCtx 1 (Some 2) 3) ∷ asks 1 (FreeCtx 3) ∷ asks 1 (Free 2) ∷ asks 1 (Free 1) ∷ ends ∷ [])
    (performs 1 (codes "default") Hkdf (Some Sha256) (record (keyed (codes "abc")) { len = Some 0 }) [] ∷ []) []
unfolding query_said list_at
no_length = refl

no_length_text : performs 1 (codes "default") Hkdf (Some Sha256) (record (keyed (codes "abc")) { len = Some 0 }) [] ≡ line 1 (codes "ok default")
no_length_text = printed 1 (codes "default") nothing_expanded

-- the calls of a whole operation without an inner algorithm
abbrev whole_calls : ℕ → List ℕ → ℕ → ℕ → List Next
whole_calls number algorithm key_len token =
    asks number (Fetch 0 operations.Cipher algorithm [])
    ∷ asks number (NewCtx token None key_len)
    ∷ asks number (FreeCtx (suc token))
    ∷ asks number (Free token)
    ∷ ends
    ∷ []

-- a stream cipher of another provider
pub rc4 : DoesAll (codes "1 load 0 legacy L\n1 enc RC4 key=text:Key text:Plaintext") [] 1 (Loaded 1 1 0 ∷ Fetched 2 (codes "legacy") 1 1 Rc4 ∷ Made 3 ∷ Done ∷ Done ∷ [])
    (asks 1 (Load 0 (codes "legacy") false) ∷ whole_calls 2 (codes "RC4") 3 2)
    (line 1 (codes "ok skipped 0") ∷ performs 2 (codes "legacy") Rc4 None (keyed (codes "Key")) (codes "Plaintext") ∷ []) (Unload 1 ∷ [])
unfolding query_said list_at digits
rc4 = refl

rc4_text : performs 2 (codes "legacy") Rc4 None (keyed (codes "Key")) (codes "Plaintext") ≡ line 2 (codes "ok legacy bbf316e8d940af0ad3")
unfolding encode_with
rc4_text = printed 2 (codes "legacy") rc4_of_plaintext

-- a block decrypted under a key of 24 bytes
abbrev decrypts : List ℕ → List ℕ → List ℕ → List ℕ → Type 0
decrypts text key iv bytes = DoesAll text [] 1 (Fetched 1 (codes "default") 1 14 (Aes B192 Cbc) ∷ Made 2 ∷ Done ∷ Done ∷ [])
    (whole_calls 1 (codes "AES-192-CBC") 24 1)
    (performs 1 (codes "default") (Aes B192 Cbc) None (record (with_iv key iv) { direction = Decrypt }) bytes ∷ []) []

pub decrypted : decrypts (codes "1 enc AES-192-CBC dir=decrypt key=hex:000102030405060708090a0b0c0d0e0f1011121314151617 iv=hex:000000000000000000000000000000fe hex:dda97ca4864cdfe06eaf70a0ec0d7191")
    key (unhex (codes "000000000000000000000000000000fe")) (unhex (codes "dda97ca4864cdfe06eaf70a0ec0d7191"))
unfolding decode_pairs query_said list_at
decrypted = refl

-- what is printed of the block decrypted, by its IV
abbrev prints : List ℕ → List ℕ → Type 0
prints iv text = line_result 1 (performed_outcome (codes "default") (by_iv iv)) ≡ line 1 text

one_byte_text : prints (unhex (codes "000000000000000000000000000000fe")) (codes "ok default 00112233445566778899aabbccddee")
unfolding encode_with
one_byte_text = printed 1 (codes "default") one_byte

two_bytes_text : prints (unhex (codes "0000000000000000000000000000ecfd")) (codes "ok default 00112233445566778899aabbccdd")
unfolding encode_with
two_bytes_text = printed 1 (codes "default") two_bytes

whole_block_text : prints (unhex (codes "10013223544576679889baabdccdfeef")) (codes "ok default")
whole_block_text = printed 1 (codes "default") whole_block

byte_255_text : prints (unhex (codes "00000000000000000000000000000000")) (codes "error bad decrypt")
byte_255_text = printed 1 (codes "default") byte_255

-- data that end within a block: the context and the method are given back all the same
pub short_block : decrypts (codes "1 enc AES-192-CBC rep:15:00 dir=decrypt key=rep:24:00 iv=rep:16:00") (replicate 24 0) (replicate 16 0) (replicate 15 0)
unfolding decode_pairs query_said list_at
short_block = refl

short_block_text : performs 1 (codes "default") (Aes B192 Cbc) None (record (with_iv (replicate 24 0) (replicate 16 0)) { direction = Decrypt }) (replicate 15 0)
    ≡ line 1 (codes "error wrong final block 15")
unfolding digits
short_block_text = printed 1 (codes "default") short_block_decrypted

no_block_text : performs 1 (codes "default") (Aes B192 Cbc) None (record (with_iv (replicate 24 0) (replicate 16 0)) { direction = Decrypt }) []
    ≡ line 1 (codes "error wrong final block 0")
unfolding digits
no_block_text = printed 1 (codes "default") nothing_decrypted

-- an authentication code of no bytes
abbrev cmac_key : List ℕ
cmac_key = unhex (codes "2b7e151628aed2a6abf7158809cf4f3c")

pub cmac : DoesAll (codes "1 mac CMAC cipher=AES-128-CBC key=hex:2b7e151628aed2a6abf7158809cf4f3c") [] 1
    (Fetched 1 (codes "default") 1 25 Cmac ∷ Fetched 2 (codes "default") 1 9 (Aes B128 Cbc) ∷ Made 3 ∷ Done ∷ Done ∷ Done ∷ []) (
    asks 1 (Fetch 0 operations.Mac (codes "CMAC") [])
    ∷ asks 1 (Fetch 0 operations.Cipher (codes "AES-128-CBC") [])
    ∷ asks 1 (NewCtx 1 (Some 2) 16)
    ∷ asks 1 (FreeCtx 3)
    ∷ asks 1 (Free 2)
    ∷ asks 1 (Free 1)
    ∷ ends
    ∷ []
    ) (performs 1 (codes "default") Cmac (Some (Aes B128 Cbc)) (keyed cmac_key) [] ∷ []) []
unfolding decode_pairs query_said list_at
cmac = refl

cmac_text : performs 1 (codes "default") Cmac (Some (Aes B128 Cbc)) (keyed cmac_key) [] ≡ line 1 (codes "ok default bb1d6929e95937287fa37d129b756746")
unfolding encode_with
cmac_text = printed 1 (codes "default") cmac_of_nothing

md4_text : performs 1 (codes "legacy") Md4 None plain (codes "abc") ≡ line 1 (codes "ok legacy a448017aaf21d8525fc10ae87aa6729d")
unfolding encode_with
md4_text = printed 1 (codes "legacy") md4_of_abc
