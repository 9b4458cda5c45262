-- A parameter that a code does not need is passed over, a code that is not directed does the same both ways, and an
-- operation ends only with its own refusals.
use Rattle.std.proofs.Common.{◌≡◌, ℕ, List, [], true≢false, false, Option, Result, Ok, Err, IfErr, IsTrue, refl, ap}
use Rattle.std.proofs.Common.{lt-ltb, arith}
use Rattle.std.specs.Prelude.{Contains}
use Rattle.ossl_codes.specs.declared.code.AesMode.TheVariants.{Ecb, Cbc, Cfb, Ofb, Ctr}
use Rattle.ossl_codes.specs.declared.code.Code.{Code}
use Rattle.ossl_codes.specs.declared.code.Code.TheVariants.{Sha1, Sha224, Sha256, Sha384, Sha512, Sha512t224}
use Rattle.ossl_codes.specs.declared.code.Code.TheVariants.{Sha512t256, Md5, Md4, Aes, ChaCha20, Rc4, Hmac, Cmac, Hkdf}
use Rattle.ossl_codes.specs.declared.param.KdfMode.{KdfMode}
use Rattle.ossl_codes.specs.declared.param.KdfMode.TheVariants.{Both, Extract, Expand}
use Rattle.ossl_codes.specs.declared.param.Param.{Param}
use Rattle.ossl_codes.specs.declared.param.Param.TheVariants.{Key, Iv, Inner, Len}
use Rattle.ossl_modes.specs.declared.kinds.ModeKind.TheVariants as kind
use Rattle.ossl_modes.specs.declared.kinds.FinishRefused.TheVariants as refusals
use Rattle.ossl_chacha.specs.declared.chacha.StreamEnd.{StreamEnd}
use Rattle.ossl_chacha.specs.Ends.{chacha20}
use Rattle.std.specs.Result.{result_map_both}
use Rattle.ossl_op.specs.declared.params.Params.{Params}
use Rattle.ossl_aes.specs.Cipher.{encrypted, decrypted}
use Rattle.ossl_op.specs.Tables.{needed, key_words}
use Rattle.ossl_op.specs.Begins.{bytes_of}
use Rattle.ossl_op.specs.Standard.{standard_result, is_decrypt}
use Rattle.ossl_op.specs.Laws.{IsPassedOver, IsUndirected, is_directed, may_end_with}
use Rattle.ossl_op.proofs.ModeLaws.{outcome-ecb, blocks-undirected, outcome-ends}

pub passed_over : (code : Code) (steps : KdfMode) (which : Param) → ¬ Contains (needed code steps) which
    → IsPassedOver code steps which
passed_over Sha1 steps which absent inner given bytes = (refl, refl)
passed_over Sha224 steps which absent inner given bytes = (refl, refl)
passed_over Sha256 steps which absent inner given bytes = (refl, refl)
passed_over Sha384 steps which absent inner given bytes = (refl, refl)
passed_over Sha512 steps which absent inner given bytes = (refl, refl)
passed_over Sha512t224 steps which absent inner given bytes = (refl, refl)
passed_over Sha512t256 steps which absent inner given bytes = (refl, refl)
passed_over Md5 steps which absent inner given bytes = (refl, refl)
passed_over Md4 steps which absent inner given bytes = (refl, refl)
passed_over (Aes bits Ecb) steps Key absent inner given bytes = absurd (absent (0, omega arith, refl))
passed_over (Aes bits Ecb) steps Iv absent inner given bytes =
    (refl, outcome-ecb _ _ (is_decrypt given.direction) given.pad [] (bytes_of given.iv) bytes)
passed_over (Aes bits Ecb) steps Inner absent inner given bytes = (refl, refl)
passed_over (Aes bits Ecb) steps Len absent inner given bytes = (refl, refl)
passed_over (Aes bits Cbc) steps Key absent inner given bytes = absurd (absent (0, omega arith, refl))
passed_over (Aes bits Cbc) steps Iv absent inner given bytes = absurd (absent (1, omega arith, refl))
passed_over (Aes bits Cbc) steps Inner absent inner given bytes = (refl, refl)
passed_over (Aes bits Cbc) steps Len absent inner given bytes = (refl, refl)
passed_over (Aes bits Cfb) steps Key absent inner given bytes = absurd (absent (0, omega arith, refl))
passed_over (Aes bits Cfb) steps Iv absent inner given bytes = absurd (absent (1, omega arith, refl))
passed_over (Aes bits Cfb) steps Inner absent inner given bytes = (refl, refl)
passed_over (Aes bits Cfb) steps Len absent inner given bytes = (refl, refl)
passed_over (Aes bits Ofb) steps Key absent inner given bytes = absurd (absent (0, omega arith, refl))
passed_over (Aes bits Ofb) steps Iv absent inner given bytes = absurd (absent (1, omega arith, refl))
passed_over (Aes bits Ofb) steps Inner absent inner given bytes = (refl, refl)
passed_over (Aes bits Ofb) steps Len absent inner given bytes = (refl, refl)
passed_over (Aes bits Ctr) steps Key absent inner given bytes = absurd (absent (0, omega arith, refl))
passed_over (Aes bits Ctr) steps Iv absent inner given bytes = absurd (absent (1, omega arith, refl))
passed_over (Aes bits Ctr) steps Inner absent inner given bytes = (refl, refl)
passed_over (Aes bits Ctr) steps Len absent inner given bytes = (refl, refl)
passed_over ChaCha20 steps Key absent inner given bytes = absurd (absent (0, omega arith, refl))
passed_over ChaCha20 steps Iv absent inner given bytes = absurd (absent (1, omega arith, refl))
passed_over ChaCha20 steps Inner absent inner given bytes = (refl, refl)
passed_over ChaCha20 steps Len absent inner given bytes = (refl, refl)
passed_over Rc4 steps Key absent inner given bytes = absurd (absent (0, omega arith, refl))
passed_over Rc4 steps Iv absent inner given bytes = (refl, refl)
passed_over Rc4 steps Inner absent inner given bytes = (refl, refl)
passed_over Rc4 steps Len absent inner given bytes = (refl, refl)
passed_over Hmac steps Key absent inner given bytes = absurd (absent (0, omega arith, refl))
passed_over Hmac steps Iv absent inner given bytes = (refl, refl)
passed_over Hmac steps Inner absent inner given bytes = absurd (absent (1, omega arith, refl))
passed_over Hmac steps Len absent inner given bytes = (refl, refl)
passed_over Cmac steps Key absent inner given bytes = absurd (absent (0, omega arith, refl))
passed_over Cmac steps Iv absent inner given bytes = (refl, refl)
passed_over Cmac steps Inner absent inner given bytes = absurd (absent (1, omega arith, refl))
passed_over Cmac steps Len absent inner given bytes = (refl, refl)
passed_over Hkdf Extract Key absent inner given bytes = absurd (absent (0, omega arith, refl))
passed_over Hkdf Extract Iv absent inner given bytes = (refl, refl)
passed_over Hkdf Extract Inner absent inner given bytes = absurd (absent (1, omega arith, refl))
passed_over Hkdf Extract Len absent inner given bytes = (refl, refl)
passed_over Hkdf Both Key absent inner given bytes = absurd (absent (0, omega arith, refl))
passed_over Hkdf Both Iv absent inner given bytes = (refl, refl)
passed_over Hkdf Both Inner absent inner given bytes = absurd (absent (1, omega arith, refl))
passed_over Hkdf Both Len absent inner given bytes = absurd (absent (2, omega arith, refl))
passed_over Hkdf Expand Key absent inner given bytes = absurd (absent (0, omega arith, refl))
passed_over Hkdf Expand Iv absent inner given bytes = (refl, refl)
passed_over Hkdf Expand Inner absent inner given bytes = absurd (absent (1, omega arith, refl))
passed_over Hkdf Expand Len absent inner given bytes = absurd (absent (2, omega arith, refl))

pub undirected : (code : Code) → is_directed code ≡ false → IsUndirected code
undirected Sha1 plain inner params direction bytes = refl
undirected Sha224 plain inner params direction bytes = refl
undirected Sha256 plain inner params direction bytes = refl
undirected Sha384 plain inner params direction bytes = refl
undirected Sha512 plain inner params direction bytes = refl
undirected Sha512t224 plain inner params direction bytes = refl
undirected Sha512t256 plain inner params direction bytes = refl
undirected Md5 plain inner params direction bytes = refl
undirected Md4 plain inner params direction bytes = refl
undirected ChaCha20 plain inner params direction bytes = refl
undirected Rc4 plain inner params direction bytes = refl
undirected Hmac plain inner params direction bytes = refl
undirected Cmac plain inner params direction bytes = refl
undirected Hkdf plain inner params direction bytes = refl
undirected (Aes bits Ecb) directed inner params direction bytes = absurd (true≢false directed)
undirected (Aes bits Cbc) directed inner params direction bytes = absurd (true≢false directed)
undirected (Aes bits Cfb) directed inner params direction bytes = absurd (true≢false directed)
undirected (Aes bits Ofb) plain inner params direction bytes =
    ap Ok (blocks-undirected _ _ kind.Ofb (is_decrypt direction) (is_decrypt params.direction) (λ v b. refl)
    (λ v b. refl) _ _ _)
undirected (Aes bits Ctr) plain inner params direction bytes =
    ap Ok (blocks-undirected _ _ kind.Ctr (is_decrypt direction) (is_decrypt params.direction) (λ v b. refl)
    (λ v b. refl) _ _ _)

stream-ends : (r : Result (List ℕ) StreamEnd)
    → IfErr (result_map_both (λ text. text) (λ end. refusals.StreamEnd end.blocks) r)
    (λ refusal. IsTrue (may_end_with ChaCha20 refusal))
stream-ends (Ok text) = tt
stream-ends (Err end) = refl

pub ends : (code : Code) (inner : Option Code) (params : Params) (bytes : List ℕ)
    → IfErr (standard_result code inner params bytes) (λ refusal. IsTrue (may_end_with code refusal))
ends Sha1 inner params bytes = tt
ends Sha224 inner params bytes = tt
ends Sha256 inner params bytes = tt
ends Sha384 inner params bytes = tt
ends Sha512 inner params bytes = tt
ends Sha512t224 inner params bytes = tt
ends Sha512t256 inner params bytes = tt
ends Md5 inner params bytes = tt
ends Md4 inner params bytes = tt
ends Rc4 inner params bytes = tt
ends Hmac inner params bytes = tt
ends Cmac inner params bytes = tt
ends Hkdf inner params bytes = tt
ends (Aes bits Ecb) inner params bytes =
    outcome-ends (encrypted (key_words bits) (bytes_of params.key)) (decrypted (key_words bits) (bytes_of params.key))
    (λ refusal. IsTrue (may_end_with (Aes bits Ecb) refusal)) refl (λ rest low. lt-ltb rest 16 low) kind.Ecb
    (is_decrypt params.direction) params.pad (bytes_of params.iv) bytes
ends (Aes bits Cbc) inner params bytes =
    outcome-ends (encrypted (key_words bits) (bytes_of params.key)) (decrypted (key_words bits) (bytes_of params.key))
    (λ refusal. IsTrue (may_end_with (Aes bits Cbc) refusal)) refl (λ rest low. lt-ltb rest 16 low) kind.Cbc
    (is_decrypt params.direction) params.pad (bytes_of params.iv) bytes
ends (Aes bits Cfb) inner params bytes = tt
ends (Aes bits Ofb) inner params bytes = tt
ends (Aes bits Ctr) inner params bytes = tt
ends ChaCha20 inner params bytes = stream-ends (chacha20 (bytes_of params.key) (bytes_of params.iv) bytes)
