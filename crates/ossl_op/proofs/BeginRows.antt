-- Judgements by computation: each refusal, and which one comes first.
use Rattle.std.proofs.Common.{◌≡◌, Some, None, Ok, Err, [], replicate, refl}
use Rattle.ossl_codes.specs.declared.code.Bits.TheVariants.{B128, B192}
use Rattle.ossl_codes.specs.declared.code.AesMode.TheVariants.{Ecb, Cbc, Ctr}
use Rattle.ossl_codes.specs.declared.code.Code.TheVariants.{Sha256, Sha512, Md5, Aes, ChaCha20, Rc4, Hmac, Cmac, Hkdf}
use Rattle.ossl_codes.specs.declared.param.KdfMode.TheVariants.{Extract, Expand}
use Rattle.ossl_codes.specs.declared.param.Param.TheVariants.{Key, Iv, Inner, Len}
use Rattle.ossl_op.specs.declared.params.BeginRefused.TheVariants.{MissingParam, WrongInner, KeyLength, IvLength}
use Rattle.ossl_op.specs.declared.params.BeginRefused.TheVariants.{TooLong}
use Rattle.ossl_op.specs.Begins.{begins}
use Rattle.ossl_op.proofs.Examples.{plain, keyed, with_iv}

-- a digest needs nothing, and passes over whatever it is given
digest_alone : begins Sha256 None plain ≡ Ok tt
digest_alone = refl

digest_with_key : begins Sha256 (Some Cmac) (with_iv [] []) ≡ Ok tt
digest_with_key = refl

-- a missing IV comes before the wrong length of the key
no_iv : begins (Aes B128 Cbc) None (keyed (replicate 15 0)) ≡ Err (MissingParam Iv)
no_iv = refl

short_key : begins (Aes B128 Cbc) None (with_iv (replicate 15 0) (replicate 16 0)) ≡ Err (KeyLength 15)
short_key = refl

-- the wrong length of the key comes before that of the IV
both_lengths_wrong : begins (Aes B192 Ctr) None (with_iv (replicate 16 0) []) ≡ Err (KeyLength 16)
both_lengths_wrong = refl

empty_iv : begins (Aes B128 Ctr) None (with_iv (replicate 16 0) []) ≡ Err (IvLength 0)
empty_iv = refl

-- ECB has no use for an IV
ecb_with_iv : begins (Aes B128 Ecb) None (with_iv (replicate 16 0) []) ≡ Ok tt
ecb_with_iv = refl

no_key : begins ChaCha20 None plain ≡ Err (MissingParam Key)
no_key = refl

chacha_key : begins ChaCha20 None (with_iv (replicate 16 0) (replicate 16 0)) ≡ Err (KeyLength 16)
chacha_key = refl

empty_rc4_key : begins Rc4 None (keyed []) ≡ Err (KeyLength 0)
empty_rc4_key = refl

longest_rc4_key : begins Rc4 None (keyed (replicate 256 0)) ≡ Ok tt
longest_rc4_key = refl

longer_rc4_key : begins Rc4 None (keyed (replicate 257 0)) ≡ Err (KeyLength 257)
longer_rc4_key = refl

no_inner : begins Hmac None (keyed []) ≡ Err (MissingParam Inner)
no_inner = refl

-- HMAC takes any key
empty_hmac_key : begins Hmac (Some Md5) (keyed []) ≡ Ok tt
empty_hmac_key = refl

hmac_on_hmac : begins Hmac (Some Hmac) (keyed []) ≡ Err WrongInner
hmac_on_hmac = refl

-- CMAC on MD5, with a key of the wrong length too
cmac_on_md5 : begins Cmac (Some Md5) (keyed []) ≡ Err WrongInner
cmac_on_md5 = refl

cmac_on_ctr : begins Cmac (Some (Aes B128 Ctr)) (keyed (replicate 16 0)) ≡ Err WrongInner
cmac_on_ctr = refl

cmac_key : begins Cmac (Some (Aes B192 Cbc)) (keyed (replicate 16 0)) ≡ Err (KeyLength 16)
cmac_key = refl

cmac_alone : begins Cmac (Some (Aes B192 Cbc)) (keyed (replicate 24 0)) ≡ Ok tt
cmac_alone = refl

-- a missing length comes before the wrong inner code
no_len : begins Hkdf (Some Rc4) (keyed []) ≡ Err (MissingParam Len)
no_len = refl

greatest_len : begins Hkdf (Some Sha256) (record (keyed []) { len = Some 8160 }) ≡ Ok tt
greatest_len = refl

too_long : begins Hkdf (Some Sha256) (record (keyed []) { len = Some 8161 }) ≡ Err (TooLong 8160)
too_long = refl

too_long_expansion : begins Hkdf (Some Sha512) (record (keyed []) { mode = Expand; len = Some 16321 })
    ≡ Err (TooLong 16320)
too_long_expansion = refl

-- an extraction needs no length, and passes over a great one
extraction : begins Hkdf (Some Sha256) (record (keyed []) { mode = Extract; len = Some 9000 }) ≡ Ok tt
extraction = refl
