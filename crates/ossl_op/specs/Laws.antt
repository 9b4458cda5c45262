-- Laws of beginnings and results.
use Rattle.std.specs.Prelude.{◌≡◌, ℕ, Bool, true, false, nat_lt, Option, Some, None, List, IfErr, IsTrue}
use Rattle.ossl_codes.specs.declared.code.AesMode.TheVariants.{Ecb, Cbc, Cfb}
use Rattle.ossl_codes.specs.Code.{output_len_of, block_len_of}
use Rattle.ossl_codes.specs.declared.code.Code.{Code}
use Rattle.ossl_codes.specs.declared.code.Code.TheVariants.{Aes, ChaCha20}
use Rattle.ossl_codes.specs.declared.param.Direction.{Direction}
use Rattle.ossl_codes.specs.declared.param.KdfMode.{KdfMode}
use Rattle.ossl_codes.specs.declared.param.Param.{Param}
use Rattle.ossl_codes.specs.declared.param.Param.TheVariants.{Key, Iv, Inner, Len}
use Rattle.ossl_digests.specs.declared.hash.Hash.{Hash}
use Rattle.ossl_digests.specs.Digest.{output_len, block_len}
use Rattle.ossl_modes.specs.declared.kinds.FinishRefused.{FinishRefused}
use Rattle.ossl_modes.specs.declared.kinds.FinishRefused.TheVariants.{WrongFinalBlock, BadDecrypt, StreamEnd}
use Rattle.ossl_op.specs.declared.params.Params.{Params}
use Rattle.ossl_op.specs.Begins.{begins}
use Rattle.ossl_op.specs.Standard.{standard_result}

-- the refusals with which an operation of the code may end: ECB and CBC want whole blocks and a padding, ChaCha20's key
-- stream ends, and every other operation gives a text
abbrev pub may_end_with : Code → FinishRefused → Bool
may_end_with (Aes bits Ecb) (WrongFinalBlock rest) = nat_lt rest 16
may_end_with (Aes bits Ecb) BadDecrypt = true
may_end_with (Aes bits Cbc) (WrongFinalBlock rest) = nat_lt rest 16
may_end_with (Aes bits Cbc) BadDecrypt = true
may_end_with ChaCha20 (StreamEnd blocks) = true
may_end_with _ _ = false

-- whatever bytes it is fed, the operation gives a text or ends with a refusal of its code
abbrev pub EndsByCode : Code → Option Code → Params → Type 0
EndsByCode code inner params =
    (bytes : List ℕ) → IfErr (standard_result code inner params bytes) (λ refusal. IsTrue (may_end_with code refusal))

-- whether the two directions differ: in ECB, CBC and CFB (SP 800-38A, 6.1 to 6.3)
abbrev pub is_directed : Code → Bool
is_directed (Aes bits Ecb) = true
is_directed (Aes bits Cbc) = true
is_directed (Aes bits Cfb) = true
is_directed _ = false

-- the code does the same work in every direction
abbrev pub IsUndirected : Code → Type 0
IsUndirected code = (inner : Option Code) (params : Params) (direction : Direction) (bytes : List ℕ)
    → standard_result code inner (record params { direction = direction }) bytes
    ≡ standard_result code inner params bytes

-- the parameters without one of them
abbrev pub without : Param → Params → Params
without Key params = record params { key = None }
without Iv params = record params { iv = None }
without Inner params = params
without Len params = record params { len = None }

-- the inner code, unless it is the parameter that is left out
abbrev pub inner_without : Param → Option Code → Option Code
inner_without Inner inner = None
inner_without _ inner = inner

-- the code begins and gives the same without the parameter
abbrev pub IsPassedOver : Code → KdfMode → Param → Type 0
IsPassedOver code steps which = (inner : Option Code) (given : Params) (bytes : List ℕ)
    → let params = record given { mode = steps } in
    (begins code (inner_without which inner) (without which params) ≡ begins code inner params)
    × (standard_result code (inner_without which inner) (without which params) bytes
    ≡ standard_result code inner params bytes)

-- the lengths of a digest and of its blocks are told alike of the code and of its hash (FIPS 180-4, figure 1)
abbrev pub HasLengthsOf : Code → Hash → Type 0
HasLengthsOf code hash = (output_len_of code ≡ Some (output_len hash)) × (block_len_of code ≡ Some (block_len hash))
