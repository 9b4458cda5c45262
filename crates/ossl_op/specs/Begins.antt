-- Whether an operation may begin.
use Rattle.std.specs.Prelude.{ℕ, Bool, true, false, not, nat_lt, if◌then◌else◌, is_some, unwrap_or, Option, Some, None}
use Rattle.std.specs.Prelude.{Result, Ok, Err, List, [], ◌∷◌, length, find}
use Rattle.std.specs.Option.{option_and_then, option_map}
use Rattle.ossl_codes.specs.declared.code.Code.{Code}
use Rattle.ossl_codes.specs.declared.code.Code.TheVariants.{Hkdf}
use Rattle.ossl_codes.specs.declared.param.KdfMode.{KdfMode}
use Rattle.ossl_codes.specs.declared.param.KdfMode.TheVariants.{Extract}
use Rattle.ossl_codes.specs.declared.param.Param.{Param}
use Rattle.ossl_codes.specs.declared.param.Param.TheVariants.{Key, Iv, Inner, Len}
use Rattle.ossl_hkdf.specs.Hkdf.{limit}
use Rattle.ossl_op.specs.declared.params.Params.{Params}
use Rattle.ossl_op.specs.declared.params.BeginRefused.{BeginRefused}
use Rattle.ossl_op.specs.declared.params.BeginRefused.TheVariants.{MissingParam, WrongInner, KeyLength, IvLength}
use Rattle.ossl_op.specs.declared.params.BeginRefused.TheVariants.{TooLong}
use Rattle.ossl_op.specs.Tables.{hash_of, needed, takes_inner, takes_key, takes_iv}

-- the bytes of a parameter, and none where it is absent
abbrev pub bytes_of : Option (List ℕ) → List ℕ
bytes_of given = unwrap_or given []

-- the parameter is there
abbrev pub is_given : Option Code → Params → Param → Bool
is_given inner params Key = is_some params.key
is_given inner params Iv = is_some params.iv
is_given inner params Inner = is_some inner
is_given inner params Len = is_some params.len

-- a check that holds refuses nothing
abbrev pub refused_unless : Bool → BeginRefused → Option BeginRefused
refused_unless true refusal = None
refused_unless false refusal = Some refusal

-- the first parameter that the code needs and that is not there
abbrev pub missing : Code → Option Code → Params → Option BeginRefused
missing code inner params =
    option_map MissingParam (find (λ which. not (is_given inner params which)) (needed code params.mode))

-- a MAC or a key derivation on another code than it runs on
abbrev pub wrong_inner : Code → Option Code → Option BeginRefused
wrong_inner code inner = refused_unless (takes_inner code inner) WrongInner

-- a key of a length that the code does not take, told with its length in bytes
abbrev pub wrong_key : Code → Option Code → Params → Option BeginRefused
wrong_key code inner params =
    let got = length (bytes_of params.key) in refused_unless (takes_key code inner got) (KeyLength got)

-- an IV of a length that the code does not take, likewise
abbrev pub wrong_iv : Code → Params → Option BeginRefused
wrong_iv code params = let got = length (bytes_of params.iv) in refused_unless (takes_iv code got) (IvLength got)

-- the limit of an expansion, 255 times the hash length, where the length is above it; an extraction passes the length
-- over (RFC 5869, 2.3)
abbrev pub limit_passed : Code → Option Code → KdfMode → ℕ → Option ℕ
limit_passed Hkdf inner Extract len = None
limit_passed Hkdf inner _ len =
    option_and_then (λ hash. if nat_lt (limit hash) len then Some (limit hash) else None)
    (option_and_then hash_of inner)
limit_passed _ inner _ len = None

-- more bytes than an expansion gives, told with its limit
abbrev pub too_long : Code → Option Code → Params → Option BeginRefused
too_long code inner params = option_map TooLong (limit_passed code inner params.mode (unwrap_or params.len 0))

-- good, or the first refusal
abbrev pub first_refusal : List (Option BeginRefused) → Result (Unit {0}) BeginRefused
first_refusal [] = Ok tt
first_refusal (None ∷ checks) = first_refusal checks
first_refusal (Some refusal ∷ checks) = Err refusal

-- whether an operation of this code, on this inner code, may begin with these parameters: good, or the first refusal in
-- this order
abbrev pub begins : Code → Option Code → Params → Result (Unit {0}) BeginRefused
begins code inner params =
    first_refusal (missing code inner params
    ∷ wrong_inner code inner
    ∷ wrong_key code inner params
    ∷ wrong_iv code params
    ∷ too_long code inner params
    ∷ [])
