-- What the worked examples are written with.
use Rattle.std.proofs.Common.{ℕ, ◌+◌, ◌*◌, true, unwrap_or, Some, None, List, [], ◌∷◌}
use Rattle.hex.specs.Hex.{hex_digit_value}
use Rattle.ossl_codes.specs.declared.param.Direction.TheVariants.{Encrypt}
use Rattle.ossl_codes.specs.declared.param.KdfMode.TheVariants.{Both}
use Rattle.ossl_op.specs.declared.params.Params.{Params}

-- the bytes of hexadecimal digits
abbrev pub unhex : List ℕ → List ℕ
unhex (high ∷ low ∷ digits) =
    (unwrap_or (hex_digit_value high) 0 * 16 + unwrap_or (hex_digit_value low) 0) ∷ unhex digits
unhex _ = []

-- no parameter is given: encryption, with padding, both steps
abbrev pub plain : Params
plain =
    record { direction = Encrypt; pad = true; key = None; iv = None; salt = None; info = None; mode = Both; len = None }

-- with a key
abbrev pub keyed : List ℕ → Params
keyed key = record plain { key = Some key }

-- with a key and an IV
abbrev pub with_iv : List ℕ → List ℕ → Params
with_iv key iv = record plain { key = Some key; iv = Some iv }
