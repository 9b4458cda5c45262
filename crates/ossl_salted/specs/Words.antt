-- The words after the program's name.
use Rattle.std.specs.Prelude.{ℕ, ◌+◌, ◌-◌, ◌*◌, Bool, false, ◌&&◌, ◌||◌, not, nat_eq, nat_le, nat_lt, if◌then◌else◌}
use Rattle.std.specs.Prelude.{List, [], ◌∷◌, length, codes, slice_index, Some, None}
use Rattle.std.specs.declared.option.Option.{Option}
use Rattle.std.specs.Result.{result_ok}
use Rattle.std.specs.Str.{bytes_eq}
use Rattle.std.specs.declared.string.String.{String}
use Rattle.std.specs.String.{string_bytes}
use Rattle.hex.specs.Hex.{decode_sized}
use Rattle.ossl_salted.specs.declared.job.Job.{Job}
use Rattle.ossl_salted.specs.declared.job.KeySize.{KeySize}
use Rattle.ossl_salted.specs.declared.job.KeySize.TheVariants.{Bits128, Bits192, Bits256}

-- what is asked for: the salt, where a text is to be encrypted; the name of the password's file, the bits of the key,
-- and the rounds
pub record Asked : Type 0 where
  pub salt : Option (List ℕ)
  pub name : List ℕ
  pub bits : ℕ
  pub rounds : ℕ

-- the number that decimal digits say after those that said n, none where a byte is no digit
abbrev pub number_from : ℕ → List ℕ → Option ℕ
number_from n [] = Some n
number_from n (c ∷ cs) = if nat_le 48 c && nat_le c 57 then number_from (n * 10 + (c - 48)) cs else None

-- a number of rounds is one from 1 to 10,000,000
abbrev pub within_rounds : Option ℕ → Option ℕ
within_rounds None = None
within_rounds (Some n) = if nat_le 1 n && nat_le n 10000000 then Some n else None

-- the rounds: decimal digits, of which there are 8 at most, without a leading zero
abbrev pub rounds_of : List ℕ → Option ℕ
rounds_of text =
    if nat_eq (slice_index text 0) 48 || nat_lt 8 (length text) then None else within_rounds (number_from 0 text)

-- the bits of the key
abbrev pub bits_of : List ℕ → Option ℕ
bits_of text =
    if bytes_eq text (codes "128") then Some 128
    else if bytes_eq text (codes "192") then Some 192
    else if bytes_eq text (codes "256") then Some 256
    else None

-- the salt: 16 hexadecimal digits
abbrev pub salt_of : List ℕ → Option (List ℕ)
salt_of text = result_ok (decode_sized text 8)

-- a file's name is not empty and does not begin with `-`
abbrev pub is_file_name : List ℕ → Bool
is_file_name [] = false
is_file_name (c ∷ cs) = not (nat_eq c 45)

-- the bits with the rounds, where both are said well
abbrev pub options_with : Option ℕ → Option ℕ → Option (ℕ × ℕ)
options_with (Some bits) (Some rounds) = Some (bits, rounds)
options_with _ _ = None

-- a salt or none, a file's name and the options
abbrev pub asked_with : Option (List ℕ) → List ℕ → Option (ℕ × ℕ) → Option Asked
asked_with salt name None = None
asked_with salt name (Some options) =
    if is_file_name name then Some (record { salt = salt; name = name; bits = options.0; rounds = options.1 }) else None

-- the same with a salt, where that is said well
abbrev pub salted_with : Option (List ℕ) → List ℕ → Option (ℕ × ℕ) → Option Asked
salted_with None name options = None
salted_with (Some salt) name options = asked_with (Some salt) name options

module _ {A : Type 0} where
  -- `--rounds N` or nothing, which is 10,000
  abbrev pub rounds_said : List (String A) → Option ℕ
  rounds_said [] = Some 10000
  rounds_said (word ∷ value ∷ []) =
      if bytes_eq (string_bytes word) (codes "--rounds") then rounds_of (string_bytes value) else None
  rounds_said _ = None

  -- `--bits B` or nothing, which is 256; then the rounds
  abbrev pub options_said : List (String A) → Option (ℕ × ℕ)
  options_said (word ∷ value ∷ rest) =
      if bytes_eq (string_bytes word) (codes "--bits")
      then options_with (bits_of (string_bytes value)) (rounds_said rest)
      else options_with (Some 256) (rounds_said (word ∷ value ∷ rest))
  options_said words = options_with (Some 256) (rounds_said words)

  -- `SALT PASSFILE` and the options
  abbrev pub encryption_asked : List (String A) → Option Asked
  encryption_asked (salt ∷ name ∷ options) =
      salted_with (salt_of (string_bytes salt)) (string_bytes name) (options_said options)
  encryption_asked _ = None

  -- `PASSFILE` and the options
  abbrev pub decryption_asked : List (String A) → Option Asked
  decryption_asked (name ∷ options) = asked_with None (string_bytes name) (options_said options)
  decryption_asked _ = None

  -- `encrypt` or `decrypt`, and the words of that
  abbrev pub asked : List (String A) → Option Asked
  asked (direction ∷ words) =
      if bytes_eq (string_bytes direction) (codes "encrypt") then encryption_asked words
      else if bytes_eq (string_bytes direction) (codes "decrypt") then decryption_asked words
      else None
  asked _ = None

-- the bits of a size
abbrev pub bits_in : KeySize → ℕ
bits_in Bits128 = 128
bits_in Bits192 = 192
bits_in Bits256 = 256

-- what a job asks for
abbrev pub asked_by : Job → Asked
asked_by job = record { salt = job.salt; name = job.name.now; bits = bits_in job.size; rounds = job.rounds }
