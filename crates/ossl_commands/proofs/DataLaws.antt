-- The byte that is copied, and how often.
use Rattle.std.proofs.Common.{◌≡◌, ℕ, List, [], ◌∷◌, refl, sym, ap, ◌∙◌, Option, None, unwrap_or, Result, Ok, Err}
use Rattle.std.specs.Prelude.{◌↔◌, Some}
use Rattle.std.specs.Result.{result_ok}
use Rattle.hex.specs.Hex.{decode_of, decode_sized}
use Rattle.hex.specs.declared.error.FromHexError.{FromHexError}
use Rattle.hex.proofs.HexLemmas.{decode_of-ok, decode_sized-ok, decode_sized-twice}
use Rattle.ossl_commands.specs.Words.{copies_of, hex_of}

-- a result with a value
good : (r : Result (List ℕ) FromHexError) (bytes : List ℕ) → result_ok r ≡ Some bytes → r ≡ Ok bytes
good (Ok got) bytes is = ap (λ said. Ok (unwrap_or said [])) is
good (Err e) bytes is = cc is

-- room for one byte is enough for just the texts that say one byte
pub one_byte : (text : List ℕ) (byte : ℕ)
    → (decode_sized text 1 ≡ Ok (byte ∷ [])) ↔ (hex_of text ≡ Some (byte ∷ []))
one_byte text byte = (
  λ is.
      let twice = decode_sized-twice text 1 (decode_sized-ok text 1 (byte ∷ []) is) in
      ap result_ok (sym twice ∙ is),
  λ is.
      let decoded = good (decode_of text) (byte ∷ []) is in
      let long = (decode_of-ok text (byte ∷ []) decoded).2 in
      decode_sized-twice text 1 long ∙ decoded,
)

-- the byte that is said
pub said : (byte : ℕ) (bytes : Option (List ℕ))
    → ((one : ℕ) → (Some byte ≡ Some one) ↔ (bytes ≡ Some (one ∷ [])))
    → bytes ≡ Some (byte ∷ [])
said byte bytes is = (is byte).0 refl

-- no copies where no byte is said
pub uncopied : (count : Option ℕ) (bytes : Option (List ℕ))
    → ((one : ℕ) → (None ≡ Some one) ↔ (bytes ≡ Some (one ∷ [])))
    → copies_of count bytes ≡ None
uncopied None bytes is = refl
uncopied (Some n) None is = refl
uncopied (Some n) (Some []) is = refl
uncopied (Some n) (Some (byte ∷ [])) is = cc ((is byte).1 refl)
uncopied (Some n) (Some (byte ∷ next ∷ rest)) is = refl
