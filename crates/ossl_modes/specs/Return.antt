-- CBC with padding brings a text back.
use Rattle.std.specs.Prelude.{◌≡◌, ℕ, ◌<◌, List, Ok, true, false}
use Rattle.std.specs.List.{All}
use Rattle.ossl_aes.specs.Inverse.{IsBlock}
use Rattle.ossl_modes.specs.declared.kinds.ModeKind.TheVariants.{Cbc}
use Rattle.ossl_modes.specs.Modes.{outcome}

-- a text of bytes is encrypted in whole blocks of bytes, which are decrypted to the text (SP 800-38A, 6.2)
pub record ComesBack (e d : List ℕ → List ℕ) (iv text : List ℕ) : Type 0 where
  pub encrypted : List ℕ
  pub is_encrypted : outcome e d Cbc false true iv text ≡ Ok encrypted
  pub comes_back : outcome e d Cbc true true iv encrypted ≡ Ok text

-- so does every text, where d undoes e
abbrev pub AllComeBack : (List ℕ → List ℕ) → (List ℕ → List ℕ) → Type 0
AllComeBack e d = (iv text : List ℕ) → IsBlock iv → All (λ byte. byte < 256) text → ComesBack e d iv text
