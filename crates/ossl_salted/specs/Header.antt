-- The header of a salted file, as it is read.
use Rattle.std.specs.Prelude.{ℕ, ◌≡◌, ◌<◌, ◌⊎◌, if◌then◌else◌, List, length, take, drop, Result, Ok, Err}
use Rattle.std.specs.declared.option.Option.{Option}
use Rattle.std.specs.Io.KnownBytes.{Consumes, IsAtEnd}
use Rattle.std.specs.Str.{bytes_eq}
use Rattle.ossl_salted.specs.declared.end.End.{End}
use Rattle.ossl_salted.specs.declared.end.End.TheVariants.{Unread, Header}
use Rattle.ossl_salted.specs.File.{magic}
use Rattle.ossl_salted.specs.Outside.{Reading, ReadFailed}

-- the salt of 16 bytes, where the first 8 of them are those of every file
abbrev pub salt_after : List ℕ → Result (List ℕ) End
salt_after head = if bytes_eq (take 8 head) magic then Ok (drop 8 head) else Err Header

-- 16 bytes were read, and behind those of every file is the salt
pub record HasHeader (left left' : Option (List ℕ)) (salt : List ℕ) : Type 0 where
  pub head : List ℕ
  pub consumes : Consumes left left' head
  pub len : length head ≡ 16
  pub is : salt_after head ≡ Ok salt

-- why there is no header: a read failed; or fewer bytes were there; or the first are others
abbrev pub IsNoHeader : End → List ℕ → Reading → Type 0
IsNoHeader Unread head s = ReadFailed s
IsNoHeader Header head s =
    ((length head < 16) × IsAtEnd s.left') ⊎ ((length head ≡ 16) × (salt_after head ≡ Err Header))
IsNoHeader _ head s = ⊥

pub record HasNone (s : Reading) (end : End) : Type 0 where
  pub head : List ℕ
  pub consumes : Consumes s.left s.left' head
  pub cause : IsNoHeader end head s
