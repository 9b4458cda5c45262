-- Promises of whole runs: a text comes back, and a run that nothing stands against comes to its end.
use Rattle.std.specs.Prelude.{ℕ, ◌≡◌, ◌≢◌, ◌<◌, ◌≤◌, ◌⊎◌, List, length, None, Some, IsOk}
use Rattle.std.specs.List.{All}
use Rattle.std.specs.Io.KnownBytes.{Appends}
use Rattle.ossl_base.specs.Files.{Entries, content_of}
use Rattle.ossl_salted.specs.Course.{most_bytes, most_password}
use Rattle.ossl_salted.specs.File.{password_of, salted_file, unsealed}
use Rattle.ossl_salted.specs.Outside.{Looking, LookFailed, Reading, ReadFailed, Writing, WriteFailed}
use Rattle.ossl_salted.specs.Words.{Asked}

-- the file of the password and the source are told, and are these
pub record AreTold (a : Asked) (s : Reading) (f : Looking) (content input : List ℕ) : Type 0 where
  pub told : Entries
  pub files : f.entries ≡ Some told
  pub password : content_of told a.name ≡ Some content
  pub source : s.left ≡ Some input

-- a run that decrypts the file of a text p, with the password, the rounds and the bits that it was encrypted with, ends
-- neither by its header nor by its last block, and wrote the text p at status 0
abbrev pub BringsBack : Asked → ℕ → Reading → Looking → Writing → Type 0
BringsBack a status s f k = (p salt content : List ℕ) → a.salt ≡ None → All (λ byte. byte < 256) p → length salt ≡ 8
    → AreTold a s f content (salted_file p (password_of content) salt a.rounds a.bits)
    → (status ≢ 5) × (status ≢ 6) × (status ≡ 0 → Appends k.taken k.taken' p)

-- the limits are kept, no fault is counted, and a file that is to be decrypted is not refused
pub record IsUnhindered (a : Asked) (s : Reading) (f : Looking) (k : Writing) (content input : List ℕ) : Type 0 where
  pub password : length content ≤ most_password
  pub bytes : length input ≤ most_bytes
  pub read : ReadFailed s → ⊥
  pub looked : LookFailed f → ⊥
  pub written : WriteFailed k → ⊥
  pub unsealed : a.salt ≡ None → IsOk (unsealed input (password_of content) a.rounds a.bits)

-- then the run comes to its end, or memory was refused
abbrev pub Completes : Asked → ℕ → Reading → Looking → Writing → Type 0
Completes a status s f k = (content input : List ℕ) → AreTold a s f content input → IsUnhindered a s f k content input
    → (status ≡ 0) ⊎ (status ≡ 9)
