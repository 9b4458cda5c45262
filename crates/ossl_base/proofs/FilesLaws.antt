-- A reading in memory that does not fail.
use Rattle.std.proofs.Common.{◌≡◌, ℕ, false, List, refl}
use Rattle.std.specs.Prelude.{Some}
use Rattle.ossl_base.specs.Files.{entry_of}
use Rattle.ossl_base.specs.Memory.{FilesView, is_listed, reading_fails}

-- the name is there and the call is not listed
pub is_served : (s : FilesView) (name : List ℕ) (e : List ℕ × List ℕ) → entry_of s.entries name ≡ Some e → is_listed s.calls s.fail ≡ false → reading_fails s name ≡ false
is_served s name e p q = rw (p, q) refl
