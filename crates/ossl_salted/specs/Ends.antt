-- The ends of a run, and their statuses.
use Rattle.std.specs.Prelude.{ℕ, ◌≡◌, ◌⊎◌}
use Rattle.ossl_salted.specs.declared.end.End.{End}
use Rattle.ossl_salted.specs.declared.end.End.TheVariants.{Done, Usage, Unread, Unwritten}
use Rattle.ossl_salted.specs.declared.end.End.TheVariants.{Header, FinalBlock, TooLong, NoMemory}

abbrev pub status_of : End → ℕ
status_of Done = 0
status_of Usage = 2
status_of Unread = 3
status_of Unwritten = 4
status_of Header = 5
status_of FinalBlock = 6
status_of TooLong = 7
status_of NoMemory = 9

-- the statuses there are
abbrev pub IsStatus : ℕ → Type 0
IsStatus n = (n ≡ 0) ⊎ (n ≡ 2) ⊎ (n ≡ 3) ⊎ (n ≡ 4) ⊎ (n ≡ 5) ⊎ (n ≡ 6) ⊎ (n ≡ 7) ⊎ (n ≡ 9)

-- why a text does not go through to its end: a read or a write failed, it is too long, or memory was refused
abbrev pub IsCause : End → (read_failed write_failed long : Type 0) → Type 0
IsCause Unread read_failed write_failed long = read_failed
IsCause Unwritten read_failed write_failed long = write_failed
IsCause TooLong read_failed write_failed long = long
IsCause NoMemory read_failed write_failed long = Unit {0}
IsCause _ read_failed write_failed long = ⊥
