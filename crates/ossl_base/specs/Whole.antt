-- What a whole reading or writing leaves behind where it was refused.
use Rattle.std.specs.Prelude.{ℕ, ◌≤◌, List, length, take}
use Rattle.std.specs.declared.option.Option.{Option}
use Rattle.std.specs.Io.KnownBytes.{Appends, Consumes}

-- known bytes lose some of their first ones
abbrev pub ConsumesSome : Option (List ℕ) → Option (List ℕ) → Type 0
ConsumesSome old new = (bs : List ℕ) × Consumes old new bs

-- known bytes grow by the first bytes of bs
abbrev pub AppendsPrefix : Option (List ℕ) → Option (List ℕ) → List ℕ → Type 0
AppendsPrefix old new bs = (n : ℕ) × (n ≤ length bs) × Appends old new (take n bs)
