-- What a script shows.
use Rattle.std.specs.Prelude.{ℕ, Option, Some, None, List, []}
use Rattle.std.specs.BTreeMap.{BTreeMap, get}
use Rattle.std.specs.Ordering.{nat_cmp}
use Rattle.std.specs.declared.alloc.Global.{Global}
use Rattle.std.specs.declared.vec.Vec.{Vec}
use Rattle.ossl_commands.specs.declared.command.Line.{Line}

-- how many lines its text has, skipped ones too, its commands, and the files that they name
pub record ScriptView : Type 0 where
  pub lines : ℕ
  pub commands : List Line
  pub files : List (List ℕ)

-- what stands in a list that there may be
abbrev pub items_in : Option (Vec ℕ Global) → List ℕ
items_in None = []
items_in (Some v) = v.items

-- the places that a caller has
abbrev pub places_in : BTreeMap ℕ (Vec ℕ Global) → ℕ → List ℕ
places_in own caller = items_in (get nat_cmp own caller)
