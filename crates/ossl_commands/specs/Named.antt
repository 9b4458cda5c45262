-- Files that are found by their names.
use Rattle.std.specs.Prelude.{ℕ, Option, Some, None, Vec, List, if◌then◌else◌}
use Rattle.std.specs.declared.alloc.Global.{Global}
use Rattle.std.specs.BTreeMap.{BTreeMap, get_by}
use Rattle.std.specs.Cmp.Lexicographic.{slice_cmp}
use Rattle.std.specs.Ordering.{nat_cmp}
use Rattle.std.specs.List.{list_any}
use Rattle.std.specs.Str.{bytes_eq}
use Rattle.ossl_commands.specs.Words.{Files, place_of}

-- what stands at a name
abbrev pub found : BTreeMap (Vec ℕ Global) ℕ → List ℕ → Option ℕ
found places name = get_by (λ key. slice_cmp nat_cmp name key.items) places

-- where a file stands among these, if it does
abbrev pub found_among : Files → List ℕ → Option ℕ
found_among files name = if list_any (bytes_eq name) files then Some (place_of files name) else None
