-- A set of names, as a test.
use Rattle.std.specs.Prelude.{ℕ, Bool, List}
use Rattle.std.specs.BTreeSet.{contains_by}
use Rattle.std.specs.Cmp.Lexicographic.{slice_cmp}
use Rattle.std.specs.Ordering.{nat_cmp}
use Rattle.ossl_property.specs.declared.names.Names.{Names}

-- whether the set has the name
unfoldable pub has : Names → List ℕ → Bool
has names name = contains_by (λ key. slice_cmp nat_cmp name key.items) names.kept
