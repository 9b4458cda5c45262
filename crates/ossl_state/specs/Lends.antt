-- What a list of items ends as, where a `&mut` to one of them is returned.
use Rattle.std.specs.Prelude.{ℕ, List, slice_set}
use Rattle.std.specs.Borrow.{Lends, Fml, RattleType, MutBor}
use Rattle.ossl_state.specs.contracts.items.Items.{the_row}

-- once the borrow r ends, the index has the last value written through r
abbrev pub LendsItem : (T : RattleType) → MutBor (List T.Denot) → ℕ → MutBor T.Denot → Fml
LendsItem T v i r = Lends (the_row T) T v r (slice_set v.now i)
