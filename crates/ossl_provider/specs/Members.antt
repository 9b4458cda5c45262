-- Lists of the numbers of instances.
use Rattle.std.specs.Prelude.{ℕ, Bool, List, nat_eq, not}
use Rattle.std.specs.List.{filter}
use Rattle.ossl_base.specs.Members.{is_distinct_by}
pub use Rattle.ossl_base.specs.Members.{is_in}

-- the numbers but i, in their order
abbrev pub without : ℕ → List ℕ → List ℕ
without i xs = filter (λ x. not (nat_eq x i)) xs

-- no number stands twice
abbrev pub is_distinct : List ℕ → Bool
is_distinct xs = is_distinct_by nat_eq xs
