-- What a store was offered and still has (provider(7)).
use Rattle.std.specs.Prelude.{ℕ, Bool, not, nat_eq, nat_lt, List, [], ◌∷◌, filter, if◌then◌else◌}
use Rattle.std.specs.List.{list_any}
use Rattle.ossl_store.specs.declared.offered.Offered.{Offered}

-- the rows of an active instance, in its provider's order; its rank says where the provider stands in the order of
-- activation
pub record Offering : Type 0 where
  pub instance : ℕ
  pub rank : ℕ
  pub rows : List Offered

-- a further offering goes to its place by rank
abbrev pub placed : Offering → List Offering → List Offering
placed o [] = o ∷ []
placed o (p ∷ ps) = if nat_lt o.rank p.rank then o ∷ p ∷ ps else p ∷ placed o ps

-- the offerings of other instances
abbrev pub without : ℕ → List Offering → List Offering
without instance offerings = filter (λ o. not (nat_eq o.instance instance)) offerings

-- an offering is of this instance
abbrev pub has_instance : ℕ → List Offering → Bool
has_instance instance offerings = list_any (λ o. nat_eq o.instance instance) offerings

-- an offering has this rank
abbrev pub has_rank : ℕ → List Offering → Bool
has_rank rank offerings = list_any (λ o. nat_eq o.rank rank) offerings
