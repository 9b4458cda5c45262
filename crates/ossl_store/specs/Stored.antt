-- How a store's parts agree.
use Rattle.std.specs.Prelude.{◌≡◌, ℕ, List, [], ◌∷◌, map, Option, None, Some, option_map}
use Rattle.std.specs.BTreeMap.{BTreeMap, get, IsOrdered}
use Rattle.std.specs.Ordering.{nat_cmp}
use Rattle.ossl_codes.specs.declared.code.Operation.{Operation}
use Rattle.ossl_store.specs.declared.offered.Offered.{Offered}
use Rattle.ossl_store.specs.declared.shelves.Shelves.{Shelves}
use Rattle.ossl_store.specs.declared.choice.Offer.{Offer}
use Rattle.ossl_store.specs.Offering.{Offering}
use Rattle.ossl_store.specs.Best.{Candidate, candidate, is_under}
use Rattle.ossl_store.specs.Shelves.{places_at, positions}

-- by rank, what an instance offers
abbrev pub Offers : Type 0
Offers = BTreeMap ℕ Offer

abbrev pub offering : ℕ × Offer → Offering
offering e = record { instance = e.1.instance; rank = e.0; rows = e.1.rows.items }

-- all offerings, by rank
abbrev pub offerings : Offers → List Offering
offerings offers = map offering offers.entries

abbrev pub rows_of : Option Offer → List Offered
rows_of None = []
rows_of (Some offer) = offer.rows.items

-- the rows of a rank
abbrev pub rows_at : Offers → ℕ → List Offered
rows_at offers rank = rows_of (get nat_cmp offers rank)

-- each instance is known by its rank, and the rows stand on the shelves by their places
pub record IsStored (ranks : BTreeMap ℕ ℕ) (offers : Offers) (shelves : Shelves) : Type 0 where
  pub ordered : IsOrdered nat_cmp offers
  pub ranked : (rank : ℕ) (offer : Offer) → get nat_cmp offers rank ≡ Some offer
      → get nat_cmp ranks offer.instance ≡ Some rank
  pub known : (instance rank : ℕ) → get nat_cmp ranks instance ≡ Some rank
      → option_map (λ offer. offer.instance) (get nat_cmp offers rank) ≡ Some instance
  pub shelved : (op : Operation) (number rank : ℕ)
      → places_at shelves op number rank ≡ positions (is_under op number) (rows_at offers rank)
