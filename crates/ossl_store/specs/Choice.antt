-- The rows that stand at places of the index.
use Rattle.std.specs.Prelude.{ℕ, List, [], map, Vec, Option, None, Some, slice_get}
use Rattle.std.specs.List.{filter_map}
use Rattle.std.specs.BTreeMap.{get}
use Rattle.std.specs.Ordering.{nat_cmp}
use Rattle.std.specs.declared.alloc.Global.{Global}
use Rattle.ossl_store.specs.declared.offered.Offered.{Offered}
use Rattle.ossl_store.specs.declared.choice.Offer.{Offer}
use Rattle.ossl_store.specs.Best.{Candidate, candidate}
use Rattle.ossl_store.specs.Stored.{Offers}

-- the rows at these places
abbrev pub picked : List Offered → List ℕ → List Offered
picked rows places = filter_map (slice_get rows) places

abbrev pub offer_candidates : Option Offer → List ℕ → List Candidate
offer_candidates None places = []
offer_candidates (Some offer) places = map (candidate offer.instance) (picked offer.rows.items places)

-- the rows of one run
abbrev pub run_candidates : Offers → ℕ × Vec ℕ Global → List Candidate
run_candidates offers run = offer_candidates (get nat_cmp offers run.0) run.1.items
