-- Where rows stand in a store's index: under their operation and number, and there by the rank of their offering.
use Rattle.std.specs.Prelude.{◌≡◌, ℕ, ◌+◌, Bool, false, ◌&&◌, nat_eq, List, [], ◌∷◌, Vec, Option, None, Some}
use Rattle.std.specs.Prelude.{if◌then◌else◌}
use Rattle.std.specs.List.{list_any}
use Rattle.std.specs.BTreeMap.{BTreeMap, get}
use Rattle.std.specs.Ordering.{nat_cmp}
use Rattle.std.specs.declared.alloc.Global.{Global}
use Rattle.ossl_codes.specs.declared.code.Operation.{Operation}
use Rattle.ossl_codes.specs.declared.code.Operation.TheVariants.{Digest, Cipher, Mac, Kdf}
use Rattle.ossl_codes.specs.contracts.code.OperationPartialEq.TheImpl
use Rattle.ossl_store.specs.declared.offered.Offered.{Offered}
use Rattle.ossl_store.specs.declared.shelves.Shelves.{Shelves}
use Rattle.ossl_store.specs.Best.{is_under}

-- by rank, the places of rows in their offering
abbrev pub Runs : Type 0
Runs = BTreeMap ℕ (Vec ℕ Global)

abbrev pub items_of : Option (Vec ℕ Global) → List ℕ
items_of None = []
items_of (Some places) = places.items

-- the places of a rank
abbrev pub run_at : Runs → ℕ → List ℕ
run_at runs rank = items_of (get nat_cmp runs rank)

-- by number
abbrev pub Shelf : Type 0
Shelf = BTreeMap ℕ Runs

abbrev pub run_of : Option Runs → ℕ → List ℕ
run_of None rank = []
run_of (Some runs) rank = run_at runs rank

-- the places of a number and a rank
abbrev pub places_on : Shelf → ℕ → ℕ → List ℕ
places_on shelf number rank = run_of (get nat_cmp shelf number) rank

-- the shelf of an operation
abbrev pub shelf_of : Shelves → Operation → Shelf
shelf_of shelves Digest = shelves.digests
shelf_of shelves Cipher = shelves.ciphers
shelf_of shelves Mac = shelves.macs
shelf_of shelves Kdf = shelves.kdfs

abbrev pub same_operation : Operation → Operation → Bool
same_operation = TheImpl.ghosts.eq

-- the places of an operation, a number and a rank
abbrev pub places_at : Shelves → Operation → ℕ → ℕ → List ℕ
places_at shelves op number rank = places_on (shelf_of shelves op) number rank

-- these places stand at the rank, and others where they stood
pub record RunsChange (old new : Runs) (rank : ℕ) (places : List ℕ) : Type 0 where
  pub at : (r : ℕ) → run_at new r ≡ (if nat_eq rank r then places else run_at old r)

pub record ShelfChanges (old new : Shelf) (number rank : ℕ) (places : List ℕ) : Type 0 where
  pub at : (n r : ℕ) → places_on new n r ≡ (if nat_eq number n && nat_eq rank r then places else places_on old n r)

pub record ShelvesChange (old new : Shelves) (op : Operation) (number rank : ℕ) (places : List ℕ) : Type 0 where
  pub at : (o : Operation) (n r : ℕ)
      → places_at new o n r ≡ (if same_operation op o && nat_eq number n && nat_eq rank r then places
      else places_at old o n r)

-- both have the same places
pub record IsSameRuns (old new : Runs) : Type 0 where
  pub at : (r : ℕ) → run_at new r ≡ run_at old r

pub record IsSameShelf (old new : Shelf) : Type 0 where
  pub at : (n r : ℕ) → places_on new n r ≡ places_on old n r

pub record AreSame (old new : Shelves) : Type 0 where
  pub at : (o : Operation) (n r : ℕ) → places_at new o n r ≡ places_at old o n r

-- nothing stands anywhere
pub record AreEmpty (shelves : Shelves) : Type 0 where
  pub at : (o : Operation) (n r : ℕ) → places_at shelves o n r ≡ []

-- nothing stands at the rank
pub record IsClear (shelves : Shelves) (rank : ℕ) : Type 0 where
  pub at : (o : Operation) (n : ℕ) → places_at shelves o n rank ≡ []

-- the places, counted from a number on, of the rows that pass a test
abbrev pub positions_from : (Offered → Bool) → ℕ → List Offered → List ℕ
positions_from test k [] = []
positions_from test k (row ∷ rows) =
    if test row then k ∷ positions_from test (k + 1) rows else positions_from test (k + 1) rows

abbrev pub positions : (Offered → Bool) → List Offered → List ℕ
positions test rows = positions_from test 0 rows

-- the rows of an offering stand at its rank, each under its operation and number, and others where they stood
pub record AreShelved (old new : Shelves) (rank : ℕ) (rows : List Offered) : Type 0 where
  pub at : (o : Operation) (n r : ℕ)
      → places_at new o n r ≡ (if nat_eq rank r then positions (is_under o n) rows else places_at old o n r)

-- at most places that the rows have at their rank changed
pub record KeepsOthers (old new : Shelves) (rank : ℕ) (rows : List Offered) : Type 0 where
  pub at : (o : Operation) (n r : ℕ) → (nat_eq rank r && list_any (is_under o n) rows) ≡ false
      → places_at new o n r ≡ places_at old o n r

-- the rows of an offering stand nowhere at its rank
pub record AreGone (old new : Shelves) (rank : ℕ) (rows : List Offered) : Type 0 where
  pub at : (o : Operation) (n r : ℕ)
      → places_at new o n r ≡ (if nat_eq rank r && list_any (is_under o n) rows then [] else places_at old o n r)
