-- Worked histories of loads, by computation: activations, the order in which providers became active, the fallback, and what holds
-- a provider up.
use Rattle.std.proofs.Common.{◌≡◌, ℕ, Bool, true, false, nat_eq, List, [], ◌∷◌, refl}
use Rattle.std.proofs.lemmas.Bool.{eq-eqb}
use Rattle.std.specs.Prelude.{codes, None}
use Rattle.ossl_base.specs.declared.entry.Entry.{Entry}
use Rattle.ossl_provider.specs.Sheet.{Facts}
use Rattle.ossl_codes.specs.declared.code.Code.TheVariants.{Sha256}
use Rattle.ossl_codes.specs.declared.code.Operation.TheVariants.{Digest}
use Rattle.ossl_provider.specs.declared.table.TableRow.{TableRow}
use Rattle.ossl_state.specs.declared.call.Call.{Call}
use Rattle.ossl_state.specs.declared.call.Call.TheVariants.{Load, Unload, Fetch, UpRef, Free, NewCtx, FreeCtx, CloseLib}
use Rattle.ossl_state.specs.declared.call.Reply.{Reply}
use Rattle.ossl_state.specs.declared.call.Reply.TheVariants.{Loaded, Fetched, Made, Done, NoLib, NoProvider, StartRefused, Unsupported}
use Rattle.ossl_names.specs.Addition.{number_for}
use Rattle.ossl_names.specs.Groups.{number_of, with_names}
use Rattle.ossl_property.specs.Reading.{list_at}
use Rattle.ossl_property.specs.Said.{definition_said}
use Rattle.ossl_state.specs.History.{Fixed, IsLegal, IsNext, state_after}
use Rattle.ossl_state.specs.State.{up_at, starts_at}

-- two numbers that a test tells apart
apart : (m n : ℕ) → nat_eq m n ≡ false → m ≡ n → ⊥
apart m n differ same = let equal = eq-eqb m n same in cc

-- Boxes of which each has one row of the same name, or none.

abbrev pub row : TableRow
row = record { names = codes "SHA2-256"; definition = []; code = Sha256 }

abbrev pub named : List ℕ → List TableRow → Facts
named name rows = record { name = name; rows = rows; admits = λ code len. true }

abbrev over : List Facts → List ℕ → Fixed
over facts opened = record { facts = facts; contexts = 1; opened = opened }

abbrev pub entry : ℕ → Call → Reply → Entry Call Reply
entry c call reply = record { caller = c; call = call; reply = reply }

abbrev fetch : Call
fetch = Fetch 0 Digest (codes "SHA2-256") []

-- 1. Two providers with equal rows: the one that became active first is taken, also when its first activation has gone.

abbrev two_boxes : Fixed
two_boxes = over (named (codes "A") (row ∷ []) ∷ named (codes "B") (row ∷ []) ∷ []) (0 ∷ 0 ∷ [])

abbrev load_a : ℕ → ℕ → Entry Call Reply
load_a c n = entry c (Load 0 (codes "A") false) (Loaded n 1 0)

abbrev three_loads : List (Entry Call Reply)
three_loads = load_a 1 1 ∷ entry 2 (Load 0 (codes "B") false) (Loaded 2 2 0) ∷ load_a 2 3 ∷ []

abbrev one_unloaded : List (Entry Call Reply)
one_unloaded = load_a 1 1 ∷ entry 2 (Load 0 (codes "B") false) (Loaded 2 2 0) ∷ load_a 2 3 ∷ entry 1 (Unload 1) Done ∷ []

abbrev ties : List (Entry Call Reply)
ties =
    load_a 1 1
    ∷ entry 2 (Load 0 (codes "B") false) (Loaded 2 2 0)
    ∷ load_a 2 3
    ∷ entry 1 (Unload 1) Done
    ∷ entry 1 fetch (Fetched 5 (codes "A") 1 0 Sha256)
    ∷ entry 1 (NewCtx 5 None 0) (Made 6)
    ∷ entry 1 (FreeCtx 6) Done
    ∷ entry 1 (Free 5) Done
    ∷ entry 2 (Unload 3) Done
    ∷ entry 2 (Unload 2) Done
    ∷ entry 0 (CloseLib 0) Done
    ∷ []

pub ties_legal : IsLegal two_boxes ties
unfolding definition_said list_at number_of number_for with_names
ties_legal = (
  record { allowed = record { lib = refl; tokens = refl }; answers = (refl, refl) },
  (
    record { allowed = record { lib = refl; tokens = refl }; answers = (refl, refl) },
    (
      record { allowed = record { lib = refl; tokens = refl }; answers = (refl, refl) },
      (
        record { allowed = record { lib = refl; tokens = refl }; answers = refl },
        (
          record { allowed = record { lib = refl; tokens = refl }; answers = (refl, refl) },
          (
            record { allowed = record { lib = refl; tokens = refl }; answers = (refl, refl) },
            (
              record { allowed = record { lib = refl; tokens = refl }; answers = tt },
              (
                record { allowed = record { lib = refl; tokens = refl }; answers = tt },
                (
                  record { allowed = record { lib = refl; tokens = refl }; answers = refl },
                  (
                    record { allowed = record { lib = refl; tokens = refl }; answers = refl },
                    (
                      record { allowed = record { lib = refl; tokens = refl }; answers = refl },
                      tt,
                    ),
                  ),
                ),
              ),
            ),
          ),
        ),
      ),
    ),
  ),
)

-- the first is up
pub first_up : up_at (state_after two_boxes one_unloaded) 0 ≡ 1 ∷ []
unfolding definition_said list_at number_of number_for with_names
first_up = refl

-- so is the other
pub other_up : up_at (state_after two_boxes one_unloaded) 1 ≡ 2 ∷ []
unfolding definition_said list_at number_of number_for with_names
other_up = refl

-- the first stops with its last activation
pub first_stops : up_at (state_after two_boxes (load_a 1 1 ∷ load_a 2 2 ∷ entry 1 (Unload 1) Done ∷ entry 2 (Unload 2) Done ∷ [])) 0 ≡ []
unfolding definition_said list_at number_of number_for with_names
first_stops = refl

-- though it has two, it was started once
pub first_started_once : starts_at (state_after two_boxes three_loads) 0 ≡ 1
unfolding definition_said list_at number_of number_for with_names
first_started_once = refl

-- the other provider's row is not taken
pub not_the_later : IsNext two_boxes one_unloaded (entry 1 fetch (Fetched 5 (codes "B") 2 0 Sha256)) → ⊥
unfolding definition_said list_at number_of number_for with_names
not_the_later h = let answers = h.answers.1 in apart 2 1 refl (cc)

-- an activation is its caller's own
pub foreign_activation : IsNext two_boxes three_loads (entry 1 (Unload 2) Done) → ⊥
unfolding definition_said list_at number_of number_for with_names
foreign_activation h = let unowned : false ≡ true = h.allowed.tokens in cc

-- one that was given back is not owned
pub returned_twice : IsNext two_boxes one_unloaded (entry 1 (Unload 1) Done) → ⊥
unfolding definition_said list_at number_of number_for with_names
returned_twice h = let unowned : false ≡ true = h.allowed.tokens in cc

-- a second load of an active provider starts nothing
pub second_start : IsNext two_boxes (load_a 1 1 ∷ []) (entry 2 (Load 0 (codes "A") false) (Loaded 2 2 0)) → ⊥
unfolding definition_said list_at number_of number_for with_names
second_start h = let answers = h.answers.1 in apart 2 1 refl (cc)

-- nor can its start be refused
pub active_refuses : IsNext two_boxes (load_a 1 1 ∷ []) (entry 2 (Load 0 (codes "A") false) (StartRefused (codes "A"))) → ⊥
unfolding definition_said list_at number_of number_for with_names
active_refuses h = let up = h.answers.2 in cc

-- nor another's in its place
pub another_refuses : IsNext two_boxes [] (entry 2 (Load 0 (codes "A") false) (StartRefused (codes "B"))) → ⊥
unfolding definition_said list_at number_of number_for with_names
another_refuses h = let named = h.answers.1 in apart 66 65 refl (cc)

-- a name that no box has
pub no_such_box : IsNext two_boxes [] (entry 1 (Load 0 (codes "C") false) NoProvider)
unfolding definition_said list_at number_of number_for with_names
no_such_box = record { allowed = record { lib = refl; tokens = refl }; answers = (refl, refl) }

-- and one that a box has
pub box_is_there : IsNext two_boxes [] (entry 1 (Load 0 (codes "A") false) NoProvider) → ⊥
unfolding definition_said list_at number_of number_for with_names
box_is_there h = let none = h.answers.1 in cc

-- 2. A provider that an operation context outlives, and that is loaded again before it stopped: the same instance goes on.

abbrev one_box : Fixed
one_box = over (named (codes "default") (row ∷ []) ∷ []) (0 ∷ [])

abbrev load : ℕ → ℕ → Entry Call Reply
load n i = entry 1 (Load 0 (codes "default") false) (Loaded n i 0)

abbrev outlived : List (Entry Call Reply)
outlived =
    load 1 1
    ∷ entry 1 fetch (Fetched 2 (codes "default") 1 0 Sha256)
    ∷ entry 1 (NewCtx 2 None 0) (Made 3)
    ∷ entry 1 (Free 2) Done
    ∷ entry 1 (Unload 1) Done
    ∷ []

abbrev loaded_again : List (Entry Call Reply)
loaded_again =
    load 1 1
    ∷ entry 1 fetch (Fetched 2 (codes "default") 1 0 Sha256)
    ∷ entry 1 (NewCtx 2 None 0) (Made 3)
    ∷ entry 1 (Free 2) Done
    ∷ entry 1 (Unload 1) Done
    ∷ load 6 1
    ∷ entry 1 (FreeCtx 3) Done
    ∷ entry 1 (Unload 6) Done
    ∷ entry 0 (CloseLib 0) Done
    ∷ []

pub loaded_again_legal : IsLegal one_box loaded_again
unfolding definition_said list_at number_of number_for with_names
loaded_again_legal = (
  record { allowed = record { lib = refl; tokens = refl }; answers = (refl, refl) },
  (
    record { allowed = record { lib = refl; tokens = refl }; answers = (refl, refl) },
    (
      record { allowed = record { lib = refl; tokens = refl }; answers = (refl, refl) },
      (
        record { allowed = record { lib = refl; tokens = refl }; answers = tt },
        (
          record { allowed = record { lib = refl; tokens = refl }; answers = refl },
          (
            record { allowed = record { lib = refl; tokens = refl }; answers = (refl, refl) },
            (
              record { allowed = record { lib = refl; tokens = refl }; answers = tt },
              (
                record { allowed = record { lib = refl; tokens = refl }; answers = refl },
                (
                  record { allowed = record { lib = refl; tokens = refl }; answers = refl },
                  tt,
                ),
              ),
            ),
          ),
        ),
      ),
    ),
  ),
)

-- the context alone holds it up
pub context_holds : up_at (state_after one_box outlived) 0 ≡ 1 ∷ []
unfolding definition_said list_at number_of number_for with_names
context_holds = refl

-- it was started once
pub started_once : starts_at (state_after one_box loaded_again) 0 ≡ 1
unfolding definition_said list_at number_of number_for with_names
started_once = refl

-- and is down at the end
pub down_at_the_end : up_at (state_after one_box loaded_again) 0 ≡ []
unfolding definition_said list_at number_of number_for with_names
down_at_the_end = refl

-- while it is held and not active, a fetch finds nothing in it
pub not_active : IsNext one_box outlived (entry 1 fetch (Fetched 6 (codes "default") 1 0 Sha256)) → ⊥
unfolding definition_said list_at number_of number_for with_names
not_active h = let none = h.answers.1 in cc

-- 3. A second method holds what the first held.

abbrev second_method : List (Entry Call Reply)
second_method =
    load 1 1
    ∷ entry 1 fetch (Fetched 2 (codes "default") 1 0 Sha256)
    ∷ entry 1 (UpRef 2) (Made 3)
    ∷ entry 1 (Free 2) Done
    ∷ entry 1 (Unload 1) Done
    ∷ []

pub second_method_legal : IsLegal one_box second_method
unfolding definition_said list_at number_of number_for with_names
second_method_legal = (
  record { allowed = record { lib = refl; tokens = refl }; answers = (refl, refl) },
  (
    record { allowed = record { lib = refl; tokens = refl }; answers = (refl, refl) },
    (
      record { allowed = record { lib = refl; tokens = refl }; answers = refl },
      (
        record { allowed = record { lib = refl; tokens = refl }; answers = tt },
        (
          record { allowed = record { lib = refl; tokens = refl }; answers = refl },
          tt,
        ),
      ),
    ),
  ),
)

-- it alone holds the provider up
pub second_holds : up_at (state_after one_box second_method) 0 ≡ 1 ∷ []
unfolding definition_said list_at number_of number_for with_names
second_holds = refl

-- its token is not the first's
pub second_is_no_first : IsNext one_box (load 1 1 ∷ entry 1 fetch (Fetched 2 (codes "default") 1 0 Sha256) ∷ []) (entry 1 (UpRef 2) (Made 2)) → ⊥
unfolding definition_said list_at number_of number_for with_names
second_is_no_first h = apart 2 3 refl h.answers

-- 4. A box that refuses its second start.

abbrev refused_once : List (Entry Call Reply)
refused_once =
    load 1 1
    ∷ entry 1 (Unload 1) Done
    ∷ entry 1 (Load 0 (codes "default") false) (StartRefused (codes "default"))
    ∷ load 4 4
    ∷ entry 1 (Unload 4) Done
    ∷ entry 0 (CloseLib 0) Done
    ∷ []

pub refused_once_legal : IsLegal one_box refused_once
unfolding definition_said list_at number_of number_for with_names
refused_once_legal = (
  record { allowed = record { lib = refl; tokens = refl }; answers = (refl, refl) },
  (
    record { allowed = record { lib = refl; tokens = refl }; answers = refl },
    (
      record { allowed = record { lib = refl; tokens = refl }; answers = (refl, refl, refl) },
      (
        record { allowed = record { lib = refl; tokens = refl }; answers = (refl, refl) },
        (
          record { allowed = record { lib = refl; tokens = refl }; answers = refl },
          (
            record { allowed = record { lib = refl; tokens = refl }; answers = refl },
            tt,
          ),
        ),
      ),
    ),
  ),
)

-- two starts were accepted
pub two_starts : starts_at (state_after one_box refused_once) 0 ≡ 2
unfolding definition_said list_at number_of number_for with_names
two_starts = refl

-- 5. The fallback. A load switches it off for good, unless it retains it or is refused.

abbrev beside : Fixed
beside = over (named (codes "A") [] ∷ named (codes "default") (row ∷ []) ∷ []) (0 ∷ 0 ∷ [])

abbrev load_beside : Bool → Entry Call Reply
load_beside retain = entry 1 (Load 0 (codes "A") retain) (Loaded 1 1 0)

pub switched_off : IsNext beside (load_beside false ∷ []) (entry 1 fetch Unsupported)
unfolding definition_said list_at number_of number_for with_names
switched_off = record { allowed = record { lib = refl; tokens = refl }; answers = (refl, refl) }

pub retained : IsNext beside (load_beside true ∷ []) (entry 1 fetch (Fetched 2 (codes "default") 2 0 Sha256))
unfolding definition_said list_at number_of number_for with_names
retained = record { allowed = record { lib = refl; tokens = refl }; answers = (refl, refl) }

pub refused_keeps : IsNext beside (entry 1 (Load 0 (codes "A") false) (StartRefused (codes "A")) ∷ []) (entry 1 fetch (Fetched 2 (codes "default") 2 0 Sha256))
unfolding definition_said list_at number_of number_for with_names
refused_keeps = record { allowed = record { lib = refl; tokens = refl }; answers = (refl, refl) }

-- an unload does not arm it again
pub off_stays_off : IsNext beside (load_beside false ∷ entry 1 (Unload 1) Done ∷ []) (entry 1 fetch (Fetched 3 (codes "default") 3 0 Sha256)) → ⊥
unfolding definition_said list_at number_of number_for with_names
off_stays_off h = let none = h.answers.1 in cc

-- a fallback's own activation keeps the provider active when a load's has gone
pub fallback_keeps : up_at (state_after one_box (entry 1 fetch (Fetched 1 (codes "default") 1 0 Sha256) ∷ load 2 1 ∷ entry 1 (Unload 2) Done ∷ entry 1 (Free 1) Done ∷ [])) 0 ≡ 1 ∷ []
unfolding definition_said list_at number_of number_for with_names
fallback_keeps = refl

-- a fetch falls back to a provider that a load has made active: nothing is started
pub falls_back_to_active : IsNext one_box (entry 1 (Load 0 (codes "default") true) (Loaded 1 1 0) ∷ []) (entry 1 fetch (Fetched 2 (codes "default") 1 0 Sha256))
unfolding definition_said list_at number_of number_for with_names
falls_back_to_active = record { allowed = record { lib = refl; tokens = refl }; answers = (refl, refl) }

-- so no start can be refused in it
pub nothing_to_refuse : IsNext one_box (entry 1 (Load 0 (codes "default") true) (Loaded 1 1 0) ∷ []) (entry 1 fetch (StartRefused (codes "default"))) → ⊥
unfolding definition_said list_at number_of number_for with_names
nothing_to_refuse h = let up = h.answers.3 in cc

-- 6. An activation whose library context has closed is given back all the same.

abbrev closed_first : List (Entry Call Reply)
closed_first = load 1 1 ∷ entry 2 (CloseLib 0) Done ∷ []

pub given_back_late : IsLegal one_box (load 1 1 ∷ entry 2 (CloseLib 0) Done ∷ entry 1 (Unload 1) NoLib ∷ entry 1 (Load 0 (codes "default") false) NoLib ∷ [])
unfolding definition_said list_at number_of number_for with_names
given_back_late = (
  record { allowed = record { lib = refl; tokens = refl }; answers = (refl, refl) },
  (
    record { allowed = record { lib = refl; tokens = refl }; answers = refl },
    (
      record { allowed = record { lib = refl; tokens = refl }; answers = refl },
      (
        record { allowed = record { lib = refl; tokens = refl }; answers = refl },
        tt,
      ),
    ),
  ),
)

-- the closing stopped its provider
pub closing_stops : up_at (state_after one_box closed_first) 0 ≡ []
unfolding definition_said list_at number_of number_for with_names
closing_stops = refl

-- there is nothing to unload
pub nothing_to_unload : IsNext one_box closed_first (entry 1 (Unload 1) Done) → ⊥
unfolding definition_said list_at number_of number_for with_names
nothing_to_unload h = let some : false ≡ true = h.answers in cc

-- and its token is spent
pub spent_late : IsNext one_box (load 1 1 ∷ entry 2 (CloseLib 0) Done ∷ entry 1 (Unload 1) NoLib ∷ []) (entry 1 (Unload 1) NoLib) → ⊥
unfolding definition_said list_at number_of number_for with_names
spent_late h = let unowned : false ≡ true = h.allowed.tokens in cc
