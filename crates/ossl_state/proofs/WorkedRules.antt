-- Worked histories that each pin one rule, by computation: with another rule one of them would not hold.
use Rattle.std.proofs.Common.{◌≡◌, ℕ, true, false, List, [], ◌∷◌, map, refl}
use Rattle.std.specs.Prelude.{codes, None, Some}
use Rattle.ossl_base.specs.declared.entry.Entry.{Entry}
use Rattle.ossl_provider.specs.Sheet.{Facts}
use Rattle.ossl_codes.specs.declared.code.Code.TheVariants.{Sha256}
use Rattle.ossl_codes.specs.declared.code.Operation.TheVariants.{Digest, Mac}
use Rattle.ossl_property.specs.declared.clause.Clause.{Clause}
use Rattle.ossl_property.specs.declared.clause.Relation.TheVariants.{Equal}
use Rattle.ossl_property.specs.declared.clause.Value.TheVariants.{Text}
use Rattle.ossl_provider.specs.declared.table.TableRow.{TableRow}
use Rattle.ossl_state.specs.declared.call.Call.{Call}
use Rattle.ossl_state.specs.declared.call.Call.TheVariants.{Load, Unload, SetDefault, Fetch, NewCtx, Free, CloseLib}
use Rattle.ossl_state.specs.declared.call.Reply.{Reply}
use Rattle.ossl_state.specs.declared.call.Reply.TheVariants.{Loaded, Fetched, Made, Done, NoLib, NoProvider, StartRefused, Unsupported}
use Rattle.ossl_names.specs.Addition.{number_for}
use Rattle.ossl_names.specs.Groups.{number_of, with_names}
use Rattle.ossl_property.specs.Reading.{clause_at, comparison_at, list_at, more_at, name_at, named_at, plain_at, plain_value, removal_at, value_at}
use Rattle.ossl_property.specs.Said.{definition_said}
use Rattle.ossl_state.specs.History.{Fixed, IsLegal, IsNext, state_after}
use Rattle.ossl_state.specs.State.{up_at}
use Rattle.ossl_state.proofs.WorkedLoads.{entry, named, row}

-- so many library contexts over these boxes, none of which has refused a start before
abbrev fixed_of : ℕ → List Facts → Fixed
fixed_of contexts facts = record { facts = facts; contexts = contexts; opened = map (λ f. 0) facts }

abbrev fetch : ℕ → Call
fetch l = Fetch l Digest (codes "SHA2-256") []

-- 1. An operation context holds the instance of its inner method too, also where both library contexts have closed.

abbrev in_two : Fixed
in_two = fixed_of 2 (named (codes "default") (row ∷ []) ∷ [])

abbrev inner_held : List (Entry Call Reply)
inner_held =
    entry 1 (fetch 0) (Fetched 1 (codes "default") 1 0 Sha256)
    ∷ entry 1 (fetch 1) (Fetched 2 (codes "default") 2 0 Sha256)
    ∷ entry 1 (NewCtx 1 (Some 2) 0) (Made 3)
    ∷ entry 1 (Free 1) Done
    ∷ entry 1 (Free 2) Done
    ∷ entry 0 (CloseLib 0) Done
    ∷ entry 0 (CloseLib 1) Done
    ∷ []

-- both methods are given back
pub inner_held_legal : IsLegal in_two inner_held
unfolding definition_said list_at number_of number_for with_names
inner_held_legal = (
  record { allowed = record { lib = refl; tokens = refl }; answers = (refl, refl) },
  (
    record { allowed = record { lib = refl; tokens = refl }; answers = (refl, refl) },
    (
      record { allowed = record { lib = refl; tokens = refl }; answers = (refl, refl) },
      (
        record { allowed = record { lib = refl; tokens = refl }; answers = tt },
        (
          record { allowed = record { lib = refl; tokens = refl }; answers = tt },
          (
            record { allowed = record { lib = refl; tokens = refl }; answers = refl },
            (
              record { allowed = record { lib = refl; tokens = refl }; answers = refl },
              tt,
            ),
          ),
        ),
      ),
    ),
  ),
)

-- and both instances are up
pub inner_held_up : up_at (state_after in_two inner_held) 0 ≡ 1 ∷ 2 ∷ []
unfolding definition_said list_at number_of number_for with_names
inner_held_up = refl

-- 2. A provider whose instance was held, and that is loaded again, becomes active after the others.

abbrev two_boxes : Fixed
two_boxes = fixed_of 1 (named (codes "A") (row ∷ []) ∷ named (codes "B") (row ∷ []) ∷ [])

abbrev rejoined : List (Entry Call Reply)
rejoined =
    entry 1 (Load 0 (codes "A") false) (Loaded 1 1 0)
    ∷ entry 1 (Load 0 (codes "B") false) (Loaded 2 2 0)
    ∷ entry 1 (fetch 0) (Fetched 3 (codes "A") 1 0 Sha256)
    ∷ entry 1 (Unload 1) Done
    ∷ entry 1 (Load 0 (codes "A") false) (Loaded 5 1 0)
    ∷ []

-- the held instance goes on
pub rejoined_legal : IsLegal two_boxes rejoined
unfolding definition_said list_at number_of number_for with_names
rejoined_legal = (
  record { allowed = record { lib = refl; tokens = refl }; answers = (refl, refl) },
  (
    record { allowed = record { lib = refl; tokens = refl }; answers = (refl, refl) },
    (
      record { allowed = record { lib = refl; tokens = refl }; answers = (refl, refl) },
      (
        record { allowed = record { lib = refl; tokens = refl }; answers = refl },
        (
          record { allowed = record { lib = refl; tokens = refl }; answers = (refl, refl) },
          tt,
        ),
      ),
    ),
  ),
)

-- the next fetch takes the other provider
pub later_is_second : IsNext two_boxes rejoined (entry 1 (fetch 0) (Fetched 6 (codes "B") 2 0 Sha256))
unfolding definition_said list_at number_of number_for with_names
later_is_second = record { allowed = record { lib = refl; tokens = refl }; answers = (refl, refl) }

-- 3. A fallback that was used keeps `default` active, and no other provider.

abbrev with_default : Fixed
with_default = fixed_of 1 (named (codes "A") (row ∷ []) ∷ named (codes "default") (row ∷ []) ∷ [])

abbrev fallen_back : List (Entry Call Reply)
fallen_back =
    entry 1 (fetch 0) (Fetched 1 (codes "default") 1 0 Sha256)
    ∷ entry 1 (Load 0 (codes "A") false) (Loaded 2 2 0)
    ∷ entry 1 (Unload 2) Done
    ∷ []

-- a provider is loaded after the fallback, and unloaded
pub fallen_back_legal : IsLegal with_default fallen_back
unfolding definition_said list_at number_of number_for with_names
fallen_back_legal = (
  record { allowed = record { lib = refl; tokens = refl }; answers = (refl, refl) },
  (
    record { allowed = record { lib = refl; tokens = refl }; answers = (refl, refl) },
    (
      record { allowed = record { lib = refl; tokens = refl }; answers = refl },
      tt,
    ),
  ),
)

-- it is down
pub other_goes : up_at (state_after with_default fallen_back) 0 ≡ []
unfolding definition_said list_at number_of number_for with_names
other_goes = refl

-- and `default` is up
pub default_stays : up_at (state_after with_default fallen_back) 1 ≡ 1 ∷ []
unfolding definition_said list_at number_of number_for with_names
default_stays = refl

-- 4. A start may be refused where the provider is up in another library context alone.

abbrev one_in_two : Fixed
one_in_two = fixed_of 2 (named (codes "A") (row ∷ []) ∷ [])

-- it is started there for itself
pub refused_elsewhere : IsNext one_in_two (entry 1 (Load 0 (codes "A") false) (Loaded 1 1 0) ∷ []) (entry 1 (Load 1 (codes "A") false) (StartRefused (codes "A")))
unfolding definition_said list_at number_of number_for with_names
refused_elsewhere = record { allowed = record { lib = refl; tokens = refl }; answers = (refl, refl, refl) }

-- 5. A provider with an instance that is held is not started, and cannot refuse.

abbrev held_inactive : List (Entry Call Reply)
held_inactive =
    entry 1 (Load 0 (codes "A") false) (Loaded 1 1 0)
    ∷ entry 1 (fetch 0) (Fetched 2 (codes "A") 1 0 Sha256)
    ∷ entry 1 (Unload 1) Done
    ∷ []

-- its instance goes on
pub held_cannot_refuse : IsNext two_boxes held_inactive (entry 1 (Load 0 (codes "A") false) (StartRefused (codes "A"))) → ⊥
unfolding definition_said list_at number_of number_for with_names
held_cannot_refuse h = let up = h.answers.2 in cc

-- 6. The names of each provider join the groups that are there.

abbrev called : List ℕ → TableRow
called names = record { names = names; definition = []; code = Sha256 }

abbrev two_names : Fixed
two_names = fixed_of 1 (named (codes "A") (called (codes "X") ∷ []) ∷ named (codes "B") (called (codes "Y") ∷ []) ∷ [])

abbrev both_loaded : List (Entry Call Reply)
both_loaded =
    entry 1 (Load 0 (codes "A") false) (Loaded 1 1 0)
    ∷ entry 1 (Load 0 (codes "B") false) (Loaded 2 2 0)
    ∷ []

-- the name of the first stays
pub first_name : IsNext two_names both_loaded (entry 1 (Fetch 0 Digest (codes "X") []) (Fetched 3 (codes "A") 1 0 Sha256))
unfolding definition_said list_at number_of number_for with_names
first_name = record { allowed = record { lib = refl; tokens = refl }; answers = (refl, refl) }

-- that of the second is added
pub second_name : IsNext two_names both_loaded (entry 1 (Fetch 0 Digest (codes "Y") []) (Fetched 3 (codes "B") 2 0 Sha256))
unfolding definition_said list_at number_of number_for with_names
second_name = record { allowed = record { lib = refl; tokens = refl }; answers = (refl, refl) }

-- 7. A row is taken for its own operation alone.

-- no row of a message authentication code
pub other_operation : IsNext two_boxes (entry 1 (Load 0 (codes "A") false) (Loaded 1 1 0) ∷ []) (entry 1 (Fetch 0 Mac (codes "SHA2-256") []) Unsupported)
unfolding definition_said list_at number_of number_for with_names
other_operation = record { allowed = record { lib = refl; tokens = refl }; answers = (refl, refl) }

-- 8. A row whose definition is none is left out, and told.

abbrev badly_defined : TableRow
badly_defined = record { names = codes "MD5"; definition = codes "a="; code = Sha256 }

abbrev left_out_box : Fixed
left_out_box = fixed_of 1 (named (codes "A") (badly_defined ∷ row ∷ []) ∷ [])

-- one row of two is left out
pub told_left_out : IsNext left_out_box [] (entry 1 (Load 0 (codes "A") false) (Loaded 1 1 1))
unfolding definition_said list_at more_at clause_at named_at name_at comparison_at value_at plain_value plain_at removal_at number_of number_for with_names
told_left_out = record { allowed = record { lib = refl; tokens = refl }; answers = (refl, refl) }

-- its names do not join
pub left_out_is_none : IsNext left_out_box (entry 1 (Load 0 (codes "A") false) (Loaded 1 1 1) ∷ []) (entry 1 (Fetch 0 Digest (codes "MD5") []) Unsupported)
unfolding definition_said list_at more_at clause_at named_at name_at comparison_at value_at plain_value plain_at removal_at number_of number_for with_names
left_out_is_none = record { allowed = record { lib = refl; tokens = refl }; answers = (refl, refl) }

-- the other has the index 1
pub other_row_stays : IsNext left_out_box (entry 1 (Load 0 (codes "A") false) (Loaded 1 1 1) ∷ []) (entry 1 (fetch 0) (Fetched 2 (codes "A") 1 1 Sha256))
unfolding definition_said list_at more_at clause_at named_at name_at comparison_at value_at plain_value plain_at removal_at number_of number_for with_names
other_row_stays = record { allowed = record { lib = refl; tokens = refl }; answers = (refl, refl) }

-- 9. The default query of a library context acts on a fetch that says nothing.

abbrev fips : Clause
fips = record { name = codes "fips"; relation = Equal; value = Text (codes "yes"); optional = false }

abbrev asked_for_fips : List (Entry Call Reply)
asked_for_fips =
    entry 1 (SetDefault 0 (fips ∷ [])) Done
    ∷ entry 1 (Load 0 (codes "A") false) (Loaded 2 2 0)
    ∷ []

-- no provider says that it is validated
pub default_query_acts : IsNext two_boxes asked_for_fips (entry 1 (fetch 0) Unsupported)
unfolding definition_said list_at number_of number_for with_names
default_query_acts = record { allowed = record { lib = refl; tokens = refl }; answers = (refl, refl) }

-- 10. That a library context is closed is told before that a provider is unknown.

abbrev closed : List (Entry Call Reply)
closed =
    entry 0 (CloseLib 0) Done
    ∷ []

-- the library context is closed
pub closed_is_told : IsNext two_boxes closed (entry 1 (Load 0 (codes "C") false) NoLib)
unfolding definition_said list_at number_of number_for with_names
closed_is_told = record { allowed = record { lib = refl; tokens = refl }; answers = refl }

-- and the name is not looked at
pub unknown_is_not_told : IsNext two_boxes closed (entry 1 (Load 0 (codes "C") false) NoProvider) → ⊥
unfolding definition_said list_at number_of number_for with_names
unknown_is_not_told h = let is_open : false ≡ true = h.answers.0 in cc
