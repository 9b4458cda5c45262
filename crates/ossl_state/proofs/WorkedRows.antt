-- Worked histories, by computation: which are legal, what they start and stop, and which are not legal.
use Rattle.std.proofs.Common.{◌≡◌, ℕ, Bool, true, false, nat_eq, nat_le, List, [], ◌∷◌, map, refl}
use Rattle.std.proofs.lemmas.Bool.{eq-eqb}
use Rattle.std.specs.Prelude.{codes, None}
use Rattle.ossl_base.specs.declared.entry.Entry.{Entry}
use Rattle.ossl_provider.specs.Sheet.{Facts}
use Rattle.ossl_codes.specs.declared.code.Code.{Code}
use Rattle.ossl_codes.specs.declared.code.Code.TheVariants.{Sha256}
use Rattle.ossl_codes.specs.declared.code.Operation.TheVariants.{Digest}
use Rattle.ossl_provider.specs.declared.table.TableRow.{TableRow}
use Rattle.ossl_state.specs.declared.call.Call.{Call}
use Rattle.ossl_state.specs.declared.call.Call.TheVariants.{Fetch, NewCtx, Free, FreeCtx, CloseLib}
use Rattle.ossl_state.specs.declared.call.Reply.{Reply}
use Rattle.ossl_state.specs.declared.call.Reply.TheVariants.{Fetched, Made, Done, NoLib, StartRefused, Unsupported, NotAdmitted}
use Rattle.ossl_names.specs.Addition.{number_for}
use Rattle.ossl_names.specs.Groups.{number_of, with_names}
use Rattle.ossl_property.specs.Reading.{list_at}
use Rattle.ossl_property.specs.Said.{definition_said}
use Rattle.ossl_state.specs.Rows.{offered}
use Rattle.ossl_state.specs.History.{Fixed, IsLegal, IsNext, state_after, refusals}
use Rattle.ossl_state.specs.State.{up_at, starts_at, stops_at}

-- two numbers that a test tells apart
apart : (m n : ℕ) → nat_eq m n ≡ false → m ≡ n → ⊥
apart m n differ same = let equal = eq-eqb m n same in cc

-- One box `default` with one row, in one library context.

abbrev sha256_row : TableRow
sha256_row = record { names = codes "SHA2-256"; definition = []; code = Sha256 }

abbrev box_of : List TableRow → (Code → ℕ → Bool) → Facts
box_of rows admits = record { name = codes "default"; rows = rows; admits = admits }

abbrev fixed_with : List Facts → Fixed
fixed_with facts = record { facts = facts; contexts = 1; opened = 0 ∷ [] }

abbrev one_box : Fixed
one_box = fixed_with (box_of (sha256_row ∷ []) (λ code len. true) ∷ [])

abbrev entry : ℕ → Call → Reply → Entry Call Reply
entry c call reply = record { caller = c; call = call; reply = reply }

abbrev fetch : Call
fetch = Fetch 0 Digest (codes "SHA2-256") []

abbrev fetched : ℕ → ℕ → ℕ → Reply
fetched n i r = Fetched n (codes "default") i r Sha256

abbrev fetch_1 : Entry Call Reply
fetch_1 = entry 1 fetch (fetched 1 1 0)

-- 1. One digest.

abbrev digest : List (Entry Call Reply)
digest =
    fetch_1
    ∷ entry 1 (NewCtx 1 None 0) (Made 2)
    ∷ entry 1 (FreeCtx 2) Done
    ∷ entry 1 (Free 1) Done
    ∷ entry 0 (CloseLib 0) Done
    ∷ []

pub digest_legal : IsLegal one_box digest
unfolding definition_said list_at number_of number_for with_names
digest_legal = (
  record { allowed = record { lib = refl; tokens = refl }; answers = (refl, refl) },
  (
    record { allowed = record { lib = refl; tokens = refl }; answers = (refl, refl) },
    (
      record { allowed = record { lib = refl; tokens = refl }; answers = tt },
      (
        record { allowed = record { lib = refl; tokens = refl }; answers = tt },
        (record { allowed = record { lib = refl; tokens = refl }; answers = refl }, tt),
      ),
    ),
  ),
)

-- the fetch starts the provider, and the closing stops it
pub digest_started : up_at (state_after one_box (fetch_1 ∷ [])) 0 ≡ 1 ∷ []
unfolding definition_said list_at number_of number_for with_names
digest_started = refl

pub digest_ends : up_at (state_after one_box digest) 0 ≡ []
unfolding definition_said list_at number_of number_for with_names
digest_ends = refl

pub digest_starts : starts_at (state_after one_box digest) 0 ≡ 1
unfolding definition_said list_at number_of number_for with_names
digest_starts = refl

pub digest_stops : stops_at (state_after one_box digest) 0 ≡ 1
unfolding definition_said list_at number_of number_for with_names
digest_stops = refl

-- without its second entry it is not legal: no operation context was made
pub digest_dropped : IsLegal one_box (fetch_1 ∷ entry 1 (FreeCtx 2) Done ∷ entry 1 (Free 1) Done ∷ entry 0 (CloseLib 0) Done ∷ []) → ⊥
unfolding definition_said list_at number_of number_for with_names
digest_dropped h = let unowned : false ≡ true = h.1.0.allowed.tokens in cc

-- nor with its second and third entries exchanged
pub digest_exchanged : IsLegal one_box (fetch_1 ∷ entry 1 (FreeCtx 2) Done ∷ entry 1 (NewCtx 1 None 0) (Made 3) ∷ []) → ⊥
unfolding definition_said list_at number_of number_for with_names
digest_exchanged h = let unowned : false ≡ true = h.1.0.allowed.tokens in cc

-- nor with another number in its second entry
pub digest_renumbered : IsLegal one_box (fetch_1 ∷ entry 1 (NewCtx 1 None 0) (Made 3) ∷ []) → ⊥
unfolding definition_said list_at number_of number_for with_names
digest_renumbered h = apart 3 2 refl h.1.0.answers.1

-- a method is its caller's own
pub foreign_token : IsNext one_box (fetch_1 ∷ []) (entry 2 (Free 1) Done) → ⊥
unfolding definition_said list_at number_of number_for with_names
foreign_token h = let unowned : false ≡ true = h.allowed.tokens in cc

-- a token that was given back is not owned
pub spent_token : IsNext one_box (fetch_1 ∷ entry 1 (Free 1) Done ∷ []) (entry 1 (Free 1) Done) → ⊥
unfolding definition_said list_at number_of number_for with_names
spent_token h = let unowned : false ≡ true = h.allowed.tokens in cc

-- a method is no operation context
pub wrong_kind : IsNext one_box (fetch_1 ∷ []) (entry 1 (FreeCtx 1) Done) → ⊥
unfolding definition_said list_at number_of number_for with_names
wrong_kind h = let unowned : false ≡ true = h.allowed.tokens in cc

-- there is no second library context
pub no_such_context : IsNext one_box [] (entry 1 (CloseLib 1) Done) → ⊥
unfolding definition_said list_at number_of number_for with_names
no_such_context h = let beyond : false ≡ true = h.allowed.lib in cc

-- a row is there, so that the fetch is not unsupported
pub not_unsupported : IsNext one_box [] (entry 1 fetch Unsupported) → ⊥
unfolding definition_said list_at number_of number_for with_names
not_unsupported h = let chosen = h.answers.1 in cc

-- the instance that the fetch starts has the entry's own number
pub wrong_instance : IsNext one_box [] (entry 1 fetch (fetched 1 2 0)) → ⊥
unfolding definition_said list_at number_of number_for with_names
wrong_instance h = let answers = h.answers.1 in apart 2 1 refl (cc)

-- a start cannot be refused once the fallback is used
pub no_start_to_refuse : IsNext one_box (fetch_1 ∷ []) (entry 1 fetch (StartRefused (codes "default"))) → ⊥
unfolding definition_said list_at number_of number_for with_names
no_start_to_refuse h = let armed : false ≡ true = h.answers.1 in cc

-- a second fetch finds the same instance, under a token of its own
pub fetched_again : IsNext one_box (fetch_1 ∷ []) (entry 2 fetch (fetched 2 1 0))
unfolding definition_said list_at number_of number_for with_names
fetched_again = record { allowed = record { lib = refl; tokens = refl }; answers = (refl, refl) }

-- names are compared without case
pub other_case : IsNext one_box [] (entry 1 (Fetch 0 Digest (codes "sha2-256") []) (fetched 1 1 0))
unfolding definition_said list_at number_of number_for with_names
other_case = record { allowed = record { lib = refl; tokens = refl }; answers = (refl, refl) }

pub other_name : IsNext one_box [] (entry 1 (Fetch 0 Digest (codes "MD5") []) Unsupported)
unfolding definition_said list_at number_of number_for with_names
other_name = record { allowed = record { lib = refl; tokens = refl }; answers = (refl, refl) }

-- 2. An empty catalogue: nothing is activated.

pub empty_catalogue : IsLegal (fixed_with []) (entry 1 fetch Unsupported ∷ entry 0 (CloseLib 0) Done ∷ [])
unfolding definition_said list_at number_of number_for with_names
empty_catalogue = (
  record { allowed = record { lib = refl; tokens = refl }; answers = (refl, refl) },
  (record { allowed = record { lib = refl; tokens = refl }; answers = refl }, tt),
)

-- nothing can refuse a start there
pub nothing_to_start : IsNext (fixed_with []) [] (entry 1 fetch (StartRefused (codes "default"))) → ⊥
unfolding definition_said list_at number_of number_for with_names
nothing_to_start h = absurd h.answers.3

-- 3. A start that is refused, and one that is accepted after it.

abbrev refused_first : List (Entry Call Reply)
refused_first = entry 1 fetch (StartRefused (codes "default")) ∷ entry 1 fetch (fetched 2 2 0) ∷ entry 1 (Free 2) Done ∷ entry 0 (CloseLib 0) Done ∷ []

pub refused_first_legal : IsLegal one_box refused_first
unfolding definition_said list_at number_of number_for with_names
refused_first_legal = (
  record { allowed = record { lib = refl; tokens = refl }; answers = (refl, refl, refl, refl) },
  (
    record { allowed = record { lib = refl; tokens = refl }; answers = (refl, refl) },
    (record { allowed = record { lib = refl; tokens = refl }; answers = tt }, (record { allowed = record { lib = refl; tokens = refl }; answers = refl }, tt)),
  ),
)

pub refused_once : refusals (codes "default") refused_first ≡ 1
unfolding definition_said list_at number_of number_for with_names
refused_once = refl

pub refused_starts : starts_at (state_after one_box refused_first) 0 ≡ 1
unfolding definition_said list_at number_of number_for with_names
refused_starts = refl

-- 4. A library context that closes while a method of it lives: the method holds the instance up.

abbrev closed_early : List (Entry Call Reply)
closed_early = fetch_1 ∷ entry 2 (CloseLib 0) Done ∷ entry 1 fetch NoLib ∷ []

pub closed_early_legal : IsLegal one_box (fetch_1 ∷ entry 2 (CloseLib 0) Done ∷ entry 1 fetch NoLib ∷ entry 1 (Free 1) Done ∷ entry 0 (CloseLib 0) NoLib ∷ [])
unfolding definition_said list_at number_of number_for with_names
closed_early_legal = (
  record { allowed = record { lib = refl; tokens = refl }; answers = (refl, refl) },
  (
    record { allowed = record { lib = refl; tokens = refl }; answers = refl },
    (
      record { allowed = record { lib = refl; tokens = refl }; answers = refl },
      (
        record { allowed = record { lib = refl; tokens = refl }; answers = tt },
        (record { allowed = record { lib = refl; tokens = refl }; answers = refl }, tt),
      ),
    ),
  ),
)

pub held_up : up_at (state_after one_box closed_early) 0 ≡ 1 ∷ []
unfolding definition_said list_at number_of number_for with_names
held_up = refl

pub then_stopped : up_at (state_after one_box (fetch_1 ∷ entry 2 (CloseLib 0) Done ∷ entry 1 fetch NoLib ∷ entry 1 (Free 1) Done ∷ [])) 0 ≡ []
unfolding definition_said list_at number_of number_for with_names
then_stopped = refl

-- a closed library context is not closed again
pub closed_twice : IsNext one_box closed_early (entry 0 (CloseLib 0) Done) → ⊥
unfolding definition_said list_at number_of number_for with_names
closed_twice h = let is_open : false ≡ true = h.answers in cc

-- 5. A box that does not admit keys of fewer than 14 bytes.

abbrev strict_box : Fixed
strict_box = fixed_with (box_of (sha256_row ∷ []) (λ code len. nat_le 14 len) ∷ [])

pub not_admitted : IsNext strict_box (fetch_1 ∷ []) (entry 1 (NewCtx 1 None 13) NotAdmitted)
unfolding definition_said list_at number_of number_for with_names
not_admitted = record { allowed = record { lib = refl; tokens = refl }; answers = refl }

pub admitted : IsNext strict_box (fetch_1 ∷ []) (entry 1 (NewCtx 1 None 14) (Made 2))
unfolding definition_said list_at number_of number_for with_names
admitted = record { allowed = record { lib = refl; tokens = refl }; answers = (refl, refl) }

pub not_made : IsNext strict_box (fetch_1 ∷ []) (entry 1 (NewCtx 1 None 13) (Made 2)) → ⊥
unfolding definition_said list_at number_of number_for with_names
not_made h = let unmet : false ≡ true = h.answers.0 in cc

-- 6. A box with two rows of one name behind a row that is left out: the first of them is the best.

abbrev bad_row : TableRow
bad_row = record { names = codes "A:"; definition = []; code = Sha256 }

abbrev two_rows : Fixed
two_rows = fixed_with (box_of (bad_row ∷ sha256_row ∷ sha256_row ∷ []) (λ code len. true) ∷ [])

pub first_row : IsNext two_rows [] (entry 1 fetch (fetched 1 1 1))
unfolding definition_said list_at number_of number_for with_names
first_row = record { allowed = record { lib = refl; tokens = refl }; answers = (refl, refl) }

pub not_second_row : IsNext two_rows [] (entry 1 fetch (fetched 1 1 2)) → ⊥
unfolding definition_said list_at number_of number_for with_names
not_second_row h = let answers = h.answers.1 in apart 2 1 refl (cc)

-- 7. Rows whose names lie in two groups are left out, and their names do not join.

abbrev named : List ℕ → TableRow
named names = record { names = names; definition = []; code = Sha256 }

abbrev in_conflict : List TableRow
in_conflict = named (codes "A:B") ∷ named (codes "C") ∷ named (codes "B:C") ∷ []

pub left_out : (offered [] in_conflict).skipped ≡ 1
unfolding definition_said list_at number_of number_for with_names
left_out = refl

pub kept_numbers : map (λ row. row.number) (offered [] in_conflict).rows ≡ 1 ∷ 2 ∷ []
unfolding definition_said list_at number_of number_for with_names
kept_numbers = refl

pub groups_kept : (offered [] in_conflict).groups ≡ (codes "a" ∷ codes "b" ∷ []) ∷ (codes "c" ∷ []) ∷ []
unfolding definition_said list_at number_of number_for with_names
groups_kept = refl
