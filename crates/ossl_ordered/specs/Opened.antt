-- The opening as far as it has come, and how it ends.
use Rattle.std.specs.Prelude.{ℕ, ◌+◌, ◌-◌, ◌≡◌, Bool, false, not, nat_lt, IsTrue, Option, Some, None, List, [], ◌∷◌}
use Rattle.std.specs.Prelude.{◌++◌, length, map, slice_index_or, take}
use Rattle.std.specs.List.{list_all, list_any}
use Rattle.ossl_base.specs.declared.entry.Entry.{Entry}
use Rattle.ossl_conf.specs.View.{SettingsView}
use Rattle.ossl_property.specs.declared.clause.Clause.{Clause}
use Rattle.ossl_state.specs.declared.call.Call.{Call}
use Rattle.ossl_state.specs.declared.call.Call.TheVariants.{Load, SetDefault}
use Rattle.ossl_state.specs.declared.call.Reply.{Reply}
use Rattle.ossl_state.specs.History.{Fixed, IsLegal}
use Rattle.ossl_state.specs.Tokens.{entries_of}
use Rattle.ossl_ordered.specs.declared.opening.OpeningRefused.{OpeningRefused}
use Rattle.ossl_ordered.specs.declared.opening.OpeningRefused.TheVariants.{Provider, NoMemory}
use Rattle.ossl_ordered.specs.Opening.{IsEnded, activations_of, is_loaded, load_calls}
use Rattle.ossl_ordered.specs.Owned.{OwnsAll, is_program_call}

-- the entries so far are the program's, and these are the activations that it was answered, all of which it owns
pub record IsLoading (fixed : Fixed) (entries : List (Entry Call Reply)) (tokens : List ℕ) : Type 0 where
  pub legal : IsLegal fixed entries
  pub apart : entries_of 0 entries ≡ entries
  pub calls : IsTrue (list_all (λ e. is_program_call e.call) entries)
  pub answered : tokens ≡ activations_of entries
  pub owns : OwnsAll tokens entries
  pub below : IsTrue (list_all (λ t. nat_lt t (length entries + 1)) tokens)

-- a load was made, and answered with an activation or not
abbrev pub AddsLoad : List ℕ → Bool → List (Entry Call Reply) → List (Entry Call Reply) → Type 0
AddsLoad name loaded old new =
    (reply : Reply) × (new ≡ old ++ record { caller = 0; call = Load 0 name false; reply = reply } ∷ [])
    × (is_loaded reply ≡ loaded)

-- a load is the last one: it was not answered with an activation; or memory was refused
abbrev pub EndsLoad : List ℕ → List (Entry Call Reply) → List (Entry Call Reply) → OpeningRefused → Type 0
EndsLoad name old new (Provider named) = (named ≡ name) × AddsLoad name false old new
EndsLoad name old new NoMemory = Unit {0}

-- so many loads of these providers were made and answered with activations
pub record AreLoaded (names : List (List ℕ)) (entries : List (Entry Call Reply)) : Type 0 where
  pub calls : map (λ e. e.call) entries ≡ load_calls names
  pub loaded : IsTrue (list_all (λ e. is_loaded e.reply) entries)

-- the loads of these providers, up to one that was not answered with an activation, the provider of this name
pub record EndedAt (names : List (List ℕ)) (name : List ℕ) (entries : List (Entry Call Reply)) : Type 0 where
  pub calls : map (λ e. e.call) entries ≡ take (length entries) (load_calls names)
  pub loaded : IsTrue (list_all (λ e. is_loaded e.reply) (take (length entries - 1) entries))
  pub ended : IsTrue (list_any (λ e. not (is_loaded e.reply)) entries)
  pub named : name ≡ slice_index_or names (length entries - 1) []

-- the loads of these providers ended at one that was not answered with an activation, which is named; or memory was
-- refused
abbrev pub EndsLoads : List (List ℕ) → List (Entry Call Reply) → OpeningRefused → Type 0
EndsLoads names entries (Provider name) = EndedAt names name entries
EndsLoads names entries NoMemory = Unit {0}

-- the default query was set, where there is one
abbrev pub AddsDefault : Option (List Clause) → List (Entry Call Reply) → List (Entry Call Reply) → Type 0
AddsDefault None old new = new ≡ old
AddsDefault (Some query) old new = (reply : Reply)
    × (new ≡ old ++ record { caller = 0; call = SetDefault 0 query; reply = reply } ∷ [])

-- how an opening ends: at a load, whose provider is named; or memory was refused
abbrev pub EndsOpening : SettingsView → List (Entry Call Reply) → OpeningRefused → Type 0
EndsOpening settings entries (Provider name) =
    IsEnded settings entries × (name ≡ slice_index_or settings.activations (length entries - 1) [])
EndsOpening settings entries NoMemory = Unit {0}
