-- The program's own calls, by caller 0: the opening that a configuration asks for, and the closing.
use Rattle.std.specs.Prelude.{ℕ, ◌-◌, ◌≡◌, Bool, true, false, not, IsTrue, Option, Some, None, List, [], ◌∷◌, ◌++◌}
use Rattle.std.specs.Prelude.{filter_map, length, map, reverse, take}
use Rattle.std.specs.List.{list_all, list_any, range_with_len}
use Rattle.ossl_base.specs.declared.entry.Entry.{Entry}
use Rattle.ossl_state.specs.declared.call.Call.{Call}
use Rattle.ossl_state.specs.declared.call.Call.TheVariants.{Load, Unload, SetDefault, CloseLib}
use Rattle.ossl_state.specs.declared.call.Reply.{Reply}
use Rattle.ossl_state.specs.declared.call.Reply.TheVariants.{Loaded}
use Rattle.ossl_state.specs.Tokens.{entries_of}
use Rattle.ossl_conf.specs.View.{SettingsView}
use Rattle.ossl_property.specs.declared.clause.Clause.{Clause}

-- the providers to be activated are loaded into library context 0, in their order
abbrev pub load_calls : List (List ℕ) → List Call
load_calls activations = map (λ name. Load 0 name false) activations

-- then the default query is set, where there is one
abbrev pub default_calls : Option (List Clause) → List Call
default_calls None = []
default_calls (Some query) = SetDefault 0 query ∷ []

abbrev pub opening_calls : SettingsView → List Call
opening_calls settings = load_calls settings.activations ++ default_calls settings.default_query

abbrev pub is_loaded : Reply → Bool
is_loaded (Loaded n i skipped) = true
is_loaded reply = false

-- the entries are the whole opening, by caller 0, and each load was answered with an activation
pub record IsOpened (settings : SettingsView) (entries : List (Entry Call Reply)) : Type 0 where
  pub caller : entries_of 0 entries ≡ entries
  pub calls : map (λ e. e.call) entries ≡ opening_calls settings
  pub loaded : IsTrue (list_all (λ e. is_loaded e.reply) (take (length settings.activations) entries))

-- the opening ended at a load that was not answered with an activation; it is the first such one
pub record IsEnded (settings : SettingsView) (entries : List (Entry Call Reply)) : Type 0 where
  pub caller : entries_of 0 entries ≡ entries
  pub calls : map (λ e. e.call) entries ≡ take (length entries) (load_calls settings.activations)
  pub loaded : IsTrue (list_all (λ e. is_loaded e.reply) (take (length entries - 1) entries))
  pub ended : IsTrue (list_any (λ e. not (is_loaded e.reply)) entries)

abbrev pub activation_in : Reply → Option ℕ
activation_in (Loaded n i skipped) = Some n
activation_in reply = None

-- the activations that the opening was answered, in their order
abbrev pub activations_of : List (Entry Call Reply) → List ℕ
activations_of opening = filter_map (λ e. activation_in e.reply) opening

-- at the end the activations of the opening are given back, newest first, and then each library context is closed,
-- from 0 up
abbrev pub closing_calls : ℕ → List ℕ → List Call
closing_calls contexts activations = map Unload (reverse activations) ++ map CloseLib (range_with_len 0 contexts)

-- the entries are the closing that follows this opening, by caller 0
pub record IsClosed (contexts : ℕ) (opening entries : List (Entry Call Reply)) : Type 0 where
  pub caller : entries_of 0 entries ≡ entries
  pub calls : map (λ e. e.call) entries ≡ closing_calls contexts (activations_of opening)
