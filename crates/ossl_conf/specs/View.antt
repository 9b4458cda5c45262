-- What contracts see of settings.
use Rattle.std.specs.Prelude.{ℕ, List}
use Rattle.std.specs.declared.option.Option.{Option}
use Rattle.ossl_property.specs.declared.clause.Clause.{Clause}

-- the providers to be activated, in order, and the default query, where there is one
pub record SettingsView : Type 0 where
  pub activations : List (List ℕ)
  pub default_query : Option (List Clause)
