-- What contracts see of a batch that is ready to be run.
use Rattle.std.specs.Prelude.{ℕ, List}
use Rattle.ossl_commands.specs.View.{ScriptView}
use Rattle.ossl_conf.specs.View.{SettingsView}

-- its commands, what its files hold, in the order of their first naming, and what its configuration sets
pub record PreparedView : Type 0 where
  pub script : ScriptView
  pub contents : List (List ℕ)
  pub settings : SettingsView
