-- What `clap` reads of the command that the crate builds, with a subcommand for each command of the set.
use Rattle.std.specs.Prelude.{Bool, true, Some, List, [], ◌∷◌, codes, if◌then◌else◌}
use Rattle.clap.specs.Walk.{Rule, Text}
use Rattle.clap.specs.Simple.{App, new_app, new_rule, on_top, with_subcommand}
use Rattle.clap.specs.declared.builder.action.ArgAction.TheVariants.{Set}

-- an option by its name, with a value
abbrev pub option_arg : Text → Rule
option_arg name = record (new_rule name) { long = Some name; action = Some Set }

abbrev pub app_with : Text → List Rule → App
app_with name rules = on_top (λ shape. record shape { rules = rules }) (new_app name)

abbrev pub run_app : Bool → App
run_app threads =
    app_with (codes "run") (option_arg (codes "conf") ∷ (if threads then [] else option_arg (codes "order") ∷ []))

abbrev pub gen_app : App
gen_app =
    app_with (codes "gen") (new_rule (codes "lines") ∷ new_rule (codes "seed") ∷ option_arg (codes "callers") ∷ [])

-- the words come without the program's name, and neither help nor version is asked for
abbrev pub no_help_app : App
no_help_app =
    on_top (λ shape. record shape { no_binary_name = true; disable_help_flag = true; disable_help_subcommand = true })
    (new_app (codes "words"))

abbrev pub words_app : Bool → App
words_app threads = with_subcommand (with_subcommand no_help_app (run_app threads).top) gen_app.top
