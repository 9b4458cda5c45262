-- The steps in which a line is judged.
use Rattle.std.proofs.Common.{◌≡◌, ℕ, true, ◌&&◌, List, [], ap, ◌∙◌}
use Rattle.std.specs.Prelude.{Option, Some, Result, Ok, ok_or, unwrap_or}
use Rattle.ossl_commands.specs.declared.command.Argument.{Argument}
use Rattle.ossl_commands.specs.declared.command.Command.{Command}
use Rattle.ossl_commands.specs.declared.command.Verb.{Verb}
use Rattle.ossl_commands.specs.declared.kind.LineKind.{LineKind}
use Rattle.ossl_commands.specs.declared.kind.LineKind.TheVariants as kinds
use Rattle.ossl_commands.specs.Judging.{◌>>=◌, arguments_of, command_in, holds, is_enough, is_placed}
use Rattle.ossl_commands.specs.Table.{Begun, filled, row_of}
use Rattle.ossl_commands.specs.Words.{Files}

-- all steps are good
pub command_made : (verb : Verb) (files : Files) (words : List (List ℕ)) (query : Option (List ℕ)) (begun : Command) (others : List (List ℕ)) (said : List Argument) (named : Files)
    → (row_of verb).fixed words ≡ Some (begun, others)
    → is_placed (row_of verb).colon query ≡ true → is_enough (row_of verb).others others ≡ true
    → arguments_of (row_of verb) files [] others ≡ Ok (said, named)
    → command_in verb files words query ≡ Ok (filled said (unwrap_or query []) begun, named)
command_made verb files words query begun others said named begins placed enough reads =
    ap (λ (b : Begun). ok_or b kinds.Arguments >>= λ begun.
    holds (is_placed (row_of verb).colon query && is_enough (row_of verb).others begun.1) kinds.Arguments >>= λ placed.
    arguments_of (row_of verb) files [] begun.1 >>= λ read.
    Ok (filled read.0 (unwrap_or query []) begun.0, read.1)) begins
    ∙ ap (λ b. holds (b && is_enough (row_of verb).others others) kinds.Arguments >>= λ placed.
    arguments_of (row_of verb) files [] others >>= λ read.
    Ok (filled read.0 (unwrap_or query []) begun, read.1)) placed
    ∙ ap (λ b. holds b kinds.Arguments >>= λ placed.
    arguments_of (row_of verb) files [] others >>= λ read.
    Ok (filled read.0 (unwrap_or query []) begun, read.1)) enough
    ∙ ap (λ (r : Result (List Argument × Files) LineKind). r >>= λ read. Ok (filled read.0 (unwrap_or query []) begun, read.1)) reads
