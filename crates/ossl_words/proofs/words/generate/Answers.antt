use Rattle.std.proofs.Common.{◌∙◌, ap}
use Rattle.std.specs.Option.{option_and_then}
use Rattle.clap.specs.Matches.{found_of}
use Rattle.clap.specs.Walk.{rows_of}
use Rattle.ossl_words.specs.Commands.{lines_of, read_or, seed_of}
use Rattle.ossl_words.specs.Numbers.{caller_of}
use Rattle.ossl_words.proofs.Reading.{callers_refused, gen_read, lines_refused, seed_refused}
use Rattle.ossl_words.proofs.words.generate.Goals as goal

pub returns-in_err-lines : goal.returns-in_err-lines
returns-in_err-lines c = c.from_residual.ensures
    ∙ lines_refused (rows_of (found_of c.args.found.now)) (c.in_err-lines.ensures ∙ ap (option_and_then lines_of) c.value.ensures)

pub returns-in_err-seed : goal.returns-in_err-seed
returns-in_err-seed c = c.from_residual-in_err-seed.ensures
    ∙ seed_refused (rows_of (found_of c.args.found.now)) (c.in_err-seed.ensures ∙ ap (option_and_then seed_of) c.value-2.ensures)

pub returns-in_err-callers : goal.returns-in_err-callers
returns-in_err-callers c = c.from_residual-in_err-callers.ensures
    ∙ callers_refused (rows_of (found_of c.args.found.now)) (c.in_err-callers.ensures ∙ ap (read_or 1 caller_of) c.value-3.ensures)

pub returns : goal.returns
returns c = gen_read (rows_of (found_of c.args.found.now)) c.in_ok-lines.lines c.in_ok-seed.seed c.in_ok-callers.callers
    (c.in_ok-lines.ensures ∙ ap (option_and_then lines_of) c.value.ensures) (c.in_ok-seed.ensures ∙ ap (option_and_then seed_of) c.value-2.ensures)
    (c.in_ok-callers.ensures ∙ ap (read_or 1 caller_of) c.value-3.ensures)
