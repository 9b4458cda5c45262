use Rattle.std.proofs.Common.{◌∙◌, [], Err, ap, subst, sym}
use Rattle.std.proofs.lemmas.Result.{err_from_is_err_and}
use Rattle.clap.specs.Matches.{found_of}
use Rattle.clap.specs.Walk.{rows_of}
use Rattle.ossl_words.specs.Answers.{Answers}
use Rattle.ossl_words.specs.Commands.{name_of, read_if_given, read_or}
use Rattle.ossl_words.specs.Numbers.{order_of}
use Rattle.ossl_words.proofs.Reading.{conf_refused, order_refused, run_read}
use Rattle.ossl_words.proofs.words.run.Goals as goal

pub returns-in_err-conf : goal.returns-in_err-conf
returns-in_err-conf c =
    let p = err_from_is_err_and c.from_residual.result c.from_residual.ensures.1 in
    rw (p.1, p.2) (conf_refused (rows_of (found_of c.args.found.now)) c.in_err-conf.field-0.0
    (subst (λ value. Answers (Err c.in_err-conf.field-0.0) (read_if_given name_of value)) c.value.ensures c.in_err-conf.ensures))

pub returns-in_err-order : goal.returns-in_err-order
returns-in_err-order c =
    let p = err_from_is_err_and c.from_residual-in_err-order.result c.from_residual-in_err-order.ensures.1 in
    rw (p.1, p.2) (order_refused (rows_of (found_of c.args.found.now)) c.in_err-order.field-0.0
    (subst (λ value. Answers (Err c.in_err-order.field-0.0) (read_or [] order_of value)) c.value-2.ensures c.in_err-order.ensures))

pub returns : goal.returns
returns c = run_read (rows_of (found_of c.args.found.now)) c.in_ok-conf.conf c.in_ok-order.order
    (ap (read_if_given name_of) (sym c.value.ensures) ∙ c.in_ok-conf.ensures) (ap (read_or [] order_of) (sym c.value-2.ensures) ∙ c.in_ok-order.ensures)
