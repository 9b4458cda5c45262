use Rattle.std.proofs.Common.{ℕ, List, sym, ap, ◌∙◌}
use Rattle.ossl_op.specs.declared.params.BeginRefused.{BeginRefused}
use Rattle.ossl_script.specs.Course.{Course}
use Rattle.ossl_script.specs.declared.outcome.Outcome.TheVariants.{NotBegun}
use Rattle.ossl_script.specs.declared.stage.Asked.{Asked}
use Rattle.ossl_script.specs.Stages.{whole_of}
use Rattle.ossl_script.specs.Whole.{after_context, begun, freed, tokens_of}
use Rattle.ossl_script.proofs.whole.on_methods.Goals as goal

pub returns-in-Ok : goal.returns-in-Ok
returns-in-Ok c = λ fed bindings.
    let refused : BeginRefused → Course = λ refusal. freed (tokens_of c.args.used c.args.inner) (NotBegun refusal) bindings in
    let ready = after_context (whole_of fed bindings c.args.request) c.args.provider c.args.used c.args.inner in
    ap (λ (asked : Asked). begun c.args.used c.args.inner asked.options.params refused ready) (sym c.asked.ensures.asked)
    ∙ c.in-Ok.ensures refused ready

pub returns-in-Err : goal.returns-in-Err
returns-in-Err c = λ fed bindings.
    let refused : BeginRefused → Course = λ refusal. freed (tokens_of c.args.used c.args.inner) (NotBegun refusal) bindings in
    let ready = after_context (whole_of fed bindings c.args.request) c.args.provider c.args.used c.args.inner in
    ap (λ (asked : Asked). begun c.args.used c.args.inner asked.options.params refused ready) (sym c.asked.ensures.asked)
    ∙ c.in-Err.ensures refused ready
    ∙ ap (λ (tokens : List ℕ). freed tokens (NotBegun c.in-Err.refusal) bindings) (sym c.unfreed.ensures)
    ∙ c.ended.ensures fed bindings
