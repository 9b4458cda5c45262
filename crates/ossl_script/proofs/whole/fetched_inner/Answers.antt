use Rattle.std.proofs.Common.{ap, ◌∙◌}
use Rattle.ossl_script.specs.Stages.{whole_of}
use Rattle.ossl_script.specs.Whole.{after_inner}
use Rattle.ossl_script.proofs.whole.fetched_inner.Goals as goal

pub returns-in-Fetched : goal.returns-in-Fetched
returns-in-Fetched c = λ fed bindings.
    ap (after_inner (whole_of fed bindings c.args.request) c.args.provider c.args.used) c.in-Fetched.is ∙ c.on_methods.ensures fed bindings
