use Rattle.ossl_words.proofs.Reading.{answered_job, answered_usage, bare_refused, found_answers, refusal_answers}
use Rattle.ossl_words.proofs.words.read_words.Goals as goal

pub returns-then-any_bare : goal.returns-then-any_bare
returns-then-any_bare c = record { job = tt; usage = λ e. bare_refused c.args.threads c.args.words.now c.if-any_bare.ensures }

pub returns-in-Ok : goal.returns-in-Ok
returns-in-Ok c =
    let a = found_answers c.args.threads c.args.words.now c.job_from.result c.in-Ok.found c.if-any_bare.ensures c.in-Ok.ensures c.job_from.ensures in
    record { job = answered_job _ _ a; usage = answered_usage _ _ a }

pub returns-in-Err : goal.returns-in-Err
returns-in-Err c =
    let a = refusal_answers c.args.threads c.args.words.now c.in-Err.refused c.if-any_bare.ensures c.in-Err.ensures in
    record { job = tt; usage = answered_usage _ _ a }
