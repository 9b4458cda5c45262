use Rattle.std.proofs.Common.{◌≤◌, Err, sym, ap, ◌∙◌, arith}
use Rattle.ossl_prepare.specs.Answered.{ButForMemory, IsDue}
use Rattle.ossl_prepare.specs.Task.{Inputs, conf_of, reads_source}
use Rattle.ossl_prepare.specs.View.{PreparedView}
use Rattle.ossl_words.specs.Commands.{bytes_of, job_of}
use Rattle.ossl_prepare.proofs.ContentLaws.{handed}
use Rattle.ossl_prepare.proofs.JobLaws.{has_callers, job_is, job_refused, prepared_refused}
use Rattle.ossl_prepare.proofs.reading.read_task.Goals as goal

pub returns-in_err-job-clause-due : goal.returns-in_err-job-clause-due
returns-in_err-job-clause-due g c =
    let source = c.args.source.now in
    let files = c.args.files.now in
    let inputs : Inputs = record {
      threads = c.args.threads;
      words = bytes_of c.args.words.now;
      left = g.S.Source.left source;
      before = g.S.Source.faults source;
      after = g.S.Source.faults source;
      files = record { entries = g.F.Files.entries files; before = g.F.Files.faults files; after = g.F.Files.faults files };
    } in
    rw (handed c.from_residual.result c.in_err-job.field-0.0 c.from_residual.ensures)
    (job_refused inputs (job_of c.args.threads (bytes_of c.args.words.now)) c.in_err-job.field-0.0 c.in_err-job.ensures.job)

pub read_text-requires : goal.read_text-requires
read_text-requires g c = record {
  callers = has_callers c.args.threads (bytes_of c.args.words.now) c.in_ok-job.job (job_is (job_of c.args.threads (bytes_of c.args.words.now)) c.in_ok-job.job c.in_ok-job.ensures.job);
}

pub returns-in_err-text-clause-unread : goal.returns-in_err-text-clause-unread
returns-in_err-text-clause-unread g c none =
    c.read_text.ensures.unread (ap reads_source (sym (job_is (job_of c.args.threads (bytes_of c.args.words.now)) c.in_ok-job.job c.in_ok-job.ensures.job)) ∙ none)

pub returns-in_err-prepared-clause-unread : goal.returns-in_err-prepared-clause-unread
returns-in_err-prepared-clause-unread g c none =
    c.read_text.ensures.unread (ap reads_source (sym (job_is (job_of c.args.threads (bytes_of c.args.words.now)) c.in_ok-job.job c.in_ok-job.ensures.job)) ∙ none)

pub returns-in_err-prepared-clause-due : goal.returns-in_err-prepared-clause-due
returns-in_err-prepared-clause-due g c =
    let source = c.args.source.now in
    let files = c.args.files.now in
    let job = c.in_ok-job.job in
    let text = c.in_ok-text.text.items in
    let e = c.in_err-prepared.field-0.0 in
    let inputs : Inputs = record {
      threads = c.args.threads;
      words = bytes_of c.args.words.now;
      left = g.S.Source.left source;
      before = g.S.Source.faults source;
      after = g.S.Source.faults c.read_text.new.source;
      files = record { entries = g.F.Files.entries files; before = g.F.Files.faults files; after = g.F.Files.faults c.prepare.new.files };
    } in
    let low : g.F.Files.faults files ≤ g.F.Files.faults files = omega arith in
    let high : g.F.Files.faults c.prepare.new.files ≤ g.F.Files.faults c.prepare.new.files = omega arith in
    let due : ButForMemory {A = PreparedView} (Err e) (IsDue inputs.files (conf_of job) text) =
    rw (← c.conf_of.ensures.conf, ← c.as_slice.ensures.value) (c.in_err-prepared.ensures.due (g.F.Files.faults files) (g.F.Files.faults c.prepare.new.files) low high) in
    rw (handed c.from_residual-in_err-prepared.result e c.from_residual-in_err-prepared.ensures)
    (prepared_refused inputs (job_of c.args.threads (bytes_of c.args.words.now)) job text e (job_is (job_of c.args.threads (bytes_of c.args.words.now)) job c.in_ok-job.ensures.job) c.in_ok-text.ensures.text due)
