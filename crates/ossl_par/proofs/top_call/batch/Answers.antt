use Rattle.std.proofs.Common.{refl, true}
use Rattle.ossl_words.specs.Commands.{bytes_of}
use Rattle.ossl_par.proofs.EachLaws.{each_caller_of_run_is_done, program_of_run_is_apart}
use Rattle.ossl_par.proofs.top_call.batch.Goals as goal

-- 1. How the call ends.

pub returns-in-Ok-clause-ends : goal.returns-in-Ok-clause-ends
returns-in-Ok-clause-ends g c = c.perform.ensures.ends (record {
  threads = true;
  words = bytes_of c.args.words.now;
  left = g.S.Source.left c.args.source.now;
  before = g.S.Source.faults c.args.source.now;
  after = g.S.Source.faults c.read_task.new.source;
  files = record {
    entries = g.F.Files.entries c.args.files.now;
    before = g.F.Files.faults c.args.files.now;
    after = g.F.Files.faults c.read_task.new.files;
  };
}) refl c.in-Ok.ensures.due

pub returns-in-Err-Error-clause-ends : goal.returns-in-Err-Error-clause-ends
returns-in-Err-Error-clause-ends g c = c.refuse.ensures.ends (record {
  threads = true;
  words = bytes_of c.args.words.now;
  left = g.S.Source.left c.args.source.now;
  before = g.S.Source.faults c.args.source.now;
  after = g.S.Source.faults c.read_task.new.source;
  files = record {
    entries = g.F.Files.entries c.args.files.now;
    before = g.F.Files.faults c.args.files.now;
    after = g.F.Files.faults c.read_task.new.files;
  };
}) (rw c.in-Err-Error.field-0-is at c.in-Err-Error.ensures.due)

-- 2. The laws of every run.

pub returns-in-Ok-clause-each : goal.returns-in-Ok-clause-each
returns-in-Ok-clause-each g c = each_caller_of_run_is_done

pub returns-in-Ok-clause-apart : goal.returns-in-Ok-clause-apart
returns-in-Ok-clause-apart g c = program_of_run_is_apart

pub returns-in-Err-Error-clause-each : goal.returns-in-Err-Error-clause-each
returns-in-Err-Error-clause-each g c = each_caller_of_run_is_done

pub returns-in-Err-Error-clause-apart : goal.returns-in-Err-Error-clause-apart
returns-in-Err-Error-clause-apart g c = program_of_run_is_apart

pub returns-in-Err-NoMemory-clause-each : goal.returns-in-Err-NoMemory-clause-each
returns-in-Err-NoMemory-clause-each g c = each_caller_of_run_is_done

pub returns-in-Err-NoMemory-clause-apart : goal.returns-in-Err-NoMemory-clause-apart
returns-in-Err-NoMemory-clause-apart g c = program_of_run_is_apart
