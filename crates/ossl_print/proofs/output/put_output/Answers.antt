use Rattle.std.proofs.Common.{rules, length, map, Vec, Global}
use Rattle.ossl_script.specs.declared.caller.LineResult.{LineResult}
use Rattle.ossl_print.specs.Batched.{replies_to, results_of}
use Rattle.ossl_print.specs.Order.{history_number}
use Rattle.ossl_print.specs.Results.{told_to}
use Rattle.ossl_print.proofs.ResultsLaws.{results_same}
use Rattle.ossl_print.proofs.output.put_output.Goals as goal

pub returns-clause-batch : goal.returns-clause-batch
returns-clause-batch g c = λ contents are.
    let run = c.args.run.now in
    let lists = map (λ (rs : Vec LineResult Global). rs.items) run.results.now in
    let same = results_same run.lines.now (length lists) (told_to lists) (λ caller. results_of (record { lines = run.lines.now; contents = contents }) caller (replies_to (history_number run.callers.now caller) run.history.now))
    c.requires.told.callers are in
    rw (← same) (search rules)
