use Rattle.std.proofs.Common.{◌<◌, length, arith}
use Rattle.std.proofs.lemmas.Result.{on_ok_weaker, on_err_weaker}
use Rattle.ossl_provider.specs.Sheet.{after_start, after_refusal}
use Rattle.ossl_calls.proofs.BoxesLaws.{same_facts, changed_sheet}
use Rattle.ossl_calls.proofs.boxes.start_at.Goals as goal

pub returns-clause-facts : goal.returns-clause-facts
returns-clause-facts g c = same_facts g.P.Provider.facts c.args.boxes.now.items c.args.place c.index_mut.result.now _ c.index_mut.ensures.value c.start.ensures.facts

pub returns-clause-ok : goal.returns-clause-ok
returns-clause-ok g c = let within : c.args.place < length c.args.boxes.now.items = omega (arith, c.args.boxes.now.ok.0) in on_ok_weaker c.start.result
    (changed_sheet g.P.Provider.sheet (λ s. after_start s c.args.instance) c.args.boxes.now.items c.args.place c.index_mut.result.now _ within c.index_mut.ensures.value) c.start.ensures.ok

pub returns-clause-err : goal.returns-clause-err
returns-clause-err g c = let within : c.args.place < length c.args.boxes.now.items = omega (arith, c.args.boxes.now.ok.0) in on_err_weaker c.start.result
    (changed_sheet g.P.Provider.sheet after_refusal c.args.boxes.now.items c.args.place c.index_mut.result.now _ within c.index_mut.ensures.value) c.start.ensures.err
