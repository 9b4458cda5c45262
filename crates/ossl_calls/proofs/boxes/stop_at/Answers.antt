use Rattle.std.proofs.Common.{◌<◌, length, arith}
use Rattle.ossl_provider.specs.Sheet.{after_stop}
use Rattle.ossl_calls.proofs.BoxesLaws.{same_facts, changed_sheet}
use Rattle.ossl_calls.proofs.boxes.stop_at.Goals as goal

pub returns-clause-facts : goal.returns-clause-facts
returns-clause-facts g c = same_facts g.P.Provider.facts c.args.boxes.now.items c.args.place c.index_mut.result.now _ c.index_mut.ensures.value c.stop.ensures.facts

pub returns-clause-sheets : goal.returns-clause-sheets
returns-clause-sheets g c =
    let within : c.args.place < length c.args.boxes.now.items = omega (arith, c.args.boxes.now.ok.0) in
    changed_sheet g.P.Provider.sheet (λ s. after_stop s c.args.instance) c.args.boxes.now.items c.args.place c.index_mut.result.now _ within c.index_mut.ensures.value c.stop.ensures.stopped
