use Rattle.std.proofs.Common.{◌≡◌, ◌++◌, drop, map}
use Rattle.std.specs.Prelude.{codes, option_to_list}
use Rattle.ossl_print.specs.Order.{told_text}
use Rattle.ossl_print.proofs.order.write_change.Given as goal

-- what was appended and what is left make the whole
abbrev pub invariant-loop-up : goal.invariant-loop-up
invariant-loop-up g l =
    let facts = map g.P.Provider.facts l.catalogue in
    l.out.items ++ told_text (codes "stop") facts (drop l.up-index l.change.stopped.items)
    ≡ l.fn.out.items ++ told_text (codes "start") facts (option_to_list l.change.started) ++ told_text (codes "stop") facts l.change.stopped.items
