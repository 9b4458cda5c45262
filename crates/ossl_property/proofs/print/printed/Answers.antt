use Rattle.std.proofs.Common.{arith}
use Rattle.ossl_property.proofs.Joined.{joined_more}
use Rattle.ossl_property.proofs.print.printed.Goals as goal

pub loop-item-preserved : goal.loop-item-preserved
loop-item-preserved g c = record {
  text = joined_more g.I.Item.printed c.args.items.now c.loop-item.item-index c.item-item.result _ _ c.loop-item.is_first c.loop-item-test.true c.item-item.is c.loop-item.invariant.text c.loop-item.invariant.is_first c.in_ok-put_next.ensures;
  is_first = grind (arith);
}
