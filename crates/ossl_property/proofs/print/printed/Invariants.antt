use Rattle.std.proofs.Common.{◌≡◌, take, map, eqb}
use Rattle.std.specs.List.{join_with_byte}
use Rattle.ossl_property.proofs.print.printed.Given as goal

-- the items so far, joined
abbrev pub invariant-loop-item : goal.invariant-loop-item
invariant-loop-item g l = record {
  text : l.out.items ≡ join_with_byte 44 (map g.I.Item.printed (take l.item-index l.items));
  is_first : l.is_first ≡ eqb l.item-index 0;
}
