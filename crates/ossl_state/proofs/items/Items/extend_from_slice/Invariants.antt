use Rattle.std.proofs.Common.{◌≡◌, ◌++◌, take}
use Rattle.ossl_state.proofs.items.Items.extend_from_slice.Given as goal

abbrev pub invariant-loop-item : goal.invariant-loop-item
invariant-loop-item g l = l.self-inside.items.items ≡ l.fn.self ++ take l.item-index l.more
