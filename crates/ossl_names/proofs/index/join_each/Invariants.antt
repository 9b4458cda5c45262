use Rattle.std.proofs.Common.{◌≡◌, [], take, fold}
use Rattle.ossl_names.specs.Index.{is_found, with_new, FindsAlso, AreNew}
use Rattle.ossl_names.proofs.Finds.{values}
use Rattle.ossl_names.proofs.index.join_each.Given as goal

abbrev pub invariant-loop-name : goal.invariant-loop-name
invariant-loop-name l = record {
  new : l.fresh.items ≡ fold (with_new (is_found l.fn.index)) [] (take l.name-index (values l.names));
  finds : FindsAlso l.fn.index l.index l.fresh.items l.number;
  unknown : AreNew l.fn.index l.fresh.items;
}
