use Rattle.std.proofs.Common.{◌≡◌, ◌≤◌, drop}
use Rattle.ossl_conf.specs.declared.counted.Place.TheVariants.{Outside}
use Rattle.ossl_conf.specs.Counted.{end_of}
use Rattle.ossl_conf.proofs.counted.end_of.Given as goal

-- the end by the rest is the end of the whole
abbrev pub invariant-loop-at : goal.invariant-loop-at
invariant-loop-at l = record {
  rest : end_of l.quotes l.slash l.place l.at l.end (drop l.at l.text) ≡ end_of l.quotes l.slash Outside 0 0 l.text;
  behind : l.end ≤ l.at;
}
