use Rattle.std.proofs.Common.{ap, sym, ◌∙◌}
use Rattle.ossl_ghash.specs.Nibbles.{multiples_of}
use Rattle.ossl_ghash.proofs.Nibbles.{eighth}
use Rattle.ossl_ghash.proofs.key.HashKey.new.Goals as goal

pub invariant_of-result : goal.invariant_of-result
invariant_of-result c = c.multiples_of.ensures ∙ sym (ap multiples_of (eighth c.multiples_of.result c.args.key c.multiples_of.ensures))

pub returns : goal.returns
returns c = eighth c.multiples_of.result c.args.key c.multiples_of.ensures
