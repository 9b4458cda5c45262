use Rattle.std.proofs.Common.{ℕ, length, arith, ap}
use Rattle.std.proofs.lemmas.List.{length-drop}
use Rattle.ossl_property.specs.Names.{has}
use Rattle.ossl_property.proofs.Found.{clause_shorter}
use Rattle.ossl_property.proofs.reader.Reader.next.Goals as goal

pub returns-clause-less : goal.returns-clause-less
returns-clause-less c =
    let shorter = clause_shorter c.args.language (has c.args.names.now) c.skip_spaces.new.self.rest.now c.in_ok-clause.clause c.clause.new.self.rest.now c.skip_spaces.ensures.trimmed c.in_ok-clause.ensures.clause in
    let ends = ap length c.skip_spaces-2.ensures.rest in
    omega (arith, shorter, ends, c.skip_spaces.ensures.shorter, c.in-44.len_at_least, length-drop {A = ℕ})
