use Rattle.std.proofs.Common.{◌+◌, length, ◌∙◌, sym, ap, arith}
use Rattle.std.proofs.lemmas.Bool.{eqb-true, eqb-false}
use Rattle.std.proofs.lemmas.Result.{err_from_is_err_and}
use Rattle.ossl_property.specs.Names.{has}
use Rattle.ossl_property.proofs.Found.{clause_shorter}
use Rattle.ossl_property.proofs.Lists.{same_function, first_fails, first_goes_on, first_named, nothing_left, goes_on, ends}
use Rattle.ossl_property.proofs.reader.Reader.clauses.Goals as goal

pub returns-in_err-first : goal.returns-in_err-first
returns-in_err-first c =
    let p = err_from_is_err_and c.from_residual.result c.from_residual.ensures.1 in
    rw (p.1, p.2, ← c.skip_spaces.ensures.rest) (first_fails c.args.language (has c.new-names.result) c.skip_spaces.new.self.rest.now c.in_err-first.field-0.0 c.clause.new.self.rest.now (same_function _ _ c.new-names.ensures) (eqb-false _ _ (sym c.is_empty.ensures ∙ c.if-is_empty.false)) c.in_err-first.ensures.clause)

pub clauses-init : goal.clauses-init
clauses-init c =
    let shorter = clause_shorter c.args.language (has c.new-names.result) c.skip_spaces.new.self.rest.now c.in_ok-first.first c.clause.new.self.rest.now c.skip_spaces.ensures.trimmed c.in_ok-first.ensures.clause in
    let ends = ap length c.skip_spaces-2.ensures.rest in
    record {
      names = rw (c.in_ok-push.ensures.items, c.new-clauses.ensures.items) (first_named _ _ c.in_ok-first.first c.new-names.ensures c.in_ok-first.ensures.names);
      whole = (length c.skip_spaces.new.self.rest.now + 1, omega (arith, shorter, ends), rw (c.in_ok-push.ensures.items, c.new-clauses.ensures.items, c.skip_spaces-2.ensures.rest, ← c.skip_spaces.ensures.rest) (first_goes_on c.args.language (has c.new-names.result) c.skip_spaces.new.self.rest.now c.in_ok-first.first c.clause.new.self.rest.now (same_function _ _ c.new-names.ensures) (eqb-false _ _ (sym c.is_empty.ensures ∙ c.if-is_empty.false)) c.in_ok-first.ensures.clause));
    }

pub clauses-preserved : goal.clauses-preserved
clauses-preserved c = record {
  names = c.in_ok-next.ensures.names;
  whole = goes_on c.clauses.invariant.whole.0 c.args.language _ _ _ _ _ c.clauses.invariant.whole.1 c.clauses.invariant.whole.2 c.in_ok-next.ensures.ok c.in_ok-next.ensures.less;
}

pub returns-in_err-next : goal.returns-in_err-next
returns-in_err-next c =
    let p = err_from_is_err_and c.from_residual-in_err-next.result c.from_residual-in_err-next.ensures.1 in
    rw (p.1, p.2) (ends c.clauses.invariant.whole.0 c.args.language _ _ _ _ c.in_err-next.field-0.0 c.clauses.invariant.whole.1 c.clauses.invariant.whole.2 c.in_err-next.ensures.err)

pub returns : goal.returns
returns c = sym c.clauses.invariant.whole.2 ∙ nothing_left c.clauses.invariant.whole.0 c.args.language _ _ (eqb-true _ _ (sym c.is_empty-in-clauses.ensures ∙ c.clauses-test.false)) c.clauses.invariant.whole.1
