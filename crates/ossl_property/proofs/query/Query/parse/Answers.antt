use Rattle.ossl_property.specs.declared.reader.Language.TheVariants.{Queries}
use Rattle.ossl_property.specs.declared.clause.Clause.{Clause}
use Rattle.std.proofs.Common.{List, ◌∙◌, sym, refl}
use Rattle.std.proofs.lemmas.Result.{err_from_is_err_and}
use Rattle.ossl_property.proofs.Found.{ok_is}
use Rattle.ossl_property.proofs.FoundLists.{query_found}
use Rattle.ossl_property.proofs.AgainLists.{query_again, no_fault}
use Rattle.ossl_property.proofs.Faults.{refusal_fault, refused_there, read_no_fault}
use Rattle.ossl_property.proofs.Meanings.{query_one, query_apart}
use Rattle.ossl_property.specs.Said.{query_said}
use Rattle.ossl_property.proofs.SaidLaws.{query_law, query_refused}
use Rattle.ossl_property.proofs.query.Query.parse.Goals as goal

pub returns-clause-found : goal.returns-clause-found
returns-clause-found c = query_found _ _ c.in_ok-clauses.ensures.found

pub returns-clause-only : goal.returns-clause-only
returns-clause-only c = λ query is. ok_is _ _ (sym c.in_ok-clauses.ensures.found ∙ query_again c.args.text.now query is)

pub returns-in_err-clauses-clause-only : goal.returns-in_err-clauses-clause-only
returns-in_err-clauses-clause-only c =
    let p = err_from_is_err_and c.from_residual.result c.from_residual.ensures.1 in
    rw (p.1, p.2) (λ query is. no_fault _ c.in_err-clauses.field-0.0 query _ c.in_err-clauses.ensures.refused (query_again c.args.text.now query is))

pub returns-in_err-clauses-clause-refused : goal.returns-in_err-clauses-clause-refused
returns-in_err-clauses-clause-refused c =
    let p = err_from_is_err_and c.from_residual.result c.from_residual.ensures.1 in
    rw (p.1, p.2) (refusal_fault Queries c.args.text.now c.in_err-clauses.field-0.0 c.in_err-clauses.ensures.refused)

pub returns-in_err-clauses-clause-faulty : goal.returns-in_err-clauses-clause-faulty
returns-in_err-clauses-clause-faulty c =
    let p = err_from_is_err_and c.from_residual.result c.from_residual.ensures.1 in
    rw (p.1, p.2) (λ place fault. refused_there Queries (List Clause) c.args.text.now c.in_err-clauses.field-0.0 place c.in_err-clauses.ensures.refused fault)

pub returns-in_err-clauses-clause-one : goal.returns-in_err-clauses-clause-one
returns-in_err-clauses-clause-one c = query_one c.args.text.now

pub returns-in_err-clauses-clause-apart : goal.returns-in_err-clauses-clause-apart
returns-in_err-clauses-clause-apart c = query_apart c.args.text.now

pub returns-clause-faulty : goal.returns-clause-faulty
returns-clause-faulty c = λ place fault. read_no_fault Queries c.args.text.now _ place c.in_ok-clauses.ensures.found fault

pub returns-clause-one : goal.returns-clause-one
returns-clause-one c = query_one c.args.text.now

pub returns-clause-apart : goal.returns-clause-apart
returns-clause-apart c = query_apart c.args.text.now

pub returns-clause-said : goal.returns-clause-said
unfolding query_said
returns-clause-said c = rw c.in_ok-clauses.ensures.found refl

pub returns-in_err-clauses-clause-said : goal.returns-in_err-clauses-clause-said
returns-in_err-clauses-clause-said c =
    let p = err_from_is_err_and c.from_residual.result c.from_residual.ensures.1 in
    rw (p.1, p.2) (query_refused c.args.text.now c.in_err-clauses.field-0.0 c.in_err-clauses.ensures.refused)

pub returns-clause-law : goal.returns-clause-law
returns-clause-law c = query_law c.args.text.now

pub returns-in_err-clauses-clause-law : goal.returns-in_err-clauses-clause-law
returns-in_err-clauses-clause-law c = query_law c.args.text.now
