use Rattle.ossl_property.specs.declared.reader.Language.TheVariants.{Definitions}
use Rattle.ossl_property.specs.declared.clause.Property.{Property}
use Rattle.std.proofs.Common.{List, ◌∙◌, sym, ap, map, refl}
use Rattle.std.proofs.lemmas.Result.{err_from_is_err_and}
use Rattle.ossl_property.specs.Grammar.{asked}
use Rattle.ossl_property.specs.Reading.{property_of}
use Rattle.ossl_property.proofs.Found.{ok_is}
use Rattle.ossl_property.proofs.FoundLists.{definition_found}
use Rattle.ossl_property.proofs.AgainLists.{definition_again, property_asked, no_fault}
use Rattle.ossl_property.proofs.Faults.{refusal_fault, refused_there, read_no_fault}
use Rattle.ossl_property.proofs.Meanings.{definition_one, definition_apart}
use Rattle.ossl_property.specs.Said.{definition_said}
use Rattle.ossl_property.proofs.SaidLaws.{definition_law, definition_refused}
use Rattle.ossl_property.proofs.definition.Definition.parse.Goals as goal

pub returns-clause-found : goal.returns-clause-found
returns-clause-found c = rw c.in_ok-properties.ensures (definition_found _ _ c.in_ok-clauses.ensures.found)

pub returns-clause-only : goal.returns-clause-only
returns-clause-only c = λ definition is. c.in_ok-properties.ensures ∙ ap (map property_of) (ok_is _ _ (sym c.in_ok-clauses.ensures.found ∙ definition_again c.args.text.now definition is)) ∙ property_asked definition

pub returns-in_err-clauses-clause-only : goal.returns-in_err-clauses-clause-only
returns-in_err-clauses-clause-only c =
    let p = err_from_is_err_and c.from_residual.result c.from_residual.ensures.1 in
    rw (p.1, p.2) (λ definition is. no_fault _ c.in_err-clauses.field-0.0 (map asked definition) _ c.in_err-clauses.ensures.refused (definition_again c.args.text.now definition is))

pub returns-in_err-clauses-clause-refused : goal.returns-in_err-clauses-clause-refused
returns-in_err-clauses-clause-refused c =
    let p = err_from_is_err_and c.from_residual.result c.from_residual.ensures.1 in
    rw (p.1, p.2) (refusal_fault Definitions c.args.text.now c.in_err-clauses.field-0.0 c.in_err-clauses.ensures.refused)

pub returns-in_err-clauses-clause-faulty : goal.returns-in_err-clauses-clause-faulty
returns-in_err-clauses-clause-faulty c =
    let p = err_from_is_err_and c.from_residual.result c.from_residual.ensures.1 in
    rw (p.1, p.2) (λ place fault. refused_there Definitions (List Property) c.args.text.now c.in_err-clauses.field-0.0 place c.in_err-clauses.ensures.refused fault)

pub returns-in_err-clauses-clause-one : goal.returns-in_err-clauses-clause-one
returns-in_err-clauses-clause-one c = definition_one c.args.text.now

pub returns-in_err-clauses-clause-apart : goal.returns-in_err-clauses-clause-apart
returns-in_err-clauses-clause-apart c = definition_apart c.args.text.now

pub returns-clause-faulty : goal.returns-clause-faulty
returns-clause-faulty c = λ place fault. read_no_fault Definitions c.args.text.now _ place c.in_ok-clauses.ensures.found fault

pub returns-clause-one : goal.returns-clause-one
returns-clause-one c = definition_one c.args.text.now

pub returns-clause-apart : goal.returns-clause-apart
returns-clause-apart c = definition_apart c.args.text.now

pub returns-in_err-properties-clause-one : goal.returns-in_err-properties-clause-one
returns-in_err-properties-clause-one c = definition_one c.args.text.now

pub returns-in_err-properties-clause-apart : goal.returns-in_err-properties-clause-apart
returns-in_err-properties-clause-apart c = definition_apart c.args.text.now

pub returns-clause-said : goal.returns-clause-said
unfolding definition_said
returns-clause-said c = rw (c.in_ok-clauses.ensures.found, c.in_ok-properties.ensures) refl

pub returns-in_err-clauses-clause-said : goal.returns-in_err-clauses-clause-said
returns-in_err-clauses-clause-said c =
    let p = err_from_is_err_and c.from_residual.result c.from_residual.ensures.1 in
    rw (p.1, p.2) (definition_refused c.args.text.now c.in_err-clauses.field-0.0 c.in_err-clauses.ensures.refused)

pub returns-clause-law : goal.returns-clause-law
returns-clause-law c = definition_law c.args.text.now

pub returns-in_err-clauses-clause-law : goal.returns-in_err-clauses-clause-law
returns-in_err-clauses-clause-law c = definition_law c.args.text.now

pub returns-in_err-properties-clause-law : goal.returns-in_err-properties-clause-law
returns-in_err-properties-clause-law c = definition_law c.args.text.now
