use Rattle.std.proofs.Common.{◌≡◌, ◌<◌, length, ap, sym, ◌∙◌, subst}
use Rattle.std.specs.Prelude.{Some, option_and_then, slice_get}
use Rattle.std.proofs.lemmas.Option.{slice_get_within}
use Rattle.ossl_commands.specs.Counts.{lines_of, own_places}
use Rattle.ossl_commands.proofs.OwnLaws.{as_many, for_some, own_line}
use Rattle.ossl_commands.proofs.own.OwnLines.get.Goals as goal

pub returns-in-Some-clause-line : goal.returns-in-Some-clause-line
returns-in-Some-clause-line c =
    let caller = c.self.inside.caller in
    let lines = c.self.inside.all.value.items in
    let place_is : Some c.in-Some.place ≡ slice_get (own_places caller 0 lines) c.args.index =
    c.in-Some.ensures.place ∙ ap (λ places. slice_get places c.args.index) (c.as_slice.ensures.value ∙ c.self.invariant) in
    rw (← c.self.view_is) (
    c.line_at.ensures
    ∙ ap (λ all. slice_get all c.in-Some.place) (c.as_slice-in-Some.ensures.value ∙ ap (λ v. v.items) c.deref.ensures)
    ∙ ap (λ o. option_and_then (λ place. slice_get lines place) o) place_is
    ∙ sym (own_line caller lines c.args.index))

pub returns-in-Some-clause-within : goal.returns-in-Some-clause-within
returns-in-Some-clause-within c =
    let caller = c.self.inside.caller in
    let lines = c.self.inside.all.value.items in
    let places = own_places caller 0 lines in
    let place_is : Some c.in-Some.place ≡ slice_get places c.args.index =
    c.in-Some.ensures.place ∙ ap (λ places. slice_get places c.args.index) (c.as_slice.ensures.value ∙ c.self.invariant) in
    let within : c.args.index < length (lines_of caller lines) =
    subst (λ n. c.args.index < n) (as_many caller 0 lines) (slice_get_within places c.args.index c.in-Some.place (sym place_is)) in
    rw (← c.self.view_is) (for_some (c.args.index < length (lines_of caller lines)) c.line_at.result within)

pub returns-in-Some-clause-few : goal.returns-in-Some-clause-few
returns-in-Some-clause-few c = for_some (c.args.index < 18446744073709551615) c.line_at.result c.in-Some.ensures.few

pub returns-in-None-clause-line : goal.returns-in-None-clause-line
returns-in-None-clause-line c =
    let caller = c.self.inside.caller in
    let lines = c.self.inside.all.value.items in
    let place_is = c.in-None.ensures.place ∙ ap (λ places. slice_get places c.args.index) (c.as_slice.ensures.value ∙ c.self.invariant) in
    rw (← c.self.view_is) (
    ap (λ o. option_and_then (λ place. slice_get lines place) o) place_is
    ∙ sym (own_line caller lines c.args.index))
