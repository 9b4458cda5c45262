use Rattle.std.proofs.Common.{List, [], ◌∷◌, ◌++◌, Some, sym, ap, ◌∙◌, subst}
use Rattle.ossl_script.specs.declared.held.Held.{Held}
use Rattle.ossl_script.specs.declared.script_caller.ScriptCaller.TheInside.{Inside}
use Rattle.ossl_script.specs.Places.{held_in}
use Rattle.ossl_script.specs.View.{Gives, ScriptCallerView}
use Rattle.ossl_script.specs.Work.{standing_in, view_of}
use Rattle.ossl_script.proofs.AllowedLaws.{giving_back_is_allowed}
use Rattle.ossl_script.proofs.WorkLaws.{gives, one_gone, works_with_places}
use Rattle.ossl_script.proofs.script_caller.ScriptCaller.give_back.Goals as goal

-- nothing is left
pub invariant_of-self : goal.invariant_of-self
invariant_of-self c =
    let s = c.self.inside in
    let gone = c.self.invariant.holds.gone in
    let taken = c.in_err-take_newest.ensures.taken in
    works_with_places s c.take_newest.new.places gone c.self.invariant c.in_err-take_newest.ensures.ascends
    (c.self.invariant.holds.held ∙ ap (λ (xs : List Held). gone ++ xs) (taken.0 ∙ sym taken.1)) c.in_err-take_newest.ensures.room

-- the newest is given back
pub invariant_of-self-2 : goal.invariant_of-self-2
invariant_of-self-2 c =
    let s = c.self.inside in
    let gone = c.self.invariant.holds.gone in
    let token = c.in_ok-take_newest.field-0 in
    let places = c.take_newest.new.places in
    works_with_places s places (gone ++ token ∷ []) c.self.invariant c.in_ok-take_newest.ensures.ascends
    (one_gone (standing_in s).held gone (held_in s.places.items) (held_in places.items) token c.self.invariant.holds.held c.in_ok-take_newest.ensures.taken)
    c.in_ok-take_newest.ensures.room

pub returns-in_err-take_newest-clause-allowed : goal.returns-in_err-take_newest-clause-allowed
returns-in_err-take_newest-clause-allowed c = giving_back_is_allowed

pub returns-clause-call : goal.returns-clause-call
returns-clause-call c =
    let s : Inside = c.self.inside in
    let places = c.take_newest.new.places in
    subst (λ (v : ScriptCallerView). Gives v (Some c.give_back.result) (view_of (record s { places = places }))) c.self.view_is
    (gives s places c.in_ok-take_newest.field-0 c.give_back.result c.self.invariant c.in_ok-take_newest.ensures.taken c.give_back.ensures.call)

pub returns-clause-allowed : goal.returns-clause-allowed
returns-clause-allowed c = giving_back_is_allowed
