use Rattle.std.proofs.Common.{not, nat_eq, refl}
use Rattle.ossl_state.specs.declared.state.Given.{Given}
use Rattle.ossl_state.specs.Step.{is_of_token}
use Rattle.ossl_state.proofs.ListLaws.{list_any-filter}
use Rattle.ossl_state.proofs.going.stays.Goals as goal

pub returns-then-has_another : goal.returns-then-has_another
returns-then-has_another c =
    let same = list_any-filter (λ (g : Given). nat_eq g.place c.args.a.now.place) (λ g. not (is_of_token c.args.token g)) c.args.given.now in
    rw (same, ← c.has_another.ensures, c.if-has_another.true) refl

pub returns-else-has_another : goal.returns-else-has_another
returns-else-has_another c =
    let same = list_any-filter (λ (g : Given). nat_eq g.place c.args.a.now.place) (λ g. not (is_of_token c.args.token g)) c.args.given.now in
    rw (same, ← c.has_another.ensures, c.if-has_another.false) c.is_kept_place.ensures
