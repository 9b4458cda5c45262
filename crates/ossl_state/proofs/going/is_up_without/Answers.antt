use Rattle.std.proofs.Common.{◌≡◌, not, false, sym, ◌∙◌}
use Rattle.ossl_provider.specs.Members.{is_in}
use Rattle.ossl_state.specs.declared.state.Live.{Live}
use Rattle.ossl_state.specs.State.{is_active, lib_at}
use Rattle.ossl_state.specs.Step.{is_named}
use Rattle.ossl_state.proofs.ListLaws.{list_any-filter}
use Rattle.ossl_state.proofs.going.is_up_without.Goals as goal

pub returns-else-is_active : goal.returns-else-is_active
returns-else-is_active c =
    let s = c.args.state.now in
    let b = c.args.b.now in
    let t = c.in-Element.token in
    let inactive : is_active b.number (lib_at s b.lib).order ≡ false = (rw (c.order_of.ensures, c.as_slice.ensures) at (sym c.is_active_instance-is_active.ensures)) ∙ c.if-is_active.false in
    rw (c.in-Element.is, inactive)
    ((rw c.as_slice-else-is_active.ensures at c.is_held_by_another.ensures) ∙ sym (list_any-filter (λ (x : Live). is_in b.number x.held) (λ x. not (is_named t x)) s.live))
