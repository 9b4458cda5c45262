use Rattle.std.proofs.Common.{◌≡◌, ℕ, subst}
use Rattle.ossl_store.specs.declared.choice.Offer.{Offer}
use Rattle.ossl_store.specs.Shelves.{AreShelved, AreGone}
use Rattle.ossl_store.proofs.Moves.{others-whole, same-again}
use Rattle.ossl_store.proofs.store.enter.Goals as goal

pub returns-clause-err : goal.returns-clause-err
returns-clause-err c =
    let old = c.args.shelves.now in
    let mid = c.shelve_rows.new.shelves in
    let new = c.unshelve_rows.new.shelves in
    let rows = c.args.offer.rows.items in
    let shelved = subst (AreShelved old mid c.args.rank) c.as_slice.ensures.value c.in_ok-shelve_rows.ensures.ok in
    let gone = subst (AreGone mid new c.in-Err.refused.value.0) c.as_slice-in-Err.ensures.value c.unshelve_rows.ensures in
    let gone' = subst (λ (p : ℕ × Offer). AreGone mid new p.0 p.1.rows.items) c.in-Err.ensures.value_returned gone in
    (c.in-Err.ensures.err, same-again old mid new c.args.rank rows c.requires (others-whole old mid mid c.args.rank rows c.requires shelved) gone')
