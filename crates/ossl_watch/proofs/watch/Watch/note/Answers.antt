use Rattle.std.proofs.Common.{◌≡◌, ℕ, ◌+◌, ◌++◌, ◌∷◌, [], length, sym, ◌∙◌, ap, subst, arith}
use Rattle.ossl_watch.specs.Watched.{Watched, noted, starts_told, stops_told}
use Rattle.ossl_watch.specs.Watching.{IsWatching}
use Rattle.ossl_watch.proofs.NoteLaws.{noted_by-next, noted_from, watching_few, watching_lib, watching_next, watching_number, watching_starts, watching_stops}
use Rattle.ossl_watch.proofs.watch.Watch.note.Goals as goal

pub change-requires-clause-lib : goal.change-requires-clause-lib
change-requires-clause-lib g c =
    let told = c.requires.told in
    watching_lib told.0 told.1 c.args.self.now c.args.entry.now told.2.watching told.2.next

pub change-requires-clause-below : goal.change-requires-clause-below
change-requires-clause-below g c =
    let told = c.requires.told in
    watching_few told.0 told.1 c.args.self.now c.args.entry.now told.2.watching told.2.next told.2.few

pub overflow_add-self : goal.overflow_add-self
overflow_add-self g c =
    let told = c.requires.told in
    let w = c.args.self.now in
    let e = c.args.entry.now in
    let next = ap (λ (x : Watched). x.next) (c.self.view_is ∙ c.in_ok-change.ensures.ok) ∙ noted_by-next _ w e.call e.reply ∙ watching_number told.0 told.1 w e told.2.watching told.2.next in
    omega (arith, next, told.2.few)

pub returns-clause-watching : goal.returns-clause-watching
returns-clause-watching g c = λ fixed entries told.
    let w = c.args.self.now in
    let e = c.args.entry.now in
    let left = noted_from _ w e _ (c.self.view_is ∙ c.in_ok-change.ensures.ok) in
    let P : Watched → Type 0 = λ x. IsWatching fixed (entries ++ e ∷ []) x in
    subst P (sym (left ∙ ap (λ facts. noted facts w e) (sym told.boxes))) (watching_next fixed entries w e told.watching told.next)

pub returns-clause-started : goal.returns-clause-started
returns-clause-started g c = λ fixed entries told.
    let w = c.args.self.now in
    let e = c.args.entry.now in
    c.in_ok-change.ensures.started ∙ ap (λ facts. starts_told facts w e.call e.reply) (sym told.boxes) ∙ sym (watching_starts fixed entries w e told.watching told.next)

pub returns-clause-stopped : goal.returns-clause-stopped
returns-clause-stopped g c = λ fixed entries told.
    let w = c.args.self.now in
    let e = c.args.entry.now in
    c.in_ok-change.ensures.stopped ∙ ap (λ facts. stops_told facts w e.call e.reply) (sym told.boxes) ∙ sym (watching_stops fixed entries w e told.watching told.next)
