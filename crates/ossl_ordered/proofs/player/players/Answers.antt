use Rattle.std.proofs.Common.{◌≡◌, ℕ, ◌+◌, ◌<◌, List, [], ◌∷◌, ◌++◌, length, subst, sym, ◌∙◌, ap}
use Rattle.std.specs.Prelude.{slice_index_or}
use Rattle.std.proofs.lemmas.List.{length-append}
use Rattle.ossl_ordered.specs.declared.player.Player.{Player}
use Rattle.ossl_ordered.specs.Work.{IsFresh, IsReady}
use Rattle.ossl_ordered.proofs.EachLaws.{each_more}
use Rattle.ossl_ordered.proofs.player.players.Goals as goal

pub loop-place-preserved : goal.loop-place-preserved
loop-place-preserved c =
    let so_far : List Player = c.loop-place.players.items in
    let player : Player = c.in_ok-player.player in
    let items : so_far ++ player ∷ [] ≡ c.push.new.self.items = sym c.in_ok-push.ensures.items in
    let told = c.in_ok-player.ensures in
    let fresh : IsFresh c.args.script.now.commands c.args.contents.now (c.loop-place.place + 1) player = record {
      number = told.number;
      same = told.same;
      fresh = told.fresh;
      keeps = told.keeps;
      speaks = told.speaks;
    } in
    let fresh_there : IsFresh c.args.script.now.commands c.args.contents.now (length so_far + 1) player =
    subst (λ n. IsFresh c.args.script.now.commands c.args.contents.now (n + 1) player) (sym c.loop-place.invariant.each) fresh in
    record {
      each = ap length (sym items) ∙ length-append so_far (player ∷ []) ∙ ap (λ n. n + 1) c.loop-place.invariant.each;
      ready =
          subst (λ (ps : List Player). (k : ℕ) (other : Player) → k < length ps → IsReady (slice_index_or ps k other)) items
          (each_more (λ k p. IsReady p) so_far player c.loop-place.invariant.ready told.ready);
      work =
          subst (λ (ps : List Player). (k : ℕ) (other : Player) → k < length ps → IsFresh c.args.script.now.commands c.args.contents.now (k + 1) (slice_index_or ps k other)) items
          (each_more (λ k p. IsFresh c.args.script.now.commands c.args.contents.now (k + 1) p) so_far player c.loop-place.invariant.work fresh_there);
    }
