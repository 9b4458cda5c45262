use Rattle.std.proofs.Common.{◌≡◌, ◌∷◌, ◌+◌, List, drop, sym, subst, ◌∙◌}
use Rattle.std.specs.List.{filter_map, fold}
use Rattle.std.specs.Prelude.{Some, None}
use Rattle.ossl_ordered.specs.declared.player.Player.{Player}
use Rattle.ossl_ordered.specs.Turns.{least, lesser}
use Rattle.ossl_ordered.specs.Work.{turn_in}
use Rattle.ossl_ordered.proofs.OrderLaws.{drop_player, least_step}
use Rattle.ossl_ordered.proofs.turns.least_turn.Goals as goal
use Rattle.ossl_ordered.proofs.turns.least_turn.Goals.{in-Some, in-None}

pub loop-player-preserved : goal.loop-player-preserved
loop-player-preserved c =
    let i = c.loop-player.player-index in
    let p = c.player-item.result in
    let players = c.args.players.now in
    let all = least (filter_map turn_in players) in
    let whole : fold lesser c.loop-player.first (filter_map turn_in (p ∷ drop (i + 1) players)) ≡ all =
    subst (λ (l : List Player). fold lesser c.loop-player.first (filter_map turn_in l) ≡ all) (drop_player players i p c.loop-player-test.true c.player-item.is) c.loop-player.invariant in
    elim c.match-turn.branch [
      | in-Some w ↦ least_step c.loop-player.first c.match-turn.first all p (drop (i + 1) players) (Some w.in-Some.turn) whole (sym c.turn.ensures.turn ∙ w.in-Some.is) (w.first-is ∙ w.lesser.ensures)
      | in-None w ↦ least_step c.loop-player.first c.match-turn.first all p (drop (i + 1) players) None whole (sym c.turn.ensures.turn ∙ w.in-None.is) w.first-is
    ]
