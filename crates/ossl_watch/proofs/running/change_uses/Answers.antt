use Rattle.std.proofs.Common.{◌≡◌, ◌<◌, true, add-one, arith, get_or, sym, ◌∙◌, ap, length, map, take, drop, ◌++◌}
use Rattle.std.proofs.Math.ListN.{set, length-set}
use Rattle.ossl_watch.specs.Watched.{after_use}
use Rattle.ossl_watch.proofs.BelowLaws.{below_at, below_parts}
use Rattle.ossl_watch.proofs.CountLaws.{changed_at, changed_set}
use Rattle.ossl_watch.proofs.running.change_uses.Goals as goal

pub after_use-requires-clause-activations : goal.after_use-requires-clause-activations
after_use-requires-clause-activations c =
    let first = c.args.running.now.items in
    let i = c.loop-at.at in
    let r = c.index.result.now in
    let within : i < length first = omega (arith, c.loop-at-test.true, c.loop-at.auto.at-end, c.loop-at.invariant.long) in
    let here : r ≡ get_or first i r = c.index.ensures ∙ ap (λ rs. get_or rs i r) c.loop-at.invariant.changed ∙ changed_at (after_use c.args.change.now) first i r within in
    (below_parts 18446744073709551615 r (rw here (below_at 18446744073709551615 first i r c.requires within))).0

pub after_use-requires-clause-holders : goal.after_use-requires-clause-holders
after_use-requires-clause-holders c =
    let first = c.args.running.now.items in
    let i = c.loop-at.at in
    let r = c.index.result.now in
    let within : i < length first = omega (arith, c.loop-at-test.true, c.loop-at.auto.at-end, c.loop-at.invariant.long) in
    let here : r ≡ get_or first i r = c.index.ensures ∙ ap (λ rs. get_or rs i r) c.loop-at.invariant.changed ∙ changed_at (after_use c.args.change.now) first i r within in
    (below_parts 18446744073709551615 r (rw here (below_at 18446744073709551615 first i r c.requires within))).1

pub loop-at-preserved : goal.loop-at-preserved
loop-at-preserved c =
    let first = c.args.running.now.items in
    let change = after_use c.args.change.now in
    let i = c.loop-at.at in
    let r = c.index.result.now in
    let within : i < length first = omega (arith, c.loop-at-test.true, c.loop-at.auto.at-end, c.loop-at.invariant.long) in
    let here : r ≡ get_or first i r = c.index.ensures ∙ ap (λ rs. get_or rs i r) c.loop-at.invariant.changed ∙ changed_at change first i r within in
    record {
      changed =
          ap (λ rs. set rs i c.after_use.result) c.loop-at.invariant.changed
          ∙ ap (λ x. set (map change (take i first) ++ drop i first) i x) (c.after_use.ensures ∙ ap change here)
          ∙ rw add-one (changed_set change first i r within);
      long = length-set c.loop-at.running.items i c.after_use.result ∙ c.loop-at.invariant.long;
    }
