use Rattle.std.proofs.Common.{◌≡◌, ◌+◌, ◌-◌, ◌≤◌, ℕ, List, [], ◌++◌, take, ap, ◌∙◌, arith}
use Rattle.std.specs.Prelude.{replicate}
use Rattle.std.proofs.lemmas.List.{replicate-append-replicate, take-replicate}
use Rattle.ossl_script.proofs.FeedingLaws.{fed_as, fed_nothing, fed_once, fed_twice}
use Rattle.ossl_script.proofs.feeding.feed_copies.Goals as goal

pub loop-left-init : goal.loop-left-init
loop-left-init c =
    let none : 0 ≡ c.args.count - c.args.count = omega arith in
    record {
      few = omega arith;
      fed = fed_as _ _ [] _ _ _ (ap (λ n. replicate n c.args.byte) none) (fed_nothing c.args.context.now c.args.given.now.items);
    }

pub loop-left-preserved : goal.loop-left-preserved
loop-left-preserved c =
    let count = c.args.count in
    let size = c.min-size.result in
    let small : size ≤ 512 = search (arith, c.min-size.ensures) in
    let within : size ≤ c.loop-left.left = search (arith, c.min-size.ensures) in
    let piece : take size (replicate 512 c.args.byte) ≡ replicate size c.args.byte = take-replicate size 512 c.args.byte small in
    let sum : (count - c.loop-left.left) + size ≡ count - (c.loop-left.left - size) = omega (arith, within, c.loop-left.invariant.few) in
    record {
      few = omega (arith, c.loop-left.invariant.few);
      fed = fed_as _ _ _ _ _ _
          (ap (λ (bytes : List ℕ). replicate (count - c.loop-left.left) c.args.byte ++ bytes) piece
          ∙ replicate-append-replicate (count - c.loop-left.left) size c.args.byte
          ∙ ap (λ n. replicate n c.args.byte) sum)
          (fed_twice _ _ _ _ _ _ _ _ c.loop-left.invariant.fed
          (fed_once c.loop-left.context c.feed.new.self _ c.loop-left.given.items c.feed.new.out.items c.feed.ensures.appends c.in_ok-feed.ensures.runs));
    }
