use Rattle.std.proofs.Common.{◌≡◌, ◌+◌, ◌*◌, ◌%◌, ◌++◌, List, ℕ, subst, ◌∙◌, ap, sym, arith}
use Rattle.std.proofs.lemmas.Result.{on_ok_weaker}
use Rattle.ossl_op.specs.declared.context.OpCtx.{OpCtx}
use Rattle.ossl_op.specs.Running.{Runs}
use Rattle.ossl_op.specs.Work.{Appends, CarriesOn}
use Rattle.ossl_speed.specs.Contexts.{IsContextFed, context-nothing, context-joined}
use Rattle.ossl_speed.specs.Message.{message}
use Rattle.ossl_speed.specs.Values.{last}
use Rattle.ossl_speed.proofs.Ends.{kept_more}
use Rattle.ossl_speed.proofs.Pieces.{message-add}
use Rattle.ossl_speed.proofs.Texts.{on_ok}
use Rattle.ossl_speed.proofs.context.feed_message.Goals as goal

-- a piece, before which all but the last bytes were dropped
fed_piece : (a b : OpCtx) (old kept new x : List ℕ) → kept ≡ last 64 old → Appends kept new
    → CarriesOn (Runs a) (Runs b) x kept new → IsContextFed a old x b new
fed_piece a b old kept new x ek more runs = λ work was. (
  more.0,
  (
    runs work more.0 more.1 was.0,
    kept_more old kept new work.given more.0 ek more.1 was.1,
  ),
)

pub loop-i-init : goal.loop-i-init
unfolding message
loop-i-init c = context-nothing c.args.context.now c.args.out.now.items

pub loop-i-preserved : goal.loop-i-preserved
loop-i-preserved c =
    let i = c.loop-i._i in
    let next : 16384 * i + 16384 ≡ 16384 * (i + 1) = omega arith in
    let grown : message (16384 * i) ++ c.args.piece.now ≡ message (16384 * (i + 1)) =
    ap (λ p. message (16384 * i) ++ p) c.requires ∙ sym (message-add (16384 * i) 16384 (omega arith)) ∙ ap message next in
    let piece = fed_piece c.loop-i.context c.feed.new.self c.loop-i.out.items c.keep_last.new.out.items c.feed.new.out.items
    c.args.piece.now c.keep_last.ensures c.feed.ensures.appends c.in_ok-feed.ensures.runs in
    subst (λ (m : List ℕ). IsContextFed c.args.context.now c.args.out.now.items m c.feed.new.self c.feed.new.out.items) grown
    (context-joined c.args.context.now c.loop-i.context c.feed.new.self c.args.out.now.items c.loop-i.out.items c.feed.new.out.items
    (message (16384 * i)) c.args.piece.now c.loop-i.invariant piece)

pub returns : goal.returns
returns c =
    let i = c.loop-i._i in
    let left = c.args.length % 16384 in
    let all : 16384 * i + left ≡ c.args.length = omega arith in
    let whole : message (16384 * i) ++ c.front.result.now ≡ message c.args.length =
    ap (λ p. message (16384 * i) ++ p) c.front.ensures.value ∙ sym (message-add (16384 * i) left (omega arith)) ∙ ap message all in
    on_ok c.feed-2.result
    (λ runs. subst (λ (m : List ℕ). IsContextFed c.args.context.now c.args.out.now.items m c.feed-2.new.self c.feed-2.new.out.items) whole
    (context-joined c.args.context.now c.loop-i.context c.feed-2.new.self c.args.out.now.items c.loop-i.out.items c.feed-2.new.out.items
    (message (16384 * i)) c.front.result.now c.loop-i.invariant
    (fed_piece c.loop-i.context c.feed-2.new.self c.loop-i.out.items c.keep_last-2.new.out.items c.feed-2.new.out.items
    c.front.result.now c.keep_last-2.ensures c.feed-2.ensures.appends runs)))
    c.feed-2.ensures.runs
