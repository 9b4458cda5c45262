use Rattle.std.proofs.Common.{List, ℕ, ap, subst, sym}
use Rattle.ossl_op.specs.Work.{Work, begun}
use Rattle.ossl_speed.specs.Contexts.{IsEndOf}
use Rattle.ossl_speed.specs.Message.{message}
use Rattle.ossl_speed.specs.Values.{last}
use Rattle.ossl_speed.proofs.Ends.{end_of_context}
use Rattle.ossl_speed.proofs.context.end_in_context.Goals as goal

pub returns : goal.returns
returns c =
    let work : Work = begun c.args.code c.args.inner c.args.params.now in
    let m = message c.args.length in
    let fed = c.in_ok-feed_message.ensures work (c.in-Ok.ensures.begun, ap (last 64) c.in_ok-out.ensures.items) in
    subst (λ (end : List ℕ). IsEndOf c.args.code c.args.inner c.args.params.now m end) (sym c.keep_last.ensures)
    (end_of_context c.feed_message.new.context c.feed_message.new.out.items c.finish.new.out.items
    c.args.code c.args.inner c.args.params.now m fed c.finish.ensures.appends c.in-Ok-finish.ensures.accepted)
