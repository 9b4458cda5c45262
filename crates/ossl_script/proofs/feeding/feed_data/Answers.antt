use Rattle.std.proofs.Common.{◌≡◌, [], sym, ap, ◌∙◌, arith}
use Rattle.ossl_script.specs.Given.{content_by, data_bytes}
use Rattle.ossl_script.proofs.FeedingLaws.{fed_as, fed_nothing}
use Rattle.ossl_script.proofs.feeding.feed_data.Goals as goal

pub returns-in-None : goal.returns-in-None
returns-in-None c =
    let none : [] ≡ data_bytes (content_by c.args.contents.now) c.args.piece.now =
    c.in-None.ensures.lookup.4 (omega arith) [] ∙ sym (ap (data_bytes (content_by c.args.contents.now)) c.in-File.is) in
    fed_as _ _ [] _ _ _ none (fed_nothing c.args.context.now c.args.given.now.items)
