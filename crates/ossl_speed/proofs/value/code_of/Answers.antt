use Rattle.std.proofs.Common.{[], List, ℕ, ap, ◌∙◌}
use Rattle.ossl_hmac.specs.Hmac.{hmac}
use Rattle.ossl_speed.specs.Message.{message}
use Rattle.ossl_speed.proofs.value.code_of.Goals as goal

pub returns : goal.returns
returns c =
    c.finish.ensures.code c.args.hash _ _ (c.in_ok-take_message.ensures c.args.hash _ [] c.new-mac.ensures)
    ∙ ap (λ (key : List ℕ). hmac c.args.hash key (message c.args.length)) c.front.ensures.value
