use Rattle.std.proofs.Common.{[]}
use Rattle.ossl_speed.proofs.value.digest_of.Goals as goal

pub returns : goal.returns
returns c = c.finish.ensures.digest c.args.hash _ (c.in_ok-take_message.ensures c.args.hash [] c.new-digester.ensures)
