use Rattle.std.proofs.Common.{None}
use Rattle.ossl_script.proofs.NameLaws.{rebinds}
use Rattle.ossl_script.proofs.bound.unbind.Goals as goal

pub returns-clause-free : goal.returns-clause-free
returns-clause-free c = rebinds c.args.name.now c.args.names.now c.remove.new.self None c.remove.ensures.updates
