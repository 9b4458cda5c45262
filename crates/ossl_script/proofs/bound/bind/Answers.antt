use Rattle.std.proofs.Common.{List, ℕ, Some, subst}
use Rattle.ossl_script.specs.Names.{Rebinds}
use Rattle.ossl_script.proofs.NameLaws.{rebinds}
use Rattle.ossl_script.proofs.bound.bind.Goals as goal

pub returns : goal.returns
returns c =
    subst (λ (name : List ℕ). Rebinds c.args.names.now c.insert.new.self name (Some c.args.bound)) c.in_ok-key.ensures.items
    (rebinds c.in_ok-key.key.items c.args.names.now c.insert.new.self (Some c.args.bound) c.in_ok-insert.ensures.updates)
