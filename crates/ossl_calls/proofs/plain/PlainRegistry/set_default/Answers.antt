use Rattle.std.proofs.Common.{◌≡◌, ◌<◌, length, map, sym, ◌∙◌, arith}
use Rattle.std.proofs.lemmas.Bool.{ltb-true}
use Rattle.ossl_calls.specs.Registry.{state_of}
use Rattle.ossl_calls.proofs.FetchLaws.{default-keeps}
use Rattle.ossl_calls.proofs.plain.PlainRegistry.set_default.Goals as goal

pub put-requires-clause-there : goal.put-requires-clause-there
put-requires-clause-there g c =
    let r = c.args.self.now in
    let within = ltb-true c.args.lib r.contexts c.requires.allowed.lib in
    omega (arith, within, c.is_open.ensures.sound.instances.contexts)

pub put-requires-clause-keeps : goal.put-requires-clause-keeps
put-requires-clause-keeps g c =
    let r = c.args.self.now in
    let s = state_of g.P.Provider.facts r in
    let within = ltb-true c.args.lib r.contexts c.requires.allowed.lib in
    let here : c.args.lib < length s.libs = omega (arith, within, c.is_open.ensures.sound.instances.contexts) in
    rw (c.in_ok-copy.ensures, c.in_ok-query.ensures) (default-keeps (map g.P.Provider.facts r.boxes) s c.args.caller c.args.lib c.args.query.now here)
