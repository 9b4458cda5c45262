use Rattle.std.proofs.Common.{map, sym, ◌∙◌}
use Rattle.ossl_calls.specs.Registry.{state_of}
use Rattle.ossl_calls.proofs.FetchLaws.{context-keeps}
use Rattle.ossl_calls.proofs.plain.PlainRegistry.new_ctx.Goals as goal

pub put-requires-clause-keeps : goal.put-requires-clause-keeps
put-requires-clause-keeps g c =
    let r = c.args.self.now in
    let made = c.in-Some.made in
    context-keeps (map g.P.Provider.facts r.boxes) (state_of g.P.Provider.facts r) c.args.caller c.args.handle c.args.inner c.args.key_len made.number made
    (sym c.in_ok-made.ensures ∙ c.in-Some.is)
