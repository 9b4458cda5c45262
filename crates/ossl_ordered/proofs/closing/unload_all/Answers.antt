use Rattle.std.proofs.Common.{◌≡◌, ◌++◌, ◌∷◌, [], List, ℕ, subst, ◌∙◌}
use Rattle.ossl_state.specs.declared.call.Call.TheVariants.{Unload}
use Rattle.ossl_ordered.specs.Owned.{OwnsAll}
use Rattle.ossl_ordered.proofs.ProgramLaws.{adds_join, adds_one, unload_more, unloads_more}
use Rattle.ossl_ordered.proofs.closing.unload_all.Goals as goal

pub loop-token-preserved : goal.loop-token-preserved
loop-token-preserved g c =
    let start = g.C.Program.entries c.args.program.now in
    let before = g.C.Program.entries c.loop-token.program in
    let after = g.C.Program.entries c.call.new.self in
    let t = c.in-Some.token in
    let tokens = c.pop.new.self.items in
    let reply = c.in-Ok.field-0 in
    let made = c.loop-token.invariant.made in
    let is : c.loop-token.tokens.items ≡ tokens ++ t ∷ [] = c.in-Some.ensures.items in
    record {
      made = (
        made.0 ++ Unload t ∷ [],
        adds_join made.0 (Unload t ∷ []) start before after made.1 (adds_one (Unload t) reply before after c.in-Ok.ensures.entry),
        unloads_more c.args.tokens.items tokens c.loop-token.tokens.items t made.0 is made.2,
      );
      owned = rw (c.in-Ok.ensures.entry) (unload_more before tokens t (subst (λ (l : List ℕ). OwnsAll l before) is c.loop-token.invariant.owned) reply);
      legal = c.call.ensures.legal;
      fixed = c.call.ensures.fixed ∙ c.loop-token.invariant.fixed;
    }
