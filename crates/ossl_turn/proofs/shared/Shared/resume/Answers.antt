use Rattle.std.proofs.Common.{◌≡◌, [], ◌∷◌, ◌++◌, ap, ◌∙◌}
use Rattle.ossl_turn.proofs.Keeps.{opens}
use Rattle.ossl_turn.proofs.shared.Shared.resume.Goals as goal

pub new-requires : goal.new-requires
new-requires g c = let e : c.push.new.self.items ≡ c.args.object ∷ [] = c.in_default.ensures.items ∙ ap (λ l. l ++ c.args.object ∷ []) c.new-slots.ensures.items in
    rw (e, c.of-origin.ensures) (opens _ _ _ c.args.object c.requires.lawful c.requires.own)
