use Rattle.std.proofs.Common.{List, [], ◌∷◌, ◌++◌, sym, ap, ◌∙◌, subst}
use Rattle.std.specs.Prelude.{if◌then◌else◌}
use Rattle.std.proofs.lemmas.List.Sorted.{IsNonDecreasingBy-take}
use Rattle.ossl_script.specs.declared.tokens.Place.{Place}
use Rattle.ossl_script.specs.Places.{Ascends, held_in}
use Rattle.ossl_script.proofs.TokenLaws.{last_out}
use Rattle.ossl_script.proofs.tokens.drop_empty.Goals as goal

pub loop-place-preserved : goal.loop-place-preserved
loop-place-preserved c =
    let place = c.in-Some.place in
    let left = c.pop.new.self.items in
    record {
      same = sym (ap held_in c.in-Some.ensures.items ∙ last_out left place
          ∙ ap (λ kept. (if kept then place.token ∷ [] else []) ++ held_in left) c.if-place.false) ∙ c.loop-place.invariant.same;
      ascends = subst (λ (ys : List Place). Ascends ys) (sym c.in-Some.ensures.rest)
          (IsNonDecreasingBy-take (λ (p : Place). p.token.number) _ c.loop-place.places.items c.loop-place.invariant.ascends);
    }
