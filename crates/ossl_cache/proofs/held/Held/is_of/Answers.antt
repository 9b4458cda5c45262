use Rattle.std.proofs.Common.{◌≡◌, ◌∙◌, ap, sym, arith, false, true≢false, nat_eq}
use Rattle.std.proofs.lemmas.Bool.{eq-eqb}
use Rattle.std.proofs.lemmas.Bool.Decides.{nat_tests}
use Rattle.ossl_cache.specs.Recent.{same_key}
use Rattle.ossl_cache.proofs.Marking.{other-marked}
use Rattle.ossl_cache.proofs.held.Held.is_of.Goals as goal

pub returns-else-self-mark : goal.returns-else-self-mark
returns-else-self-mark c =
    let other : nat_eq c.self.inside.mark c.args.mark ≡ false = grind (arith, nat_tests, c.if-self-mark.false) in
    other ∙ other-marked c.args.key.now c.self.inside.key (λ same. true≢false (sym (eq-eqb c.self.inside.mark c.args.mark (c.self.invariant ∙ sym same ∙ sym c.requires)) ∙ other)) ∙ ap (λ a. same_key c.args.key.now a.0) c.self.view_is
