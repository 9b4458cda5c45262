use Rattle.std.proofs.Common.{◌∙◌, ap, sym, subst, length, Option, None}
use Rattle.std.proofs.lemmas.List.{length-replicate}
use Rattle.ossl_cache.specs.Recent.{most, Answer}
use Rattle.ossl_cache.specs.Places.{shown, AreApart}
use Rattle.ossl_cache.proofs.Making.{shown-free}
use Rattle.ossl_cache.proofs.Holding.{apart-free}
use Rattle.ossl_cache.proofs.cache.QueryCache.new.Goals as goal

abbrev none : Option Answer
none = None

pub returns : goal.returns
returns c =
    let es = c.in_ok-all_places.field-0.entries in
    record { empty = ap (λ s. shown s es) c.in_ok-empty_slots.ensures ∙ shown-free most es }

pub invariant_of-result : goal.invariant_of-result
invariant_of-result c =
    let slots = c.in_ok-empty_slots.ensures in
    record {
      room = ap length slots ∙ length-replicate most none;
      all = c.in_ok-all_places.ensures.0;
      once = c.in_ok-all_places.ensures.1;
      apart = subst AreApart (sym slots) (apart-free most);
    }
