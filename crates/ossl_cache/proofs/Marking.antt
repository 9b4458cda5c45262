-- What follows where keys are the same: equal marks, and that each is the same as what the other is.
use Rattle.std.proofs.Common.{◌≡◌, ◌≢◌, ◌∙◌, refl, sym, ap₂, Bool, true, false, nat_eq}
use Rattle.std.proofs.lemmas.Bool.{and_parts, eqb-true, eq-eqb}
use Rattle.ossl_codes.specs.contracts.code.OperationPartialEq.TheImpl
use Rattle.ossl_codes.specs.contracts.code.OperationPartialEq.TheImpl.Laws.{laws-law}
use Rattle.ossl_property.specs.Same.{same_query}
use Rattle.ossl_property.proofs.Equality.{query_Decides}
use Rattle.ossl_cache.specs.declared.key.Key.{Key}
use Rattle.ossl_cache.specs.Recent.{asks_for, same_key}
use Rattle.ossl_cache.specs.Marks.{mark, mark_of}

record Parts (a b : Key) : Type 0 where
  pub ops : TheImpl.ghosts.eq a.op b.op ≡ true
  pub numbers : a.number ≡ b.number
  pub queries : a.query ≡ b.query

parts_of : (a b : Key) → same_key a b ≡ true → Parts a b
parts_of a b e =
    let outer = and_parts (asks_for b.op b.number a) (same_query a.query b.query) e in
    let inner = and_parts (TheImpl.ghosts.eq a.op b.op) (nat_eq a.number b.number) outer.0 in
    record {
      ops = inner.0;
      numbers = eqb-true a.number b.number inner.1;
      queries = (query_Decides a.query b.query (same_query a.query b.query) refl).0 outer.1;
    }

-- two keys that are each the same as a third are the same
pub same_both : (key a b : Key) → same_key key a ≡ true → same_key key b ≡ true → same_key a b ≡ true
same_both key a b e f =
    let p = parts_of key a e in
    let q = parts_of key b f in
    let ops : TheImpl.ghosts.eq a.op b.op ≡ true = laws-law.trans a.op key.op b.op (laws-law.symm a.op key.op ∙ p.ops) q.ops in
    let numbers : nat_eq a.number b.number ≡ true = eq-eqb a.number b.number (sym p.numbers ∙ q.numbers) in
    let queries : same_query a.query b.query ≡ true = (query_Decides a.query b.query (same_query a.query b.query) refl).1 (sym p.queries ∙ q.queries) in
    rw (ops, numbers, queries) refl

same-marked : (a b : Key) → same_key a b ≡ true → mark_of a ≡ mark_of b
same-marked a b e = let p = parts_of a b e in ap₂ mark p.numbers p.queries

-- keys whose marks differ are not the same
pub other-marked : (a b : Key) → mark_of a ≢ mark_of b → false ≡ same_key a b
other-marked a b differ = go (same_key a b) refl
  where
    go : (r : Bool) → same_key a b ≡ r → false ≡ r
    go true e = absurd (differ (same-marked a b e))
    go false e = refl
