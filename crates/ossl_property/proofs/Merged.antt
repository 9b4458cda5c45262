-- What a merge keeps, and names gone over one by one.
use Rattle.std.proofs.Common.{◌≡◌, ℕ, ◌+◌, ◌<◌, Bool, true, false, not, cond, ◌&&◌, ◌||◌, List, [], ◌∷◌, ◌++◌, length, get_or, take, refl, sym, ap, subst, ◌∙◌}
use Rattle.std.specs.Prelude.{filter}
use Rattle.std.specs.List.{AllByRecursion}
use Rattle.std.specs.Str.{bytes_eq}
use Rattle.std.proofs.lemmas.Bool.{and_parts, not-true}
use Rattle.std.proofs.lemmas.List.{take_more}
use Rattle.ossl_property.specs.declared.clause.Clause.{Clause}
use Rattle.ossl_property.specs.Choosing.{asks, merged, KeepsGiven}
use Rattle.ossl_property.specs.Grammar.{mentions}
use Rattle.ossl_property.proofs.Lists.{same_function}

added_new : (given clauses : List Clause) → AllByRecursion (λ clause. mentions given clause.name ≡ false) (filter (λ clause. asks clause && not (mentions given clause.name)) clauses)
added_new given [] = tt
added_new given (clause ∷ clauses) = cases (asks clause && not (mentions given clause.name)) refl (added_new given clauses)
  where
    cases : (t : Bool) → (asks clause && not (mentions given clause.name)) ≡ t → AllByRecursion (λ c. mentions given c.name ≡ false) (filter (λ c. asks c && not (mentions given c.name)) clauses) → AllByRecursion (λ c. mentions given c.name ≡ false) (cond t (clause ∷ filter (λ c. asks c && not (mentions given c.name)) clauses) (filter (λ c. asks c && not (mentions given c.name)) clauses))
    cases true h others = (not-true _ (and_parts (asks clause) (not (mentions given clause.name)) h).1, others)
    cases false h others = others

pub keeps_given : (given defaults : List Clause) → KeepsGiven given (merged given defaults)
keeps_given given defaults = (filter (λ clause. asks clause && not (mentions given clause.name)) defaults, added_new given defaults, refl)

-- what is the merge of equal lists keeps the same
pub keeps_merged : (given defaults s t result : List Clause) → s ≡ given → t ≡ defaults → result ≡ merged s t → KeepsGiven given result
keeps_merged given defaults s t result p q e =
    let same : merged given defaults ≡ result = ap (λ (g : List Clause). merged g defaults) (sym p) ∙ ap (merged s) (sym q) ∙ sym e in
    subst (KeepsGiven given) same (keeps_given given defaults)

or_nothing : (a b : Bool) → (a || (b || false)) ≡ (a || b)
or_nothing true b = refl
or_nothing false true = refl
or_nothing false false = refl

or_group : (a b c : Bool) → (a || (b || c)) ≡ ((a || b) || c)
or_group true b c = refl
or_group false b c = refl

mentions_one_more : (clauses : List Clause) (clause : Clause) (name : List ℕ) → mentions (clauses ++ clause ∷ []) name ≡ (mentions clauses name || bytes_eq clause.name name)
mentions_one_more [] clause name = or_nothing false (bytes_eq clause.name name)
mentions_one_more (first ∷ clauses) clause name = ap (λ b. bytes_eq first.name name || b) (mentions_one_more clauses clause name) ∙ or_group (bytes_eq first.name name) (mentions clauses name) (bytes_eq clause.name name)

-- the names of one clause more
pub names_more : (before after : List ℕ → Bool) (clauses : List Clause) (i : ℕ) (clause : Clause) → i < length clauses → clause ≡ get_or clauses i clause → before ≡ mentions (take i clauses) → ((name : List ℕ) → after name ≡ (before name || bytes_eq clause.name name)) → after ≡ mentions (take (i + 1) clauses)
names_more before after clauses i clause lt is names h = same_function after (mentions (take (i + 1) clauses)) (λ name.
    h name ∙ ap (λ (f : List ℕ → Bool). f name || bytes_eq clause.name name) names ∙ sym (mentions_one_more (take i clauses) clause name)
    ∙ ap (λ (c : Clause). mentions (take i clauses ++ c ∷ []) name) is ∙ ap (λ (cs : List Clause). mentions cs name) (sym (take_more clauses i clause lt)))
