use Rattle.std.proofs.Common.{◌≡◌, false, ℕ, ◌+◌, ◌-◌, ◌<◌, ◌≤◌, List, ◌++◌, length, get_or, take, drop, map, leb, leb-true, sym, ap, ◌∙◌, subst, arith, rules}
use Rattle.std.proofs.lemmas.Bool.{leb-false}
use Rattle.std.proofs.lemmas.List.{get_or-drop, length-drop, take-append-drop}
use Rattle.std.proofs.lemmas.List.Sorted.{IsPartitionPoint-from_clause, IsPartitionedBy-leb}
use Rattle.ossl_script.specs.declared.tokens.Place.{Place}
use Rattle.ossl_script.specs.Places.{Ascends, held_in}
use denote.Enum.Bare.{same_true}
use Rattle.std.specs.Prelude.{slice_set}
use Rattle.ossl_script.specs.contracts.held.TokenKind.{the_type}
use Rattle.ossl_script.specs.declared.held.Held.{Held}
use Rattle.ossl_script.proofs.TokenLaws.{all_gone, ascends_without, emptied, gone_more, held_same, held_without, place_at, stay_apart, without}
use Rattle.ossl_script.proofs.tokens.empty_places.Goals as goal

pub loop-place-init : goal.loop-place-init
loop-place-init c =
    let xs = c.args.places.now.items in
    let slice = c.as_slice.result.now in
    let number = c.args.token.number in
    let i = c.partition_point-place.result in
    let parted = IsPartitionedBy-leb (λ (p : Place). p.token.number) slice number (subst (λ (ys : List Place). Ascends ys) (sym c.as_slice.ensures.value) c.requires.ascends) in
    let point = IsPartitionPoint-from_clause (λ (p : Place). leb p.token.number number) _ _ c.partition_point-place.ensures.partitioned parted (λ a r q k. search rules) in
    let within : i ≤ length xs = subst (λ (ys : List Place). i ≤ length ys) c.as_slice.ensures.value c.partition_point-place.ensures.bound in
    record {
      within = within;
      below = λ k d h. subst (λ (ys : List Place). (get_or ys k d).token.number ≤ number) c.as_slice.ensures.value (leb-true _ _ (point.0 k d (omega arith) h));
      so_far = sym (take-append-drop i xs)
          ∙ ap (λ (ys : List Place). take i xs ++ ys) (sym (stay_apart c.args.token (drop i xs) (λ k d l e.
          let inside : i + k < length xs = omega (arith, l, length-drop i xs) in
          let above : number < (get_or xs (i + k) d).token.number =
          subst (λ (ys : List Place). number < (get_or ys (i + k) d).token.number) c.as_slice.ensures.value
          (leb-false _ _ (point.1 (i + k) d (omega arith) (subst (λ (ys : List Place). i + k < length ys) (sym c.as_slice.ensures.value) inside))) in
          let e2 : number ≡ (get_or xs (i + k) d).token.number = e ∙ ap (λ (place : Place). place.token.number) (get_or-drop i xs k d) in
          omega (arith, above, e2))));
    }

pub loop-place-preserved-then-eq : goal.loop-place-preserved-then-eq
loop-place-preserved-then-eq c =
    let xs = c.args.places.now.items in
    let now = c.loop-place.places.items in
    let token = c.args.token in
    let p = c.loop-place.place in
    let q : ℕ = p - 1 in
    let next : p ≡ q + 1 = omega (arith, c.loop-place-test.true) in
    let within = c.loop-place.invariant.within in
    let so_far = c.loop-place.invariant.so_far in
    let m = c.index_mut.result.now in
    let m_is = place_at token xs now p q m next within so_far m c.index_mut.ensures.value in
    let one_is = place_at token xs now p q m next within so_far c.index.result.now c.index.ensures in
    let two_is = place_at token xs now p q m next within so_far c.index-in-loop-place.result.now c.index-in-loop-place.ensures in
    let same : (get_or xs q m).token ≡ token =
    held_same (get_or xs q m).token token
    (ap (λ (place : Place). place.token.number) (sym one_is) ∙ c.if-index-number.true)
    (ap (λ (place : Place). place.token.kind) (sym two_is) ∙ same_true the_type (search rules) _ _ (sym c.if-eq.ensures)) in
    record {
      within = omega (arith, within);
      below = λ k d h. c.loop-place.invariant.below k d (omega (arith, h));
      so_far = ap (λ (t : Held). slice_set now q (record { token = t; kept = false })) (ap (λ (place : Place). place.token) m_is)
          ∙ ap (λ (y : Place). slice_set now q y) (sym (emptied token (get_or xs q m) same))
          ∙ gone_more token xs q m now (omega (arith, within, next))
          (subst (λ (n : ℕ). now ≡ take n xs ++ map (without token) (drop n xs)) next so_far);
    }

pub returns-after-loop-place-clause-held : goal.returns-after-loop-place-clause-held
returns-after-loop-place-clause-held c = λ reply.
    let gone = all_gone c.args.token c.args.places.now.items c.loop-place.places.items c.loop-place.place
    (λ k d h. omega (arith, h, c.loop-place-test.false)) c.loop-place.invariant.within c.loop-place.invariant.so_far in
    ap held_in gone ∙ held_without c.args.token reply c.args.places.now.items

pub returns-after-loop-place-clause-ascends : goal.returns-after-loop-place-clause-ascends
returns-after-loop-place-clause-ascends c =
    let gone = all_gone c.args.token c.args.places.now.items c.loop-place.places.items c.loop-place.place
    (λ k d h. omega (arith, h, c.loop-place-test.false)) c.loop-place.invariant.within c.loop-place.invariant.so_far in
    subst (λ (ys : List Place). Ascends ys) (sym gone) (ascends_without c.args.token c.args.places.now.items c.requires.ascends)

-- where another number stands below, those below it are less
pub returns-else-index-number-clause-held : goal.returns-else-index-number-clause-held
returns-else-index-number-clause-held c = λ reply.
    let xs = c.args.places.now.items in
    let now = c.loop-place.places.items in
    let token = c.args.token in
    let p = c.loop-place.place in
    let q : ℕ = p - 1 in
    let next : p ≡ q + 1 = omega (arith, c.loop-place-test.true) in
    let within = c.loop-place.invariant.within in
    let gone = all_gone token xs now p
    (λ k d h.
    let is = place_at token xs now p q d next within c.loop-place.invariant.so_far c.index.result.now c.index.ensures in
    let number = ap (λ (place : Place). place.token.number) is in
    let most = c.loop-place.invariant.below q d (omega (arith, next)) in
    let less = c.requires.ascends k q d (omega (arith, h, next)) (omega (arith, within, next)) in
    let apart : (get_or xs q d).token.number ≡ token.number → ⊥ = λ e. c.if-index-number.false (number ∙ e) in
    omega (arith, most, less, apart))
    within c.loop-place.invariant.so_far in
    ap held_in gone ∙ held_without token reply xs

pub returns-else-index-number-clause-ascends : goal.returns-else-index-number-clause-ascends
returns-else-index-number-clause-ascends c =
    let xs = c.args.places.now.items in
    let now = c.loop-place.places.items in
    let token = c.args.token in
    let p = c.loop-place.place in
    let q : ℕ = p - 1 in
    let next : p ≡ q + 1 = omega (arith, c.loop-place-test.true) in
    let within = c.loop-place.invariant.within in
    let gone = all_gone token xs now p
    (λ k d h.
    let is = place_at token xs now p q d next within c.loop-place.invariant.so_far c.index.result.now c.index.ensures in
    let number = ap (λ (place : Place). place.token.number) is in
    let most = c.loop-place.invariant.below q d (omega (arith, next)) in
    let less = c.requires.ascends k q d (omega (arith, h, next)) (omega (arith, within, next)) in
    let apart : (get_or xs q d).token.number ≡ token.number → ⊥ = λ e. c.if-index-number.false (number ∙ e) in
    omega (arith, most, less, apart))
    within c.loop-place.invariant.so_far in
    subst (λ (ys : List Place). Ascends ys) (sym gone) (ascends_without token xs c.requires.ascends)
