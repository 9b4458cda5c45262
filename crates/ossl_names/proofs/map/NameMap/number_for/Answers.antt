use Rattle.std.proofs.Common.{◌≡◌, ◌+◌, ◌++◌, ◌∷◌, [], ℕ, List, Bor, true, Some, None, Option, Ok, length, get_or, take, drop, unwrap_or, sym, ap, ◌∙◌, append_assoc, rules, arith}
use Rattle.std.specs.List.{list_all}
use Rattle.std.proofs.lemmas.Iterator.{YieldsList-from_slice}
use Rattle.std.proofs.lemmas.Iterator.Search.{all_from_yields_List}
use Rattle.std.proofs.lemmas.List.{length-map, take_all, append-nil}
use Rattle.std.proofs.lemmas.List.Folds.{list_all-map}
use Rattle.ossl_names.specs.Name.{is_name}
use Rattle.ossl_names.specs.Groups.{number_of, known_numbers}
use Rattle.ossl_names.specs.Addition.{common_number}
use Rattle.ossl_names.proofs.Finds.{values}
use Rattle.ossl_names.proofs.Addition.{number_for-bad, number_for-good, first_of, known-more, known-whole, common-first, common-again, common-other, none_from_not}
use Rattle.ossl_names.proofs.map.NameMap.number_for.Goals as goal
use Rattle.ossl_names.proofs.map.NameMap.number_for.Goals.{in-Some+in-None, in-Some+in-Some-first+else-known-number, in_default}
use borrow.Author.Tests.{tests}

pub returns-then-not-all : goal.returns-then-not-all
returns-then-not-all c =
    let all = all_from_yields_List (λ (n : Bor (List ℕ)). is_name n.now) _ _ _ c.all.ensures.ran (YieldsList-from_slice c.args.names.now cc) (λ x b q k. search (rules, tests)) in
    sym (number_for-bad c.args.self.now (values c.args.names.now) (list_all-map is_name (λ n. n.now) c.args.names.now ∙ sym all ∙ c.if-not-all.true))

pub returns-then-known-number : goal.returns-then-known-number
returns-then-known-number c =
    let all = all_from_yields_List (λ (n : Bor (List ℕ)). is_name n.now) _ _ _ c.all.ensures.ran (YieldsList-from_slice c.args.names.now cc) (λ x b q k. search (rules, tests)) in
    let groups = c.args.self.now in
    let names = c.args.names.now in
    let i = c.loop-name.name-index in
    let new = length groups + 1 in
    let so_far = known_numbers groups (take i (values names)) in
    let known = c.in-Some-first.known in
    let number = c.in-Some.number in
    let rest = known_numbers groups (drop (i + 1) (values names)) in
    let more = known-more groups names i (record { ref_ptr = (0, 0); now = [] }) (Some number) c.loop-name-test.true (sym c.in-Some.ensures.number) in
    let whole : known_numbers groups (values names) ≡ so_far ++ number ∷ rest = known-whole groups (values names) (i + 1) ∙ ap (λ (ks : List ℕ). ks ++ rest) more ∙ append_assoc so_far (number ∷ []) rest in
    let good : list_all is_name (values names) ≡ true = list_all-map is_name (λ n. n.now) names ∙ sym all ∙ c.if-not-all.false in
    sym (number_for-good groups (values names) good ∙ ap (common_number new) whole
    ∙ common-other new so_far known number rest (sym c.in-Some-first.is ∙ c.loop-name.invariant.first) (c.loop-name.invariant.common ∙ ap (λ (o : Option ℕ). Ok (unwrap_or o new)) c.in-Some-first.is) c.if-known-number.true)

pub loop-name-preserved : goal.loop-name-preserved
loop-name-preserved c =
    let groups = c.args.self.now in
    let names = c.args.names.now in
    let i = c.loop-name.name-index in
    let new = length groups + 1 in
    let so_far = known_numbers groups (take i (values names)) in
    let d : Bor (List ℕ) = record { ref_ptr = (0, 0); now = [] } in
    elim c.match-number.branch [
      | in-Some+in-None w ↦
          let more = known-more groups names i d (Some w.in-Some.number) c.loop-name-test.true (sym w.in-Some.ensures.number) in
          let h = common-first new so_far w.in-Some.number (sym w.in-None.is ∙ c.loop-name.invariant.first) in
          record {
            first = w.first-is ∙ h.0 ∙ ap first_of (sym more);
            common = ap (common_number new) more ∙ h.1 ∙ sym (ap (λ (o : Option ℕ). Ok (unwrap_or o new)) w.first-is);
          }
      | in-Some+in-Some-first+else-known-number w ↦
          let more = known-more groups names i d (Some w.in-Some.number) c.loop-name-test.true (sym w.in-Some.ensures.number) in
          let first : c.match-number.first ≡ Some w.in-Some-first.known = w.first-is in
          let h = common-again new so_far w.in-Some-first.known w.in-Some.number (sym w.in-Some-first.is ∙ c.loop-name.invariant.first) (c.loop-name.invariant.common ∙ ap (λ (o : Option ℕ). Ok (unwrap_or o new)) w.in-Some-first.is) w.if-known-number.false in
          record {
            first = first ∙ h.0 ∙ ap first_of (sym more);
            common = ap (common_number new) more ∙ h.1 ∙ sym (ap (λ (o : Option ℕ). Ok (unwrap_or o new)) first);
          }
      | in_default w ↦
          let none : number_of groups (get_or names i d).now ≡ None = sym c.number.ensures.number ∙ none_from_not c.number.result w.in_default.not-Some in
          let more : known_numbers groups (take (i + 1) (values names)) ≡ so_far = known-more groups names i d None c.loop-name-test.true none ∙ append-nil so_far in
          record {
            first = w.first-is ∙ c.loop-name.invariant.first ∙ ap first_of (sym more);
            common = ap (common_number new) more ∙ c.loop-name.invariant.common ∙ sym (ap (λ (o : Option ℕ). Ok (unwrap_or o new)) w.first-is);
          }
    ]

pub returns : goal.returns
returns c =
    let all = all_from_yields_List (λ (n : Bor (List ℕ)). is_name n.now) _ _ _ c.all.ensures.ran (YieldsList-from_slice c.args.names.now cc) (λ x b q k. search (rules, tests)) in
    let groups = c.args.self.now in
    let names = c.args.names.now in
    let i = c.loop-name.name-index in
    let new = length groups + 1 in
    let good : list_all is_name (values names) ≡ true = list_all-map is_name (λ n. n.now) names ∙ sym all ∙ c.if-not-all.false in
    let whole : known_numbers groups (take i (values names)) ≡ known_numbers groups (values names) = ap (known_numbers groups) (take_all i (values names) (omega (arith, length-map names (λ (n : Bor (List ℕ)). n.now)))) in
    let count : length groups ≡ c.len.result = omega (arith, ap length c.self.view_is, length-map c.self.inside.groups.items (λ g. g.items)) in
    ap Ok (c.unwrap_or.ensures ∙ ap (λ (n : ℕ). unwrap_or c.loop-name.first (n + 1)) (sym count))
    ∙ sym (number_for-good groups (values names) good ∙ ap (common_number new) (sym whole) ∙ c.loop-name.invariant.common)
