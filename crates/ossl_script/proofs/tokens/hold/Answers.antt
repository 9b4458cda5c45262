use Rattle.std.proofs.Common.{true, ◌<◌, ◌≤◌, List, length, get_or, leb, leb-true, sym, ap, ◌∙◌, subst, arith, rules}
use Rattle.std.proofs.lemmas.Bool.{leb-false}
use Rattle.std.proofs.lemmas.List.Sorted.{IsNonDecreasingBy-insert, IsPartitionPoint-from_clause, IsPartitionedBy-leb}
use Rattle.ossl_script.specs.declared.tokens.Place.{Place}
use Rattle.ossl_script.specs.Places.{Ascends, held_in}
use Rattle.ossl_script.proofs.TokenLaws.{held_with}
use Rattle.ossl_script.proofs.tokens.hold.Goals as goal

pub returns-clause-ascends : goal.returns-clause-ascends
returns-clause-ascends c =
    let xs = c.args.places.now.items in
    let slice = c.as_slice.result.now in
    let number = c.args.token.number in
    let i = c.partition_point-behind.result in
    let parted = IsPartitionedBy-leb (λ (p : Place). p.token.number) slice number (subst (λ (ys : List Place). Ascends ys) (sym c.as_slice.ensures.value) c.requires.ascends) in
    let point = IsPartitionPoint-from_clause (λ (p : Place). leb p.token.number number) _ _ c.partition_point-behind.ensures.partitioned parted (λ a r q k. search rules) in
    let within : i ≤ length xs = subst (λ (ys : List Place). i ≤ length ys) c.as_slice.ensures.value c.partition_point-behind.ensures.bound in
    subst (λ (ys : List Place). Ascends ys) (sym c.in-Ok.ensures.items)
    (IsNonDecreasingBy-insert (λ (p : Place). p.token.number) xs i (record { token = c.args.token; kept = true }) c.requires.ascends within
    (λ k d h. subst (λ (ys : List Place). (get_or ys k d).token.number ≤ number) c.as_slice.ensures.value (leb-true _ _ (point.0 k d (omega arith) h)))
    (λ k d h l. let above : number < (get_or xs k d).token.number =
    subst (λ (ys : List Place). number < (get_or ys k d).token.number) c.as_slice.ensures.value
    (leb-false _ _ (point.1 k d h (subst (λ (ys : List Place). k < length ys) (sym c.as_slice.ensures.value) l))) in omega (arith, above)))

pub returns-clause-held : goal.returns-clause-held
returns-clause-held c =
    let xs = c.args.places.now.items in
    let slice = c.as_slice.result.now in
    let number = c.args.token.number in
    let i = c.partition_point-behind.result in
    let parted = IsPartitionedBy-leb (λ (p : Place). p.token.number) slice number (subst (λ (ys : List Place). Ascends ys) (sym c.as_slice.ensures.value) c.requires.ascends) in
    let point = IsPartitionPoint-from_clause (λ (p : Place). leb p.token.number number) _ _ c.partition_point-behind.ensures.partitioned parted (λ a r q k. search rules) in
    let within : i ≤ length xs = subst (λ (ys : List Place). i ≤ length ys) c.as_slice.ensures.value c.partition_point-behind.ensures.bound in
    ap held_in c.in-Ok.ensures.items
    ∙ held_with c.args.token xs i within
    (λ k d h. subst (λ (ys : List Place). (get_or ys k d).token.number ≤ number) c.as_slice.ensures.value (leb-true _ _ (point.0 k d (omega arith) h)))
    (λ k d h l. subst (λ (ys : List Place). number < (get_or ys k d).token.number) c.as_slice.ensures.value
    (leb-false _ _ (point.1 k d h (subst (λ (ys : List Place). k < length ys) (sym c.as_slice.ensures.value) l))))
