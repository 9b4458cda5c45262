use Rattle.std.proofs.Common.{◌≡◌, ℕ, List, ◌∷◌, [], ◌++◌, length, nat_eq, false, arith, ap, ◌∙◌}
use Rattle.std.proofs.lemmas.Bool.Decides.{nat_tests}
use Rattle.ossl_gcm.proofs.Tags.{first_short, first_long}
use Rattle.ossl_gcm.proofs.stream.first_counter.Goals as goal

pub returns-then-iv-eq12 : goal.returns-then-iv-eq12
returns-then-iv-eq12 c =
    ap (λ (x : List ℕ). x ++ 0 ∷ 0 ∷ 0 ∷ 1 ∷ []) c.copy_from_slice.ensures.after ∙ first_short c.args.key.now c.args.iv.now (omega arith)

pub returns-else-iv-eq12 : goal.returns-else-iv-eq12
returns-else-iv-eq12 c =
    let other : nat_eq (length c.args.iv.now) 12 ≡ false = grind (arith, nat_tests, c.if-iv-eq12.false) in
    first_long c.args.key.now c.args.iv.now _ _ _ other (omega arith) c.hash_text-hash.ensures c.product.ensures c.number_block.ensures
