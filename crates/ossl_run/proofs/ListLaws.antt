-- Lists that grow at their end.
use Rattle.std.proofs.Common.{◌≡◌, ℕ, ◌+◌, [], ◌∷◌, ◌++◌, subst, arith}
use Rattle.std.specs.List.{range_with_len}
use Rattle.ossl_ordered.proofs.ProgramLaws.{range_more}

-- one more caller
pub own_more : (n : ℕ) → range_with_len 1 (n + 1) ≡ range_with_len 1 n ++ (n + 1) ∷ []
own_more n =
    let e : 1 + n ≡ n + 1 = omega arith in
    subst (λ m. range_with_len 1 (n + 1) ≡ range_with_len 1 n ++ m ∷ []) e (range_more 1 n)
