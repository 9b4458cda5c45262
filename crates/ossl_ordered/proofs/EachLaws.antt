-- What holds of each item of a list at its place, and of one that is appended.
use Rattle.std.proofs.Common.{ℕ, ◌<◌, zero, suc, List, [], ◌∷◌, ◌++◌, length, arith}
use Rattle.std.specs.Prelude.{slice_index_or}

pub each_more : {X : Type 0} (P : ℕ → X → Type 0) (xs : List X) (x : X) → ((k : ℕ) (other : X) → k < length xs → P k (slice_index_or xs k other)) → P (length xs) x
    → (k : ℕ) (other : X) → k < length (xs ++ x ∷ []) → P k (slice_index_or (xs ++ x ∷ []) k other)
each_more P [] x each last zero other within = last
each_more P [] x each last (suc k) other within = absurd (omega (arith, within))
each_more P (y ∷ ys) x each last zero other within = each zero other (omega arith)
each_more P (y ∷ ys) x each last (suc k) other within =
    each_more (λ n z. P (suc n) z) ys x (λ n o below. each (suc n) o (omega (arith, below))) last k other (omega (arith, within))
