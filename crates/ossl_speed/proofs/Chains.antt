-- One time more.
use Rattle.std.proofs.Common.{◌≡◌, ℕ, ◌+◌, List, add-one, refl}
use Rattle.ossl_speed.specs.Aes.{repeated}

pub repeated_more : (f : List ℕ → List ℕ) (n : ℕ) (block : List ℕ) → repeated f (n + 1) block ≡ f (repeated f n block)
unfolding repeated
repeated_more f n block = rw add-one refl
