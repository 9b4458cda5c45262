-- Tests of bytes below 128, compared by a table.
use Rattle.std.proofs.Common.{◌≡◌, ℕ, ◌<◌, ◌≤◌, leb, Bool, true, not, ◌||◌, sym, ap, ◌∙◌, arith}
use Rattle.std.specs.Int.{is_in_range}
use Rattle.std.proofs.lemmas.Bool.{agree_below, agree_below_at, leb-true, and_parts}

pub range_small : (low high byte : ℕ) → high < 128 → is_in_range low high byte ≡ true → byte < 128
range_small low high byte h e =
    let top : byte ≤ high = leb-true byte high (and_parts (leb low byte) (leb byte high) e).1 in
    omega arith

-- one test implies another
pub implied : (p q : ℕ → Bool) (byte : ℕ) → agree_below (λ b. not (p b) || q b) (λ b. true) 128 ≡ true → byte < 128 → p byte ≡ true → q byte ≡ true
implied p q byte table lt h = sym (ap (λ t. not t || q byte) h) ∙ agree_below_at (λ b. not (p b) || q b) (λ b. true) 128 byte table lt
