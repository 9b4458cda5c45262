-- A number of 128 bits in four words.
use Rattle.std.proofs.Common.{◌≡◌, ℕ, ◌/◌, ◌%◌, ◌^◌, ◌++◌, ◌∷◌, [], arith}
use Rattle.std.specs.Int.{w32, w128, to_be_bytes}

pub quarters : (n : ℕ) → to_be_bytes w128 n
    ≡ to_be_bytes w32 (n / 2 ^ 64 / 2 ^ 32) ++ to_be_bytes w32 (n / 2 ^ 64 % 2 ^ 32)
    ++ to_be_bytes w32 (n % 2 ^ 64 / 2 ^ 32) ++ to_be_bytes w32 (n % 2 ^ 64 % 2 ^ 32)
quarters n =
    let e15 : n / 2 ^ 120 % 2 ^ 8 ≡ n / 2 ^ 64 / 2 ^ 32 / 2 ^ 24 % 2 ^ 8 = omega arith in
    let e14 : n / 2 ^ 112 % 2 ^ 8 ≡ n / 2 ^ 64 / 2 ^ 32 / 2 ^ 16 % 2 ^ 8 = omega arith in
    let e13 : n / 2 ^ 104 % 2 ^ 8 ≡ n / 2 ^ 64 / 2 ^ 32 / 2 ^ 8 % 2 ^ 8 = omega arith in
    let e12 : n / 2 ^ 96 % 2 ^ 8 ≡ n / 2 ^ 64 / 2 ^ 32 % 2 ^ 8 = omega arith in
    let e11 : n / 2 ^ 88 % 2 ^ 8 ≡ n / 2 ^ 64 % 2 ^ 32 / 2 ^ 24 % 2 ^ 8 = omega arith in
    let e10 : n / 2 ^ 80 % 2 ^ 8 ≡ n / 2 ^ 64 % 2 ^ 32 / 2 ^ 16 % 2 ^ 8 = omega arith in
    let e9 : n / 2 ^ 72 % 2 ^ 8 ≡ n / 2 ^ 64 % 2 ^ 32 / 2 ^ 8 % 2 ^ 8 = omega arith in
    let e8 : n / 2 ^ 64 % 2 ^ 8 ≡ n / 2 ^ 64 % 2 ^ 32 % 2 ^ 8 = omega arith in
    let e7 : n / 2 ^ 56 % 2 ^ 8 ≡ n % 2 ^ 64 / 2 ^ 32 / 2 ^ 24 % 2 ^ 8 = omega arith in
    let e6 : n / 2 ^ 48 % 2 ^ 8 ≡ n % 2 ^ 64 / 2 ^ 32 / 2 ^ 16 % 2 ^ 8 = omega arith in
    let e5 : n / 2 ^ 40 % 2 ^ 8 ≡ n % 2 ^ 64 / 2 ^ 32 / 2 ^ 8 % 2 ^ 8 = omega arith in
    let e4 : n / 2 ^ 32 % 2 ^ 8 ≡ n % 2 ^ 64 / 2 ^ 32 % 2 ^ 8 = omega arith in
    let e3 : n / 2 ^ 24 % 2 ^ 8 ≡ n % 2 ^ 64 % 2 ^ 32 / 2 ^ 24 % 2 ^ 8 = omega arith in
    let e2 : n / 2 ^ 16 % 2 ^ 8 ≡ n % 2 ^ 64 % 2 ^ 32 / 2 ^ 16 % 2 ^ 8 = omega arith in
    let e1 : n / 2 ^ 8 % 2 ^ 8 ≡ n % 2 ^ 64 % 2 ^ 32 / 2 ^ 8 % 2 ^ 8 = omega arith in
    let e0 : n % 2 ^ 8 ≡ n % 2 ^ 64 % 2 ^ 32 % 2 ^ 8 = omega arith in
    λ i. e15 i ∷ e14 i ∷ e13 i ∷ e12 i ∷ e11 i ∷ e10 i ∷ e9 i ∷ e8 i ∷ e7 i ∷ e6 i ∷ e5 i ∷ e4 i ∷ e3 i ∷ e2 i ∷ e1 i ∷ e0 i ∷ []
