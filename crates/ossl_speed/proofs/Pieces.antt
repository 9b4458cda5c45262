-- The message in pieces.
use Rattle.std.proofs.Common.{◌≡◌, ℕ, zero, suc, ◌+◌, ◌%◌, ◌≤◌, [], ◌∷◌, ◌++◌, length, take, refl, sym, ap, ◌∙◌, arith, add-one, inl, inr}
use Rattle.std.proofs.lemmas.List.{append_assoc, append-nil, length_push, take-append-le, take_all}
use Rattle.std.proofs.lemmas.Bool.{cases_lt}
use Rattle.ossl_speed.specs.Message.{message}

-- one byte more
pub message_more : (n : ℕ) → message (n + 1) ≡ message n ++ n % 256 ∷ []
unfolding message
message_more n = rw add-one refl

pub length-message : (n : ℕ) → length (message n) ≡ n
unfolding message
length-message zero = refl
length-message (suc n) = length_push (message n) (n % 256) ∙ ap (λ k. k + 1) (length-message n) ∙ add-one n

-- a message goes on as it began after a length that 256 divides
pub message-add : (a n : ℕ) → a % 256 ≡ 0 → message (a + n) ≡ message a ++ message n
unfolding message
message-add a zero h = let e : a + 0 ≡ a = omega arith in ap message e ∙ sym (append-nil (message a))
message-add a (suc n) h =
    let next : a + suc n ≡ suc (a + n) = omega arith in
    let byte : (a + n) % 256 ≡ n % 256 = omega arith in
    ap message next ∙ rw (message-add a n h, byte) (append_assoc (message a) (message n) (n % 256 ∷ []))

-- the first bytes of a message are the shorter message
pub take-message : (n m : ℕ) → n ≤ m → take n (message m) ≡ message n
unfolding message
take-message n zero h = let e : n ≡ 0 = omega arith in rw e refl
take-message n (suc m) h =
    elim (cases_lt n (suc m)) [
      | inl a ↦
          let low : n ≤ m = omega arith in
          take-append-le n (message m) (m % 256 ∷ []) (omega (arith, length-message m)) ∙ take-message n m low
      | inr b ↦
          let e : n ≡ suc m = omega arith in
          rw e (take_all (suc m) (message (suc m)) (omega (arith, length-message (suc m))))
    ]
