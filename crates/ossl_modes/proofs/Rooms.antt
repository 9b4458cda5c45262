-- A vector whose end was changed in place.
use Rattle.std.proofs.Common.{◌≡◌, ℕ, Bool, ◌+◌, ◌-◌, ◌/◌, List, ◌++◌, length, length-append, take, drop, sym, ap, ◌∙◌, arith}
use Rattle.std.proofs.lemmas.List.{take_at, drop_at, take_rest, take-append-le, length-take-le, length-drop}
use Rattle.std.proofs.lemmas.Slice.{take-put_mid}
use borrow.Rule.Slice.PartMut.{put_mid, same_len_mid}
use Rattle.ossl_modes.specs.declared.kinds.ModeKind.{ModeKind}
use Rattle.ossl_modes.specs.Modes.{blocks, value_after}

-- the end, as a slice
pub end_part : (start : ℕ) (old bytes all : List ℕ) → all ≡ old ++ bytes → start ≡ length old → take (length all - start) (drop start all) ≡ bytes
end_part start old bytes all e es = take_rest all start ∙ ap (drop start) e ∙ drop_at old bytes start (sym es)

-- the whole, once the end is another text of the same length
pub changed_end : (n start : ℕ) (old bytes all room items : List ℕ) → all ≡ old ++ bytes → start ≡ length old → length room ≡ length bytes
    → n ≡ length old + length bytes
    → take n (put_mid start (length all - start) all room ++ drop (length (put_mid start (length all - start) all room)) items) ≡ old ++ room
changed_end n start old bytes all room items e es same en =
    let k : ℕ = length all - start in
    let len : length all ≡ length old + length bytes = ap length e ∙ length-append old bytes in
    let mid = length-take-le k (drop start all) (omega (arith, length-drop start all)) in
    let size = same_len_mid start k all room (omega (arith, mid)) in
    take-append-le n (put_mid start k all room) _ (omega (arith, size)) ∙ take-put_mid start k all room n (omega arith) (omega arith)
    ∙ ap (λ (x : List ℕ). x ++ room) (ap (take start) e ∙ take_at old bytes start (sym es))

-- whole blocks that were given in place: what stands for the IV, and the whole
module _ (e d : List ℕ → List ℕ) (kind : ModeKind) (decrypt : Bool) where
  pub given_in_place : (n start : ℕ) (v next old bytes all room items : List ℕ) → all ≡ old ++ bytes → start ≡ length old → n ≡ length old + length bytes
      → length room ≡ length (take (length all - start) (drop start all))
      → room ≡ blocks e d kind decrypt (length (take (length all - start) (drop start all)) / 16) v (take (length all - start) (drop start all))
      → next ≡ value_after e d kind decrypt (length (take (length all - start) (drop start all)) / 16) v (take (length all - start) (drop start all))
      → (next ≡ value_after e d kind decrypt (length bytes / 16) v bytes)
      × (take n (put_mid start (length all - start) all room ++ drop (length (put_mid start (length all - start) all room)) items)
      ≡ old ++ blocks e d kind decrypt (length bytes / 16) v bytes)
  given_in_place n start v next old bytes all room items ea es en len gives nexts =
      let part = end_part start old bytes all ea es in (
        nexts ∙ (λ i. value_after e d kind decrypt (length (part i) / 16) v (part i)),
        changed_end n start old bytes all room items ea es (len ∙ ap length part) en
            ∙ ap (λ (x : List ℕ). old ++ x) (gives ∙ (λ i. blocks e d kind decrypt (length (part i) / 16) v (part i))),
      )
