use Rattle.std.proofs.Common.{◌≡◌, ℕ, List, ◌+◌, ◌-◌, ◌∷◌, ◌++◌, take, replicate, arith, ap, sym, ◌∙◌}
use Rattle.std.proofs.lemmas.Slice.{take-put_mid}
use Rattle.ossl_digests.proofs.Blocks.{take_padding}
use Rattle.ossl_digests.proofs.md4.padding_with.Goals as goal

pub returns : goal.returns
returns c =
    let n = c.args.front in
    let front : n - 1 + 1 ≡ n = omega arith in
    take-put_mid n (n + 8 - n) (0x80 ∷ replicate 71 0) c.copy_from_slice.new.self (n + 8) (omega arith) (omega arith)
    ∙ ap (λ (k : ℕ). take k (0x80 ∷ replicate 71 0) ++ c.copy_from_slice.new.self) (sym front)
    ∙ ap (λ (x : List ℕ). x ++ c.copy_from_slice.new.self) (take_padding (n - 1) (omega arith))
    ∙ ap (λ (x : List ℕ). 0x80 ∷ replicate (n - 1) 0 ++ x) c.copy_from_slice.ensures.after
