use Rattle.std.proofs.Common.{ℕ, List, slice_index, arith, ap, ◌∙◌}
use Rattle.std.specs.Int.{w32, to_be_bytes}
use Rattle.ossl_aes.specs.Field.{sub}
use Rattle.ossl_aes.specs.Cipher.{column}
use Rattle.ossl_aes.proofs.TableFacts.{undone}
use Rattle.ossl_aes.proofs.schedule.inv_mixed_word.Goals as goal

pub returns : goal.returns
returns c =
    let bytes = to_be_bytes w32 c.args.w in
    let at = c.to_be_bytes.ensures in
    let u0 = undone (slice_index bytes 0) _ (omega arith) (omega arith) (c.sub.ensures ∙ ap (λ (t : List ℕ). sub (slice_index t 0)) at) in
    let u1 = undone (slice_index bytes 1) _ (omega arith) (omega arith) (c.sub-2.ensures ∙ ap (λ (t : List ℕ). sub (slice_index t 1)) at) in
    let u2 = undone (slice_index bytes 2) _ (omega arith) (omega arith) (c.sub-3.ensures ∙ ap (λ (t : List ℕ). sub (slice_index t 2)) at) in
    let u3 = undone (slice_index bytes 3) _ (omega arith) (omega arith) (c.sub-4.ensures ∙ ap (λ (t : List ℕ). sub (slice_index t 3)) at) in
    c.dec_column.ensures ∙ (λ i. column 14 11 13 9 (u0 i) (u1 i) (u2 i) (u3 i))
