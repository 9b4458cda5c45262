use Rattle.std.proofs.Common.{◌≡◌, ◌++◌, ◌<◌, List, ℕ, length, take, drop, refl, sym, ◌∙◌, arith}
use Rattle.std.proofs.lemmas.Bool.Decides.{nat_tests}
use Rattle.std.proofs.lemmas.List.{take-append-drop}
use Rattle.ossl_ghash.proofs.Hashing.{short_filled, text_ends, text_ends_whole}
use Rattle.ossl_ghash.proofs.key.HashKey.hash_text.Goals as goal

-- a text cut in two
cut_text : (k : ℕ) (text front back : List ℕ) → front ≡ take k text → back ≡ drop k text → text ≡ front ++ back
cut_text k text front back ef eb = sym ((λ i. ef i ++ eb i) ∙ take-append-drop k text)

pub hash_blocks-hash-requires : goal.hash_blocks-hash-requires
hash_blocks-hash-requires c = omega (arith, c.split_at.ensures.front_len)

pub returns-then-is_empty : goal.returns-then-is_empty
returns-then-is_empty c =
    let rest = c.split_at.result.1.now in
    let none : length rest ≡ 0 = grind (arith, nat_tests, c.is_empty.ensures, c.if-is_empty.true) in
    text_ends_whole c.args.self.now c.args.value c.args.bytes.now c.split_at.result.0.now rest _
    (cut_text _ _ _ _ c.split_at.ensures.front c.split_at.ensures.back) (omega (arith, c.split_at.ensures.front_len)) c.hash_blocks-hash.ensures none

pub returns : goal.returns
returns c =
    let rest = c.split_at.result.1.now in
    let some : 0 < length rest = grind (arith, nat_tests, c.is_empty.ensures, c.if-is_empty.false) in
    let short : length rest < 16 = omega (arith, c.split_at.ensures.back_len) in
    text_ends c.args.self.now c.args.value c.args.bytes.now c.split_at.result.0.now rest _ _ _ _
    (cut_text _ _ _ _ c.split_at.ensures.front c.split_at.ensures.back) (omega (arith, c.split_at.ensures.front_len)) c.hash_blocks-hash.ensures
    (short_filled rest c.copy_from_slice.new.self _ (length rest) refl c.copy_from_slice.ensures.after refl some short) some short c.from_be_bytes.ensures c.product.ensures
