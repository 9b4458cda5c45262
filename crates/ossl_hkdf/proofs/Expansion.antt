-- The blocks of an expansion, one after another.
use Rattle.std.proofs.Common.{◌≡◌, ℕ, zero, suc, ◌+◌, ◌-◌, List, [], ◌∷◌, ◌++◌, length, drop, refl, sym, ap, ◌∙◌, arith, length-append}
use Rattle.std.proofs.lemmas.List.{drop_at, drop_all}
use Rattle.ossl_digests.specs.declared.hash.Hash.{Hash}
use Rattle.ossl_digests.specs.Digest.{output_len}
use Rattle.ossl_digests.proofs.Lengths.{length-digest}
use Rattle.ossl_hmac.specs.Hmac.{hmac}
use Rattle.ossl_hkdf.specs.Hkdf.{block, blocks}

length-hmac : (hash : Hash) (key text : List ℕ) → length (hmac hash key text) ≡ output_len hash
unfolding hmac
length-hmac hash key text = length-digest hash _

length-block : (hash : Hash) (key info : List ℕ) (i : ℕ) → length (block hash key info (suc i)) ≡ output_len hash
unfolding block
length-block hash key info i = length-hmac hash key _

-- the last block of those that there are
pub last_block : (hash : Hash) (key info : List ℕ) (i : ℕ) → drop (length (blocks hash key info i) - output_len hash) (blocks hash key info i) ≡ block hash key info i
unfolding blocks block
last_block hash key info zero = drop_all (0 - output_len hash) [] (omega arith)
last_block hash key info (suc i) =
    drop_at (blocks hash key info i) (block hash key info (suc i)) _
    (omega (arith, length-append (blocks hash key info i) (block hash key info (suc i)), length-block hash key info i))

-- one block more
pub blocks_more : (hash : Hash) (key info : List ℕ) (i : ℕ) → blocks hash key info (i + 1) ≡ blocks hash key info i ++ hmac hash key (block hash key info i ++ info ++ (i + 1) ∷ [])
unfolding blocks block
blocks_more hash key info i = let e : i + 1 ≡ suc i = omega arith in rw e refl

-- a list of the first blocks, once the code of the last of them, the info and the next number is put behind it
pub blocks_grow : (hash : Hash) (key info : List ℕ) (i : ℕ) (items grown added before : List ℕ) → items ≡ blocks hash key info i → grown ≡ items ++ added
    → added ≡ hmac hash key (before ++ info ++ (i + 1) ∷ []) → before ≡ drop (length items - output_len hash) items → grown ≡ blocks hash key info (i + 1)
blocks_grow hash key info i items grown added before is grown_is added_is before_is =
    let last : before ≡ block hash key info i =
    before_is ∙ ap (λ (xs : List ℕ). drop (length xs - output_len hash) xs) is ∙ last_block hash key info i in
    let code = added_is ∙ ap (λ (p : List ℕ). hmac hash key (p ++ info ++ (i + 1) ∷ [])) last in
    grown_is ∙ (λ d. is d ++ code d) ∙ sym (blocks_more hash key info i)
