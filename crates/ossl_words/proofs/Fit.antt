-- Each word that is not bare is one of the three kinds.
use Rattle.std.proofs.Common.{◌≡◌, ℕ, suc, refl, sym, ap, arith, subst, true, false, inl, inr, List, [], ◌∷◌, length, Some, true≢false}
use Rattle.std.specs.Prelude.{◌==◌, slice_get, ⊤}
use Rattle.std.specs.Str.{chars, IsUtf8}
use Rattle.std.proofs.lemmas.Bool.{eqb-true, or_parts}
use Rattle.std.proofs.lemmas.Str.{IsUtf8-drop, IsCharBoundary-after_ascii, encodes-chars}
use Rattle.std.specs.List.{list_any}
use Rattle.clap.specs.Lexer.{name_and_value}
use Rattle.clap.specs.Walk.{Text}
use Rattle.ossl_words.specs.Commands.{is_bare}
use Rattle.ossl_words.proofs.Walks.{IsFit, AreFit}
use lib.Utf8.{encodes}

first_char : (y : ℕ) (ys : Text) → IsUtf8 (y ∷ ys) → (x : ℕ) × (slice_get (chars (y ∷ ys)) 0 ≡ Some x)
first_char y ys u = go (chars (y ∷ ys)) (encodes-chars (y ∷ ys) u)
  where
    go : (cs : List ℕ) → encodes cs ≡ y ∷ ys → (x : ℕ) × (slice_get cs 0 ≡ Some x)
    go [] e = let bad : 0 ≡ suc (length ys) = ap length e in absurd (omega arith)
    go (c ∷ cs) e = (c, refl)

starts_other : (x : ℕ) (xs : Text) → (x == 45) ≡ false → IsFit (x ∷ xs)
starts_other x xs e = inl (record { not_end = rw (e) refl; no_long = rw (e) refl; no_short = rw (e) refl; no_hyphen = rw (e) refl })

after_one : (y : ℕ) (ys : Text) → IsUtf8 (45 ∷ y ∷ ys) → (y == 45) ≡ false → IsFit (45 ∷ y ∷ ys)
after_one y ys u e =
    let first = first_char y ys (IsUtf8-drop (45 ∷ y ∷ ys) 1 u (IsCharBoundary-after_ascii (45 ∷ y ∷ ys) 0 u (omega arith) (omega arith))) in
    inr (inr (record { byte = y; bytes = ys; char = first.0; not_end = rw (e) refl; no_long = rw (e) refl; is_short = rw (e) refl; hyphen = refl; starts = first.1 }))

pub fit : (word : Text) → IsUtf8 word → is_bare word ≡ false → IsFit word
fit [] u bare = absurd (true≢false bare)
fit (x ∷ xs) u bare = (elim (x == 45) as (λ b. (x == 45) ≡ b → IsFit (x ∷ xs)) [
  | false ↦ λ e. starts_other x xs e
  | true ↦ λ e. let same : 45 ≡ x = sym (eqb-true x 45 e) in hyphen x xs same u bare
]) refl
  where
    two : (y : ℕ) (ys : Text) → 45 ≡ y → IsUtf8 (45 ∷ y ∷ ys) → is_bare (45 ∷ y ∷ ys) ≡ false → IsFit (45 ∷ y ∷ ys)
    two y [] same = subst (λ (n : ℕ). IsUtf8 (45 ∷ n ∷ []) → is_bare (45 ∷ n ∷ []) ≡ false → IsFit (45 ∷ n ∷ [])) same (λ u bare. absurd (true≢false bare))
    two y (z ∷ zs) same = subst (λ (n : ℕ). IsUtf8 (45 ∷ n ∷ z ∷ zs) → is_bare (45 ∷ n ∷ z ∷ zs) ≡ false → IsFit (45 ∷ n ∷ z ∷ zs)) same
        (λ u bare. inr (inl (record { parts = name_and_value (z ∷ zs); not_end = refl; is_long = refl; hyphen = refl })))

    one : (xs : Text) → IsUtf8 (45 ∷ xs) → is_bare (45 ∷ xs) ≡ false → IsFit (45 ∷ xs)
    one [] u bare = absurd (true≢false bare)
    one (y ∷ ys) u bare = (elim (y == 45) as (λ b. (y == 45) ≡ b → IsFit (45 ∷ y ∷ ys)) [
      | false ↦ λ e. after_one y ys u e
      | true ↦ λ e. two y ys (sym (eqb-true y 45 e)) u bare
    ]) refl

    hyphen : (x : ℕ) (xs : Text) → 45 ≡ x → IsUtf8 (x ∷ xs) → is_bare (x ∷ xs) ≡ false → IsFit (x ∷ xs)
    hyphen x xs same = subst (λ (n : ℕ). IsUtf8 (n ∷ xs) → is_bare (n ∷ xs) ≡ false → IsFit (n ∷ xs)) same (one xs)

abbrev pub AreUtf8 : List Text → Type 0
AreUtf8 [] = ⊤
AreUtf8 (w ∷ ws) = IsUtf8 w × AreUtf8 ws

pub all_fit : (words : List Text) → AreUtf8 words → list_any is_bare words ≡ false → AreFit words
all_fit [] u none = tt
all_fit (w ∷ ws) u none = let parts = or_parts (is_bare w) (list_any is_bare ws) none in (fit w u.0 parts.0, all_fit ws u.1 parts.1)
