-- Logical lines, piece by piece.
use Rattle.std.proofs.Common.{◌≡◌, ℕ, ◌+◌, ◌<◌, ◌≤◌, Bool, true, false, cond, not, if◌then◌else◌, List, [], ◌∷◌, ◌++◌, length, take, drop, refl, ap, sym, subst, ◌∙◌, arith}
use Rattle.std.specs.List.{position_or_len, slice_split, before_first, after_first, onto_first}
use Rattle.std.proofs.lemmas.List.Splits.{slice_split_first}
use Rattle.ossl_conf.specs.Lines.{LogicalLine, begun_after, ended_by, is_joined, is_line_feed, lines_at, lines_from, pieces, without_last, without_return}

-- a text has a first piece
pub split_first : {X : Type 0} (p : X → Bool) (xs : List X) → (piece : List X) × (rest : List (List X)) × (slice_split p xs ≡ piece ∷ rest)
split_first p [] = ([], [], refl)
split_first p (x ∷ xs) =
    let other = split_first p xs in
    elim (p x) as (λ b. (piece : List _) × (rest : List (List _)) × (cond b ([] ∷ slice_split p xs) (onto_first x (slice_split p xs)) ≡ piece ∷ rest))
    [ true ↦ ([], slice_split p xs, refl) | false ↦ (x ∷ other.0, other.1, ap (onto_first x) other.2) ]

-- where no element passes, the list is the one part
pub split_whole : {X : Type 0} (p : X → Bool) (xs : List X) → length xs ≤ position_or_len p xs → slice_split p xs ≡ xs ∷ []
split_whole p [] h = refl
split_whole p (x ∷ xs) h = by (p x) refl (split_whole p xs)
  where
    by : (b : Bool) → p x ≡ b → (length xs ≤ position_or_len p xs → slice_split p xs ≡ xs ∷ []) → slice_split p (x ∷ xs) ≡ (x ∷ xs) ∷ []
    by true e go = absurd (let e' : position_or_len p (x ∷ xs) ≡ 0 = rw e refl in omega (arith, h, e'))
    by false e go = let shorter : length xs ≤ position_or_len p xs = (let e' : position_or_len p (x ∷ xs) ≡ 1 + position_or_len p xs = rw e refl in omega (arith, h, e')) in rw (e, go shorter) refl

-- a piece that has an end is followed by others
pub lines_from-piece : (begun : LogicalLine) (number : ℕ) (text : List ℕ) → position_or_len is_line_feed text < length text
    → lines_from begun number (pieces text)
    ≡ ended_by begun (without_return (before_first is_line_feed text))
    ++ lines_from (begun_after begun (number + 1) (without_return (before_first is_line_feed text))) (number + 1) (pieces (after_first is_line_feed text))
lines_from-piece begun number text lt =
    let first = slice_split_first is_line_feed text 0 lt in
    let more = split_first is_line_feed (after_first is_line_feed text) in
    rw (first, more.2) refl

-- the last one has none
pub lines_from-last : (begun : LogicalLine) (number : ℕ) (text : List ℕ) → length text ≤ position_or_len is_line_feed text
    → lines_from begun number (pieces text) ≡ record begun { text = begun.text ++ text } ∷ []
lines_from-last begun number text le = rw (split_whole is_line_feed text le) refl

module _ (begun : LogicalLine) (number at : ℕ) (text : List ℕ) (feed : at ≡ position_or_len is_line_feed text) (lt : at < length text) where
  -- a line that is joined goes on with the next one
  pub lines_from-joined : is_joined (without_return (take at text)) ≡ true
      → lines_from begun number (pieces text) ≡ lines_from (record begun { text = begun.text ++ without_last (without_return (take at text)) }) (number + 1) (pieces (drop (at + 1) text))
  lines_from-joined h =
      let P : ℕ → Type 0 = λ n. is_joined (without_return (take n text)) ≡ true → lines_from begun number (pieces text) ≡ lines_from (record begun { text = begun.text ++ without_last (without_return (take n text)) }) (number + 1) (pieces (drop (n + 1) text)) in
      subst P (sym feed) (λ h. lines_from-piece begun number text (subst (λ n. n < length text) feed lt) ∙ rw h refl) h

  -- one that is not is a logical line
  pub lines_from-ended : is_joined (without_return (take at text)) ≡ false
      → lines_from begun number (pieces text) ≡ record begun { text = begun.text ++ without_return (take at text) } ∷ lines_at (number + 1) (drop (at + 1) text)
  lines_from-ended h =
      let P : ℕ → Type 0 = λ n. is_joined (without_return (take n text)) ≡ false → lines_from begun number (pieces text) ≡ record begun { text = begun.text ++ without_return (take n text) } ∷ lines_at (number + 1) (drop (n + 1) text) in
      subst P (sym feed) (λ h. lines_from-piece begun number text (subst (λ n. n < length text) feed lt) ∙ rw h refl) h
