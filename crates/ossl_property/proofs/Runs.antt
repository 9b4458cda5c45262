-- The longest run of a class at the front of a text, byte by byte, and over texts that are put together.
use Rattle.std.proofs.Common.{◌≡◌, ℕ, ◌+◌, ◌<◌, ◌≤◌, Bool, true, false, cond, List, [], ◌∷◌, ◌++◌, length, get_or, take, drop, refl, sym, ap, ◌∙◌, append_assoc, arith}
use Rattle.std.specs.List.{list_all}
use Rattle.std.proofs.lemmas.Bool.{and_parts}
use Rattle.std.proofs.lemmas.List.{length-append, drop_more, take_more, drop_all, append-nil}
use Rattle.ossl_property.specs.Bytes.{front, past}

-- one more byte that passes
pub front_more : (test : ℕ → Bool) (text : List ℕ) (i : ℕ) → i < length text → test (get_or text i 0) ≡ true → take (i + 1) text ++ front test (drop (i + 1) text) ≡ take i text ++ front test (drop i text)
front_more test text i lt h = rw (take_more text i 0 lt, drop_more text i 0 lt, h) (append_assoc (take i text) (get_or text i 0 ∷ []) (front test (drop (i + 1) text)))

pub past_more : (test : ℕ → Bool) (text : List ℕ) (i : ℕ) → i < length text → test (get_or text i 0) ≡ true → past test (drop (i + 1) text) ≡ past test (drop i text)
past_more test text i lt h = rw (drop_more text i 0 lt, h) refl

-- the first byte that does not
pub front_ends : (test : ℕ → Bool) (text : List ℕ) (i : ℕ) → i < length text → test (get_or text i 0) ≡ false → take i text ≡ take i text ++ front test (drop i text)
front_ends test text i lt h = rw (drop_more text i 0 lt, h) (sym (append-nil (take i text)))

pub past_ends : (test : ℕ → Bool) (text : List ℕ) (i : ℕ) → i < length text → test (get_or text i 0) ≡ false → drop i text ≡ past test (drop i text)
past_ends test text i lt h = rw (drop_more text i 0 lt, h) refl

-- a whole text of bytes that pass
pub front_all : (test : ℕ → Bool) (text : List ℕ) (i : ℕ) → length text ≤ i → take i text ≡ take i text ++ front test (drop i text)
front_all test text i le = rw (drop_all i text le) (sym (append-nil (take i text)))

pub past_all : (test : ℕ → Bool) (text : List ℕ) (i : ℕ) → length text ≤ i → drop i text ≡ past test (drop i text)
past_all test text i le = rw (drop_all i text le) refl

-- the run and what follows are the text
pub front_past : (test : ℕ → Bool) (text : List ℕ) → front test text ++ past test text ≡ text
front_past test [] = refl
front_past test (byte ∷ text) = elim (test byte) as (λ b. cond b (byte ∷ front test text) [] ++ cond b (past test text) (byte ∷ text) ≡ byte ∷ text) [ true ↦ ap (λ (x : List ℕ). byte ∷ x) (front_past test text) | false ↦ refl ]

-- what does not begin with a byte of the class has no run
pub past_none : (test : ℕ → Bool) (text : List ℕ) → front test text ≡ [] → past test text ≡ text
past_none test text h = ap (λ (x : List ℕ). x ++ past test text) (sym h) ∙ front_past test text

pub front_at_past : (test : ℕ → Bool) (text : List ℕ) → front test (past test text) ≡ []
front_at_past test [] = refl
front_at_past test (byte ∷ text) = cases (front_at_past test text) (test byte) refl
  where
    cases : front test (past test text) ≡ [] → (b : Bool) → test byte ≡ b → front test (cond b (past test text) (byte ∷ text)) ≡ []
    cases shorter true h = shorter
    cases shorter false h = rw h refl

pub past_twice : (test : ℕ → Bool) (text : List ℕ) → past test (past test text) ≡ past test text
past_twice test text = past_none test (past test text) (front_at_past test text)

pub past_front : (test : ℕ → Bool) (text : List ℕ) → past test (front test text) ≡ []
past_front test [] = refl
past_front test (byte ∷ text) = cases (past_front test text) (test byte) refl
  where
    cases : past test (front test text) ≡ [] → (b : Bool) → test byte ≡ b → past test (cond b (byte ∷ front test text) []) ≡ []
    cases shorter true h = rw h shorter
    cases shorter false h = refl

-- a run, and behind it what does not begin with a byte of the class
pub front_run : (test : ℕ → Bool) (run text : List ℕ) → list_all test run ≡ true → front test text ≡ [] → front test (run ++ text) ≡ run
front_run test [] text h none = none
front_run test (byte ∷ run) text h none =
    let parts = and_parts (test byte) (list_all test run) h in
    rw parts.0 (ap (λ (x : List ℕ). byte ∷ x) (front_run test run text parts.1 none))

pub past_run : (test : ℕ → Bool) (run text : List ℕ) → list_all test run ≡ true → front test text ≡ [] → past test (run ++ text) ≡ text
past_run test [] text h none = past_none test text none
past_run test (byte ∷ run) text h none =
    let parts = and_parts (test byte) (list_all test run) h in
    rw parts.0 (past_run test run text parts.1 none)

-- a text that is all run, with more behind it
pub past_through : (test : ℕ → Bool) (text behind : List ℕ) → past test text ≡ [] → past test (text ++ behind) ≡ past test behind
past_through test [] behind h = refl
past_through test (byte ∷ text) behind h = cases (past_through test text behind) (test byte) h
  where
    cases : (past test text ≡ [] → past test (text ++ behind) ≡ past test behind) → (b : Bool) → cond b (past test text) (byte ∷ text) ≡ [] → cond b (past test (text ++ behind)) (byte ∷ (text ++ behind)) ≡ past test behind
    cases shorter true h = shorter h
    cases shorter false h = absurd cc

-- a text that has more than the run
pub past_within : (test : ℕ → Bool) (text behind : List ℕ) (byte : ℕ) (rest : List ℕ) → past test text ≡ byte ∷ rest → past test (text ++ behind) ≡ byte ∷ (rest ++ behind)
past_within test [] behind byte rest h = absurd cc
past_within test (first ∷ text) behind byte rest h = cases (past_within test text behind byte rest) (test first) h
  where
    cases : (past test text ≡ byte ∷ rest → past test (text ++ behind) ≡ byte ∷ (rest ++ behind)) → (b : Bool) → cond b (past test text) (first ∷ text) ≡ byte ∷ rest → cond b (past test (text ++ behind)) (first ∷ (text ++ behind)) ≡ byte ∷ (rest ++ behind)
    cases shorter true h = shorter h
    cases shorter false h = ap (λ (x : List ℕ). x ++ behind) h

pub length_past : (test : ℕ → Bool) (text : List ℕ) → length (past test text) ≤ length text
length_past test text = omega (arith, ap length (front_past test text), length-append (front test text) (past test text))
