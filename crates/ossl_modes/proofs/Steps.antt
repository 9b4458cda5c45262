-- A mode goes on from block to block: the laws by which a text may be cut anywhere.
use Rattle.std.proofs.Common.{◌≡◌, ◌≢◌, ℕ, zero, suc, ◌+◌, ◌-◌, ◌*◌, ◌/◌, ◌%◌, ◌<◌, ◌≤◌, Bool, true, false, cond, nat_eq, ◌&&◌, List, [], ◌∷◌, ◌++◌, length, take, drop, Result, Ok, Err, refl, sym, ap, ◌∙◌, arith, append_assoc, length-append, replicate, inl, inr, ◌⊎◌, bit_xor}
use Rattle.std.proofs.lemmas.List.{append_cancel_left, take_at, drop_at, take_all, length-replicate, append-nil, length-take-le, length-drop}
use Rattle.std.proofs.lemmas.Bool.{cases_lt}
use Rattle.std.proofs.lemmas.Bool.Decides.{nat_tests}
use Rattle.ossl_aes.specs.Cipher.{add}
use Rattle.ossl_aes.proofs.Lists.{cut_at, no_elements}
use Rattle.ossl_blocks.specs.Cut.{IsCut}
use Rattle.ossl_modes.specs.declared.kinds.ModeKind.TheVariants.{Ecb, Cbc, Cfb, Ofb, Ctr}
use Rattle.ossl_modes.specs.declared.kinds.ModeKind.{ModeKind}
use Rattle.ossl_modes.specs.declared.kinds.FinishRefused.{FinishRefused}
use Rattle.ossl_modes.specs.declared.kinds.FinishRefused.TheVariants.{WrongFinalBlock, BadDecrypt, StreamEnd, NoMemory}
use Rattle.ossl_modes.specs.Modes.{block_out, block_next, blocks, value_after, equations, whole_blocks, checked, outcome, is_stream, before, padded, unpadded}
use Rattle.ossl_modes.specs.Run.{Finishes, IsBeginning, RunsTo}

-- two texts put before an outcome are one
pub before-append : (a b : List ℕ) (r : Result (List ℕ) FinishRefused) → before a (before b r) ≡ before (a ++ b) r
before-append a b (Ok x) = ap Ok (sym (append_assoc a b x))
before-append a b (Err x) = refl

before-nil : (r : Result (List ℕ) FinishRefused) → before [] r ≡ r
before-nil (Ok x) = refl
before-nil (Err x) = refl

before_all : (t : List ℕ) (s p q z : Bool) (a b c d f : Result (List ℕ) FinishRefused)
    → cond s (before t a) (cond p (cond z (before t b) (before t c)) (cond q (before t d) (cond z (before t f) (before t c))))
    ≡ before t (cond s a (cond p (cond z b c) (cond q d (cond z f c))))
before_all t true p q z a b c d f = refl
before_all t false true q true a b c d f = refl
before_all t false true q false a b c d f = refl
before_all t false false true z a b c d f = refl
before_all t false false false true a b c d f = refl
before_all t false false false false a b c d f = refl

take-add : (n : ℕ) (a b : List ℕ) → take n (add a b) ≡ add (take n a) b
unfolding add
take-add zero a b = refl
take-add (suc n) [] b = refl
take-add (suc n) (x ∷ a) [] = refl
take-add (suc n) (x ∷ a) (y ∷ b) = ap (λ (t : List ℕ). bit_xor x y ∷ t) (take-add n a b)

module _ (e d : List ℕ → List ℕ) (kind : ModeKind) (decrypt : Bool) where
  equations_more : (v b r : List ℕ) → length b ≡ 16
      → equations e d kind decrypt v (b ++ r) ≡ block_out e d kind decrypt v b ++ equations e d kind decrypt (block_next e kind decrypt v b) r
  unfolding blocks
  equations_more v b r h =
      let n : (length (b ++ r) + 15) / 16 ≡ suc ((length r + 15) / 16) = omega (arith, length-append b r) in
      let t : take 16 (b ++ r) ≡ b = take_at b r 16 h in
      let l : drop 16 (b ++ r) ≡ r = drop_at b r 16 h in
      rw (n, t, l) refl

  checked_more : (v b r : List ℕ) → length b ≡ 16 → 0 < length r
      → checked e d kind decrypt ((length (b ++ r) + 15) / 16) v (b ++ r)
      ≡ before (block_out e d kind decrypt v b) (checked e d kind decrypt ((length r + 15) / 16) (block_next e kind decrypt v b) r)
  unfolding checked
  checked_more v b r h some =
      let k : ℕ = (length r + 15) / 16 - 1 in
      let n : (length (b ++ r) + 15) / 16 ≡ suc (suc k) = omega (arith, length-append b r) in
      let m : suc k ≡ (length r + 15) / 16 = omega arith in
      let t : take 16 (b ++ r) ≡ b = take_at b r 16 h in
      let l : drop 16 (b ++ r) ≡ r = drop_at b r 16 h in
      (λ i. checked e d kind decrypt (n i) v (b ++ r))
      ∙ (λ i. before (block_out e d kind decrypt v (t i)) (checked e d kind decrypt (suc k) (block_next e kind decrypt v (t i)) (l i)))
      ∙ (λ i. before (block_out e d kind decrypt v b) (checked e d kind decrypt (m i) (block_next e kind decrypt v b) r))

  pub outcome_more : (pad : Bool) (v b r : List ℕ) → length b ≡ 16 → 0 < length r
      → outcome e d kind decrypt pad v (b ++ r) ≡ before (block_out e d kind decrypt v b) (outcome e d kind decrypt pad (block_next e kind decrypt v b) r)
  outcome_more pad v b r h some =
      let m : length (b ++ r) % 16 ≡ length r % 16 = omega (arith, length-append b r) in
      let eqs = equations_more v b r h in
      let chk = checked_more v b r h some in
      let p : padded (b ++ r) ≡ b ++ padded r = rw (m, append_assoc) refl in
      let pads = ap (equations e d kind decrypt v) p ∙ equations_more v b (padded r) h in
      (λ i. cond (is_stream kind) (Ok (eqs i)) (cond (pad && decrypt) (cond (nat_eq (m i) 0) (chk i) (Err (WrongFinalBlock (m i))))
      (cond pad (Ok (pads i)) (cond (nat_eq (m i) 0) (Ok (eqs i)) (Err (WrongFinalBlock (m i)))))))
      ∙ before_all (block_out e d kind decrypt v b) (is_stream kind) (pad && decrypt) pad (nat_eq (length r % 16) 0) _ _ _ _ _

  -- a whole block in front of a text, for the equations without the check
  pub whole_more : (v b r : List ℕ) → length b ≡ 16
      → whole_blocks e d kind decrypt v (b ++ r) ≡ block_out e d kind decrypt v b ++ whole_blocks e d kind decrypt (block_next e kind decrypt v b) r
  unfolding blocks
  whole_more v b r h =
      let n : length (b ++ r) / 16 ≡ suc (length r / 16) = omega (arith, length-append b r) in
      let t : take 16 (b ++ r) ≡ b = take_at b r 16 h in
      let l : drop 16 (b ++ r) ≡ r = drop_at b r 16 h in
      rw (n, t, l) refl

  -- n whole blocks in front of a text that is not empty
  pub outcome_after : (n : ℕ) (pad : Bool) (v bs r : List ℕ) → length bs ≡ 16 * n → 0 < length r
      → outcome e d kind decrypt pad v (bs ++ r) ≡ before (blocks e d kind decrypt n v bs) (outcome e d kind decrypt pad (value_after e d kind decrypt n v bs) r)
  unfolding blocks value_after
  outcome_after zero pad v bs r h some =
      let none : bs ≡ [] = no_elements bs (omega arith) in
      ap (λ (x : List ℕ). outcome e d kind decrypt pad v (x ++ r)) none ∙ sym (before-nil (outcome e d kind decrypt pad v r))
  outcome_after (suc n) pad v bs r h some =
      let b : List ℕ = take 16 bs in
      let t : List ℕ = drop 16 bs in
      let lb : length b ≡ 16 = length-take-le 16 bs (omega arith) in
      let lt : length t ≡ 16 * n = length-drop 16 bs ∙ omega arith in
      ap (outcome e d kind decrypt pad v) (cut_at 16 bs r)
      ∙ outcome_more pad v b (t ++ r) lb (omega (arith, length-append t r))
      ∙ ap (before (block_out e d kind decrypt v b)) (outcome_after n pad (block_next e kind decrypt v b) t r lt some)
      ∙ before-append (block_out e d kind decrypt v b) (blocks e d kind decrypt n (block_next e kind decrypt v b) t) _

  -- n whole blocks in front of a text, for the equations without the check
  pub whole_after : (n : ℕ) (v bs r : List ℕ) → length bs ≡ 16 * n
      → whole_blocks e d kind decrypt v (bs ++ r) ≡ blocks e d kind decrypt n v bs ++ whole_blocks e d kind decrypt (value_after e d kind decrypt n v bs) r
  unfolding blocks value_after
  whole_after zero v bs r h =
      let none : bs ≡ [] = no_elements bs (omega arith) in
      ap (λ (x : List ℕ). whole_blocks e d kind decrypt v (x ++ r)) none
  whole_after (suc n) v bs r h =
      let b : List ℕ = take 16 bs in
      let t : List ℕ = drop 16 bs in
      let lb : length b ≡ 16 = length-take-le 16 bs (omega arith) in
      let lt : length t ≡ 16 * n = length-drop 16 bs ∙ omega arith in
      ap (whole_blocks e d kind decrypt v) (cut_at 16 bs r)
      ∙ whole_more v b (t ++ r) lb
      ∙ ap (λ (x : List ℕ). block_out e d kind decrypt v b ++ x) (whole_after n (block_next e kind decrypt v b) t r lt)
      ∙ sym (append_assoc (block_out e d kind decrypt v b) (blocks e d kind decrypt n (block_next e kind decrypt v b) t) _)

  -- a text cut into whole blocks and what is held after them, with more bytes after it
  cut_done : (text done held : List ℕ) → IsCut 16 1 text done held → (length done ≡ 0) ⊎ (0 < length held)
  cut_done text done held cut =
      let all = ap length cut.joined ∙ length-append done held in
      elim (cases_lt 0 (length held)) [
        | inl some ↦ inr some
        | inr none ↦ inl (omega (arith, cut.len, all))
      ]

  outcome_cut : (pad : Bool) (v text done held r : List ℕ) → IsCut 16 1 text done held
      → outcome e d kind decrypt pad v (text ++ r)
      ≡ before (blocks e d kind decrypt (length done / 16) v done) (outcome e d kind decrypt pad (value_after e d kind decrypt (length done / 16) v done) (held ++ r))
  unfolding blocks value_after
  outcome_cut pad v text done held r cut =
      let joined = ap (λ (x : List ℕ). x ++ r) cut.joined ∙ append_assoc done held r in
      let whole : length done ≡ 16 * (length done / 16) = omega (arith, cut.len) in
      elim (cut_done text done held cut) [
        | inl none ↦
            let nothing : done ≡ [] = no_elements done none in
            ap (outcome e d kind decrypt pad v) joined ∙ ap (λ (x : List ℕ). outcome e d kind decrypt pad v (x ++ (held ++ r))) nothing
            ∙ sym (before-nil _)
            ∙ sym (λ i. before (blocks e d kind decrypt (length (nothing i) / 16) v (nothing i)) (outcome e d kind decrypt pad (value_after e d kind decrypt (length (nothing i) / 16) v (nothing i)) (held ++ r)))
        | inr some ↦
            ap (outcome e d kind decrypt pad v) joined
            ∙ outcome_after (length done / 16) pad v done (held ++ r) whole (omega (arith, some, length-append held r))
      ]

  -- what is given of a text that is cut, and what is left of it
  pub fed_text : (pad : Bool) (v text bytes done held r next old new held_old : List ℕ) → text ≡ held_old ++ bytes → IsCut 16 1 text done held
      → next ≡ value_after e d kind decrypt (length done / 16) v done → new ≡ old ++ blocks e d kind decrypt (length done / 16) v done
      → before old (outcome e d kind decrypt pad v (held_old ++ (bytes ++ r))) ≡ before new (outcome e d kind decrypt pad next (held ++ r))
  fed_text pad v text bytes done held r next old new held_old et cut enext enew =
      ap (λ (x : List ℕ). before old (outcome e d kind decrypt pad v x)) (sym (append_assoc held_old bytes r) ∙ ap (λ (x : List ℕ). x ++ r) (sym et))
      ∙ ap (before old) (outcome_cut pad v text done held r cut)
      ∙ before-append old (blocks e d kind decrypt (length done / 16) v done) _
      ∙ sym (λ i. before (enew i) (outcome e d kind decrypt pad (enext i) (held ++ r)))

  pub fed_whole : (v text bytes done held r next old new held_old : List ℕ) → text ≡ held_old ++ bytes → IsCut 16 1 text done held
      → next ≡ value_after e d kind decrypt (length done / 16) v done → new ≡ old ++ blocks e d kind decrypt (length done / 16) v done
      → old ++ whole_blocks e d kind decrypt v (held_old ++ (bytes ++ r)) ≡ new ++ whole_blocks e d kind decrypt next (held ++ r)
  fed_whole v text bytes done held r next old new held_old et cut enext enew =
      let whole : length done ≡ 16 * (length done / 16) = omega (arith, cut.len) in
      ap (λ (x : List ℕ). old ++ whole_blocks e d kind decrypt v x)
      (sym (append_assoc held_old bytes r) ∙ ap (λ (x : List ℕ). x ++ r) (sym et ∙ cut.joined) ∙ append_assoc done held r)
      ∙ ap (λ (x : List ℕ). old ++ x) (whole_after (length done / 16) v done (held ++ r) whole)
      ∙ sym (append_assoc old (blocks e d kind decrypt (length done / 16) v done) _)
      ∙ sym (λ i. enew i ++ whole_blocks e d kind decrypt (enext i) (held ++ r))

  short_out : (n : ℕ) (v b : List ℕ) → is_stream kind ≡ true → take n (block_out e d kind decrypt v b) ≡ block_out e d kind decrypt v (take n b)
  short_out n v b s = short kind decrypt s where
    short : (k : ModeKind) (c : Bool) → is_stream k ≡ true → take n (block_out e d k c v b) ≡ block_out e d k c v (take n b)
    short Ecb c s = absurd (cc)
    short Cbc c s = absurd (cc)
    short Cfb c s = take-add n b (e v)
    short Ofb c s = take-add n b (e v)
    short Ctr c s = take-add n b (e v)

  one_block : (v b : List ℕ) → 0 < length b → length b ≤ 16 → equations e d kind decrypt v b ≡ block_out e d kind decrypt v b
  unfolding blocks
  one_block v b some fits =
      let n : (length b + 15) / 16 ≡ 1 = omega arith in
      rw (n, take_all 16 b fits, append-nil) refl

  pub rest_is : (v b text : List ℕ) (n : ℕ) → n ≤ 16 → length b ≡ 16 → length text ≡ 16 → text ≡ block_out e d kind decrypt v b
      → (is_stream kind ≡ true) ⊎ (n % 16 ≡ 0) → take n text ≡ equations e d kind decrypt v (take n b)
  unfolding blocks
  rest_is v b text n fits len tlen et h =
      let l : length (take n b) ≡ n = length-take-le n b (omega arith) in
      elim (cases_lt 0 n) [
        | inl some ↦ elim h [
          | inl s ↦ ap (take n) et ∙ short_out n v b s ∙ sym (one_block v (take n b) (omega arith) (omega arith))
          | inr w ↦
              let all : n ≡ 16 = omega arith in
              let whole : take n b ≡ b = take_all n b (omega arith) in
              take_all n text (omega arith) ∙ et ∙ sym (ap (equations e d kind decrypt v) whole ∙ one_block v b (omega arith) (omega arith))
        ]
        | inr none ↦
            let z : n ≡ 0 = omega arith in
            rw z refl
      ]

-- a whole block and its padding are two blocks
pub padded_full : (e d : List ℕ → List ℕ) (kind : ModeKind) (decrypt : Bool) (v held b : List ℕ) → length held ≡ 16 → b ≡ held
    → blocks e d kind decrypt (length (b ++ replicate 16 16) / 16) v (b ++ replicate 16 16) ≡ equations e d kind decrypt v (padded held)
padded_full e d kind decrypt v held b len eb =
    let p : padded held ≡ b ++ replicate 16 16 = rw (len, eb) refl in
    let sixteen : length (replicate {A = ℕ} 16 16) ≡ 16 = refl in
    let two : length (b ++ replicate 16 16) / 16 ≡ (length (padded held) + 15) / 16 =
    omega (arith, ap length p, length-append b (replicate 16 16), sixteen, len, ap length eb) in
    λ i. blocks e d kind decrypt (two i) v (sym p i)

pub padded_short : (e d : List ℕ → List ℕ) (kind : ModeKind) (decrypt : Bool) (v held last t : List ℕ) → length held < 16
    → last ≡ held ++ replicate (16 - length held) (16 - length held) → t ≡ block_out e d kind decrypt v last
    → t ≡ equations e d kind decrypt v (padded held)
padded_short e d kind decrypt v held last t fits el et =
    let m : length held % 16 ≡ length held = omega arith in
    let p : padded held ≡ last = rw (m, el) refl in
    let pads = length-replicate {A = ℕ} (16 - length held) (16 - length held) in
    let long : length last ≡ 16 = omega (arith, ap length el, length-append held (replicate (16 - length held) (16 - length held)), pads) in
    et ∙ sym (ap (equations e d kind decrypt v) p ∙ one_block e d kind decrypt v last (omega arith) (omega arith))

pub not_stream : (k : ModeKind) → (k ≡ Ecb) ⊎ (k ≡ Cbc) → is_stream k ≡ false
not_stream k h = elim h [ inl a ↦ ap is_stream a | inr a ↦ ap is_stream a ]

pub checked_end : (e d : List ℕ → List ℕ) (kind : ModeKind) (decrypt pad : Bool) (v b : List ℕ)
    → is_stream kind ≡ false → pad ≡ true → decrypt ≡ true → length b ≡ 16
    → outcome e d kind decrypt pad v (b ++ []) ≡ unpadded (block_out e d kind decrypt v b)
unfolding checked
checked_end e d kind decrypt pad v b s p q len = ap (outcome e d kind decrypt pad v) (append-nil b) ∙ rw (s, p, q, len) refl

pub wrong_end : (e d : List ℕ → List ℕ) (kind : ModeKind) (decrypt pad : Bool) (v b : List ℕ)
    → is_stream kind ≡ false → pad ≡ true → decrypt ≡ true → length b ≤ 16 → length b ≢ 16
    → outcome e d kind decrypt pad v (b ++ []) ≡ Err (WrongFinalBlock (length b))
unfolding checked
wrong_end e d kind decrypt pad v b s p q fits other =
    ap (outcome e d kind decrypt pad v) (append-nil b) ∙ elim (cases_lt 0 (length b)) [
      | inl some ↦
          let m : length b % 16 ≡ length b = omega arith in
          let z : nat_eq (length b) 0 ≡ false = grind (arith, nat_tests) in
          rw (s, p, q, m, z) refl
      | inr none ↦
          let z : length b ≡ 0 = omega arith in
          rw (s, p, q, z) refl
    ]

-- a refused outcome, whatever text is put before it
before_refused : (t : List ℕ) (o : Result (List ℕ) FinishRefused) (x : FinishRefused) → before t o ≡ Err x → o ≡ Err x
before_refused t (Ok y) x h = absurd (cc)
before_refused t (Err y) x h = h

-- what was appended to a text to which something was appended
pub appended_twice : (start now new : List ℕ) → (given : List ℕ) × (now ≡ start ++ given) → (given : List ℕ) × (new ≡ now ++ given)
    → (given : List ℕ) × (new ≡ start ++ given)
appended_twice start now new first then =
    (first.0 ++ then.0, then.1 ∙ ap (λ (x : List ℕ). x ++ then.0) first.1 ∙ append_assoc start first.0 then.0)

-- what was appended so far is a beginning of the text w, of which left is yet to come
pub begins : (start now new w left : List ℕ) → (given : List ℕ) × (now ≡ start ++ given) → start ++ w ≡ now ++ left → new ≡ now
    → IsBeginning start new w
begins start now new w left grown el same = (
  grown.0,
  left,
  same ∙ grown.1,
  sym (append_cancel_left start w (grown.0 ++ left) (el ∙ ap (λ (x : List ℕ). x ++ left) grown.1 ∙ append_assoc start grown.0 left)),
)

-- the end of a run whose outcome so far is o, with t yet to come
pub run_ends : {U : Type 0} (r : Result U FinishRefused) (start now new w left : List ℕ) (o t : Result (List ℕ) FinishRefused)
    → before start o ≡ before now t → start ++ w ≡ now ++ left → (given : List ℕ) × (now ≡ start ++ given) → Finishes now new r t
    → RunsTo start new r o w
run_ends (Ok u) start now new w left o t e el grown h = e ∙ h
run_ends (Err NoMemory) start now new w left o t e el grown h = begins start now new w left grown el h
run_ends (Err BadDecrypt) start now new w left o t e el grown h =
    (before_refused start o BadDecrypt (e ∙ ap (before now) h.0), begins start now new w left grown el h.1)
run_ends (Err (WrongFinalBlock n)) start now new w left o t e el grown h =
    (before_refused start o (WrongFinalBlock n) (e ∙ ap (before now) h.0), begins start now new w left grown el h.1)
run_ends (Err (StreamEnd n)) start now new w left o t e el grown h =
    (before_refused start o (StreamEnd n) (e ∙ ap (before now) h.0), begins start now new w left grown el h.1)
