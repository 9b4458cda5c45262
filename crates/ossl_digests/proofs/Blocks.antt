-- How MD4 takes blocks in.
use Rattle.std.proofs.Common.{◌≡◌, ℕ, zero, suc, ◌+◌, ◌-◌, ◌/◌, ◌%◌, ◌^◌, ◌*◌, ◌≤◌, List, [], ◌∷◌, ◌++◌, length, take, drop, replicate, add-one, refl, sym, ap, ◌∙◌, arith, length-append, length-drop}
use Rattle.std.proofs.lemmas.List.{take-replicate, length-replicate, take_at, drop_at, drop-drop, take-append-drop, take-append-le, drop-append-le, length-take-le, append_assoc, append-nil}
use Rattle.ossl_blocks.specs.Cut.{IsCut}
use Rattle.ossl_blocks.specs.Held.{held_of}
use Rattle.ossl_digests.specs.Md4.{compress, registers_after, digest_from, initial_registers, output, padding, md4}
use Rattle.std.specs.Int.{w64, to_le_bytes}
use Rattle.ossl_digests.specs.declared.state.Md4.{Md4}
use Rattle.ossl_digests.specs.Holds.{digest_with, HoldsMd4}

no_elements : (b : List ℕ) → length b ≡ 0 → b ≡ []
no_elements [] h = refl
no_elements (x ∷ b) h = absurd (omega arith)

registers_after-block : (h b r : List ℕ) (n : ℕ) → length b ≡ 64 → registers_after h (suc n) (b ++ r) ≡ registers_after (compress h b) n r
unfolding registers_after
registers_after-block h b r n len = rw (take_at b r 64 len, drop_at b r 64 len) refl

-- a block is taken in by itself
pub digest_from-block : (h b r : List ℕ) → length b ≡ 64 → digest_from h (b ++ r) ≡ digest_from (compress h b) r
unfolding digest_from
digest_from-block h b r len =
    let more : length (b ++ r) / 64 ≡ suc (length r / 64) = omega (arith, length-append b r) in
    ap output (ap (λ n. registers_after h n (b ++ r)) more ∙ registers_after-block h b r (length r / 64) len)

-- where no block is left, the digest is the registers'
pub digest_from-nil : (h : List ℕ) → digest_from h [] ≡ output h
unfolding digest_from registers_after
digest_from-nil h = refl

-- n blocks are taken in by themselves
digest_from-blocks : (n : ℕ) (h b r : List ℕ) → length b ≡ 64 * n → digest_from h (b ++ r) ≡ digest_from (registers_after h n b) r
unfolding registers_after
digest_from-blocks zero h b r len =
    let none : b ≡ [] = no_elements b (omega arith) in
    ap (λ (x : List ℕ). digest_from h (x ++ r)) none
digest_from-blocks (suc n) h b r len =
    let first : length (take 64 b) ≡ 64 = length-take-le 64 b (omega arith) in
    ap (digest_from h) (ap (λ (x : List ℕ). x ++ r) (sym (take-append-drop 64 b)) ∙ append_assoc (take 64 b) (drop 64 b) r)
    ∙ digest_from-block h (take 64 b) (drop 64 b ++ r) first
    ∙ digest_from-blocks n (compress h (take 64 b)) (drop 64 b) r (length-drop 64 b ∙ omega arith)

-- bytes that are fed: what is taken in, and what is held after them
pub digest_from-fed : (h text bytes done held held_old p next : List ℕ) → text ≡ held_old ++ bytes → IsCut 64 0 text done held
    → next ≡ registers_after h (length done / 64) done → digest_from h (held_old ++ (bytes ++ p)) ≡ digest_from next (held ++ p)
digest_from-fed h text bytes done held held_old p next et cut enext =
    let whole : length done ≡ 64 * (length done / 64) = omega (arith, cut.len) in
    ap (digest_from h) (sym (append_assoc held_old bytes p) ∙ ap (λ (x : List ℕ). x ++ p) (sym et ∙ cut.joined) ∙ append_assoc done held p)
    ∙ digest_from-blocks (length done / 64) h done (held ++ p) whole ∙ ap (λ (x : List ℕ). digest_from x (held ++ p)) (sym enext)

-- a loop over the blocks: at its start, and a turn of it
pub registers-none : (h bytes : List ℕ) → h ≡ registers_after h 0 bytes
unfolding registers_after
registers-none h bytes = refl

registers-then : (n : ℕ) (h bytes : List ℕ) → registers_after h (suc n) bytes ≡ compress (registers_after h n bytes) (take 64 (drop (64 * n) bytes))
unfolding registers_after
registers-then zero h bytes = refl
registers-then (suc n) h bytes =
    let at : drop (64 * n) (drop 64 bytes) ≡ drop (64 * suc n) bytes = drop-drop (64 * n) 64 bytes ∙ ap (λ (k : ℕ). drop k bytes) (omega arith) in
    registers-then n (compress h (take 64 bytes)) (drop 64 bytes)
    ∙ (λ i. compress (registers_after (compress h (take 64 bytes)) n (drop 64 bytes)) (take 64 (at i)))

pub registers-more : (i k : ℕ) (h bytes now next : List ℕ) → now ≡ registers_after h i bytes → k ≡ 64 → next ≡ compress now (take k (drop (64 * i) bytes))
    → next ≡ registers_after h (i + 1) bytes
registers-more i k h bytes now next enow ek enext =
    let more : suc i ≡ i + 1 = omega arith in
    enext ∙ (λ j. compress (enow j) (take (ek j) (drop (64 * i) bytes))) ∙ sym (registers-then i h bytes) ∙ ap (λ (n : ℕ). registers_after h n bytes) more

-- two runs of blocks are one
pub registers-twice : (n m k : ℕ) (h xs ys : List ℕ) → length xs ≡ 64 * n → k ≡ n + m → registers_after (registers_after h n xs) m ys ≡ registers_after h k (xs ++ ys)
unfolding registers_after
registers-twice zero m k h xs ys len ek =
    let none : xs ≡ [] = no_elements xs (omega arith) in
    let same : m ≡ k = omega arith in
    λ i. registers_after h (same i) (sym none i ++ ys)
registers-twice (suc n) m zero h xs ys len ek = absurd (omega arith)
registers-twice (suc n) m (suc k) h xs ys len ek =
    let first : take 64 (xs ++ ys) ≡ take 64 xs = take-append-le 64 xs ys (omega arith) in
    let rest : drop 64 (xs ++ ys) ≡ drop 64 xs ++ ys = drop-append-le 64 xs ys (omega arith) in
    registers-twice n m k (compress h (take 64 xs)) (drop 64 xs) ys (length-drop 64 xs ∙ omega arith) (omega arith)
    ∙ sym (λ i. registers_after (compress h (first i)) k (rest i))

-- the first bytes of the padding
pub take_padding : (z : ℕ) → z ≤ 71 → take {A = ℕ} (z + 1) (0x80 ∷ replicate 71 0) ≡ 0x80 ∷ replicate z 0
take_padding z h = rw (add-one, take-replicate {X = ℕ} z 71 0 h) refl

-- the padding of a message whose length is known modulo 2 ^ 64
pub padding_same : (n m : ℕ) → n ≡ m % 2 ^ 64 → padding n ≡ padding m
padding_same n m e =
    let place : n % 64 ≡ m % 64 = omega arith in
    let bits : n * 8 % 2 ^ 64 ≡ m * 8 % 2 ^ 64 = omega arith in
    rw (place, bits) refl

-- a state s that takes its padding, and is then z, gives the digest of z's registers
pub finished : (s z : Md4) (given bits d : List ℕ) (used front : ℕ)
    → ((p : List ℕ) → digest_with s (given ++ p) ≡ digest_with z p) → z.total ≡ (s.total + length given) % 2 ^ 64
    → used ≡ length (held_of s.buffer) → front ≡ (119 - used) % 64 + 1
    → given ≡ 0x80 ∷ replicate (front - 1) 0 ++ bits → bits ≡ to_le_bytes w64 (s.total * 8 % 2 ^ 64)
    → d ≡ output z.registers.0 → d ≡ digest_with s (padding s.total)
finished s z given bits d used front gives counted eu ef is_given is_bits is_output =
    let place : front - 1 ≡ (119 - s.total % 64) % 64 = omega (arith, eu, ef, s.in_step) in
    let size : length given ≡ suc (length (replicate {A = ℕ} (front - 1) 0 ++ bits)) = ap length is_given in
    let eight : length bits ≡ 8 = ap length is_bits in
    let more = length-append (replicate {A = ℕ} (front - 1) 0) bits in
    let none : held_of z.buffer ≡ [] =
    no_elements (held_of z.buffer) (omega (arith, z.in_step, length-replicate {A = ℕ} (front - 1) 0)) in
    let empty : digest_with z [] ≡ digest_from z.registers.0 [] = ap (λ (x : List ℕ). digest_from z.registers.0 (x ++ [])) none in
    let all : given ≡ padding s.total = rw (is_given, is_bits, place) refl in
    is_output ∙ sym (digest_from-nil z.registers.0) ∙ sym empty ∙ sym (gives []) ∙ ap (digest_with s) (append-nil given ∙ all)

-- the digest that a state which holds m gives with its own padding
pub digest_of_held : (s : Md4) (m d : List ℕ) → HoldsMd4 s m → d ≡ digest_with s (padding s.total) → d ≡ md4 m
unfolding md4
digest_of_held s m d held is =
    is ∙ held.gives (padding s.total) ∙ ap (λ p. digest_from initial_registers (m ++ p)) (padding_same s.total (length m) held.counted)
