use Rattle.std.proofs.Common.{◌≡◌, ℕ, List, [], ◌+◌, ◌-◌, ◌^◌, ◌<◌, ◌++◌, length, take, min, refl, sym, ap, ◌∙◌, arith}
use Rattle.std.proofs.lemmas.List.{append-nil, length-take-le}
use Rattle.ossl_blocks.specs.Held.{held_of}
use Rattle.ossl_gcm.specs.Gcm.{counted}
use Rattle.ossl_gcm.proofs.Sealing.{ends_over, ends_well}
use Rattle.ossl_gcm.proofs.state.Sealer.finish.Goals as goal

-- the rest of a text is what is held
rest_held : (count : ℕ) (block held : List ℕ) → count ≡ length held → take (length held) block ≡ held → take count block ≡ held ++ []
rest_held count block held ec eh = ap (λ (k : ℕ). take k block) ec ∙ eh ∙ sym (append-nil held)

-- how many bytes the ciphertext has
with_rest : (s n count : ℕ) (block c : List ℕ) → s ≡ min (n + count) (2 ^ 64 - 1) → length c ≡ length (take count block) → length block ≡ 16 → count < 16 + 0
    → s ≡ min (n + length c) (2 ^ 64 - 1)
with_rest s n count block c es ec len within =
    let same : count ≡ length c = omega (arith, length-take-le count block (omega arith)) in
    es ∙ ap (λ (k : ℕ). min (n + k) (2 ^ 64 - 1)) same

pub returns-then-len : goal.returns-then-len
returns-then-len g c =
    let s = c.args.self in
    let e = g.C.Block.enc s.stream.cipher in
    let held = held_of s.buffer in
    let text = c.through.ensures ∙ ap (counted e s.stream.counter) (rest_held _ _ held c.len-count.ensures.value c.block.ensures.value) in
    let sum = with_rest _ _ _ c.block.result.now c.through.new.text c.saturating_add-len.ensures c.through.auto.text c.block.ensures.len c.len-count.ensures.within in (
      ends_over s.stream.key s.stream.mask s.stream.aad_bits s.stream.hash s.len c.saturating_add-len.result (counted e s.stream.counter (held ++ []))
          c.through.new.text text sum c.if-len.true,
      refl,
    )

pub returns : goal.returns
returns g c =
    let s = c.args.self in
    let e = g.C.Block.enc s.stream.cipher in
    let held = held_of s.buffer in
    let text = c.through.ensures ∙ ap (counted e s.stream.counter) (rest_held _ _ held c.len-count.ensures.value c.block.ensures.value) in
    let sum = with_rest _ _ _ c.block.result.now c.through.new.text c.saturating_add-len.ensures c.through.auto.text c.block.ensures.len c.len-count.ensures.within in
    let old = c.append_within.ensures.items ∙ ap (λ (x : List ℕ). x ++ c.through.new.text) c.reserve.ensures.items in
    ends_well s.stream.key s.stream.mask s.stream.aad_bits s.stream.hash s.len c.saturating_add-len.result (counted e s.stream.counter (held ++ []))
    c.through.new.text text sum c.args.out.now.items c.tag-tag.result _ (omega (arith, c.if-len.false)) c.tag-tag.ensures
    (c.append_within-2.ensures.items ∙ ap (λ (x : List ℕ). x ++ c.tag-tag.result) old)
