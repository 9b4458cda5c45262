use Rattle.std.proofs.Common.{◌≡◌, ◌≤◌, ◌∙◌, ℕ, List, ◌+◌, ◌*◌, ◌-◌, ◌/◌, ◌%◌, ◌++◌, length, take, drop, sym, ap, subst, arith}
use Rattle.std.proofs.lemmas.List.{length-take-le, take_rest}
use Rattle.rand_core.specs.Steps.{fill_via_u32}
use Rattle.rand_chacha.specs.ChaCha.{next_word}
use Rattle.ossl_chacha.specs.KeyStream.{ChaChaState, blocks_of, stream_len, text_from, xored}
use Rattle.ossl_chacha.specs.Generator.{generator_at}
use Rattle.ossl_chacha.proofs.Refill.{blocks_at, drawn, in_step_drawn}
use Rattle.ossl_chacha.proofs.Texts.{xored-blocks}
use Rattle.ossl_chacha.proofs.chacha.ChaCha.crypt_drawn.Goals as goal

-- the stream stands at a block
at_block : (c : goal.After-self-1) → c.self.inside.used % 64 ≡ 0
at_block c = let P : ChaChaState → Type 0 = λ v. v.used % 64 ≡ 0 in subst P (sym c.self.view_is) c.requires.at_block

-- the text fits into what is left of the key stream
room : (c : goal.After-self-1) → c.self.inside.used + length c.args.text.now ≤ stream_len c.self.inside.iv
room c =
    let P : ChaChaState → Type 0 = λ v. v.used + length c.args.text.now ≤ stream_len v.iv in
    subst P (sym c.self.view_is) c.requires.fits

-- what is drawn is the next blocks
blocks : (c : goal.After-self-1)
    → (c.fill_bytes_via_u32.new.dst ≡ blocks_at c.self.inside.key c.self.inside.iv (c.self.inside.used / 64) (c.drawn_len-size.result / 64))
    × (c.fill_bytes_via_u32.new.rng ≡ generator_at c.self.inside.key c.self.inside.iv (c.self.inside.used / 64 + c.drawn_len-size.result / 64))
blocks c =
    let s = c.self.inside in
    let size = c.drawn_len-size.result in
    let whole : size ≡ 64 * (size / 64) = omega (arith, c.drawn_len-size.ensures.whole) in
    let left : s.used / 64 + size / 64 ≤ blocks_of s.iv =
    omega (arith, at_block c, room c, c.requires.some, c.drawn_len-size.ensures.whole, c.drawn_len-size.ensures.some, c.drawn_len-size.ensures.fits) in
    let place : (s.used + 63) / 64 ≡ s.used / 64 = omega (arith, at_block c) in
    let filled = c.fill_bytes_via_u32.ensures ∙ ap (λ (n : ℕ). fill_via_u32 (next_word 10) n s.generator) (length-take-le size c.args.room.now (omega (arith, c.drawn_len-size.ensures.within))) in
    drawn s.key s.iv _ s.generator _ (s.used / 64) (size / 64) size whole left c.self.invariant.words_are
    (c.self.invariant.place ∙ ap (generator_at s.key s.iv) place) filled

pub invariant_of-self : goal.invariant_of-self
invariant_of-self c =
    let s = c.self.inside in
    let size = c.drawn_len-size.result in
    let fits = room c in
    let start : size - 64 ≡ 64 * (size / 64) - 64 = omega (arith, c.drawn_len-size.ensures.whole) in
    let kept : c.copy_from_slice.new.self ≡ drop (64 * (size / 64) - 64) c.fill_bytes_via_u32.new.dst =
    c.copy_from_slice.ensures.after ∙ take_rest c.fill_bytes_via_u32.new.dst (size - 64) ∙ ap (λ (n : ℕ). drop n c.fill_bytes_via_u32.new.dst) start in
    in_step_drawn s.key s.iv _ c.fill_bytes_via_u32.new.dst s.used c.min-count.result (size / 64) _ c.self.invariant.words_are (at_block c)
    (blocks c).0 (blocks c).1 kept (omega arith) (omega (arith, c.drawn_len-size.ensures.whole)) (λ more. omega (arith, more, c.drawn_len-size.ensures.whole, c.drawn_len-size.ensures.fits)) (omega arith)

pub returns-clause-text : goal.returns-clause-text
returns-clause-text c =
    let s = c.self.inside in
    let count = c.min-count.result in
    let text = take count c.args.text.now in
    let size : length text ≡ count = length-take-le count c.args.text.now (omega arith) in
    let place : 64 * (s.used / 64) ≡ s.used = omega (arith, at_block c) in
    ap (λ (t : List ℕ). t ++ drop count c.args.text.now)
    (c.xor.ensures
    ∙ ap (xored text) (blocks c).0
    ∙ xored-blocks s.key s.iv text (s.used / 64) (c.drawn_len-size.result / 64) (omega (arith, size, c.drawn_len-size.ensures.whole))
    ∙ ap (λ (p : ℕ). text_from s.key s.iv p text) place
    ∙ ap (λ (v : ChaChaState). text_from v.key v.iv v.used text) c.self.view_is)
