use Rattle.std.proofs.Common.{◌≡◌, ◌≤◌, ◌<◌, ◌∙◌, ℕ, List, ◌+◌, ◌*◌, ◌-◌, ◌/◌, ◌%◌, ◌++◌, length, take, drop, sym, ap, subst, arith}
use Rattle.std.proofs.lemmas.List.{take_all, length-take-le, length-drop}
use Rattle.ossl_chacha.specs.KeyStream.{ChaChaState, block_at, stream_len, text_from, xored}
use Rattle.ossl_chacha.specs.Generator.{generator_at}
use Rattle.ossl_chacha.proofs.Refill.{in_step_after, length-block_at}
use Rattle.ossl_chacha.proofs.Texts.{xored-block}
use Rattle.ossl_chacha.proofs.chacha.ChaCha.crypt_held.Goals as goal

-- a block is used in part
in_block : (c : goal.After-self-1) → 0 < c.self.inside.used % 64
in_block c = let P : ChaChaState → Type 0 = λ v. 0 < v.used % 64 in subst P (sym c.self.view_is) c.requires.in_block

-- the text fits into what is left of the key stream
room : (c : goal.After-self-1) → c.self.inside.used + length c.args.text.now ≤ stream_len c.self.inside.iv
room c =
    let P : ChaChaState → Type 0 = λ v. v.used + length c.args.text.now ≤ stream_len v.iv in
    subst P (sym c.self.view_is) c.requires.fits

pub invariant_of-self : goal.invariant_of-self
invariant_of-self c =
    let s = c.self.inside in
    let fits = room c in
    let drawn : (s.used + 63) / 64 ≡ s.used / 64 + 1 = omega (arith, in_block c) in
    in_step_after s.key s.iv s.held s.used c.min-count.result _ c.self.invariant.words_are (c.self.invariant.current (in_block c))
    (c.self.invariant.place ∙ ap (generator_at s.key s.iv) drawn) (omega arith) (omega arith) (omega arith)

pub returns-clause-text : goal.returns-clause-text
returns-clause-text c =
    let s = c.self.inside in
    let count = c.min-count.result in
    let text = take count c.args.text.now in
    let size : length text ≡ count = length-take-le count c.args.text.now (omega arith) in
    let at = s.used % 64 in
    let block = block_at s.key s.iv (s.used / 64) in
    let whole : 64 * (s.used / 64) + s.used % 64 ≡ s.used = omega arith in
    ap (λ (t : List ℕ). t ++ drop count c.args.text.now)
    (c.xor.ensures
    ∙ ap (λ (held : List ℕ). xored text (take (64 - at) (drop at held))) (c.self.invariant.current (in_block c))
    ∙ ap (xored text) (take_all (64 - at) (drop at block) (omega (arith, length-drop at block, length-block_at s.key s.iv (s.used / 64))))
    ∙ xored-block s.key s.iv text (s.used / 64) at s.used (length-block_at s.key s.iv (s.used / 64)) (sym whole) (omega arith)
    ∙ ap (λ (v : ChaChaState). text_from v.key v.iv v.used text) c.self.view_is)
