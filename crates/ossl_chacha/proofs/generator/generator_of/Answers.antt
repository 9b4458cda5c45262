use Rattle.std.proofs.Common.{◌≡◌, ℕ, ◌+◌, ◌*◌, ◌%◌, ◌<◌, ◌^◌, List, subst, sym, ap, ◌∙◌, arith}
use Rattle.rand_core.specs.Steps.{u32_at}
use Rattle.rand_chacha.specs.ChaCha.{ChaCha, key_of}
use Rattle.ossl_chacha.specs.KeyStream.{counter_of}
use Rattle.ossl_chacha.specs.Generator.{GivesKeyStream, generator_at}
use Rattle.ossl_chacha.proofs.Rounds.{gives}
use Rattle.ossl_chacha.proofs.generator.generator_of.Goals as goal

place_of : (c : goal.After-set_word_pos) → c.set_word_pos.new.self ≡ generator_at c.args.key c.args.iv 0
place_of c =
    let key : c.set_stream.new.self.key ≡ key_of c.args.key =
    ap (λ (g : ChaCha). g.key) c.set_stream.ensures ∙ ap (λ (g : ChaCha). g.key) c.from_seed-generator.ensures in
    let wide : c.from-3.result + c.from-4.result * 2 ^ 32 % 2 ^ 64 ≡ u32_at c.args.iv 2 + u32_at c.args.iv 3 * 2 ^ 32 = omega arith in
    let stream : c.set_stream.new.self.stream ≡ u32_at c.args.iv 2 + u32_at c.args.iv 3 * 2 ^ 32 =
    ap (λ (g : ChaCha). g.stream) c.set_stream.ensures ∙ wide in
    let pos : c.from-5.result * 16 % 2 ^ 68 ≡ 16 * (counter_of c.args.iv + 0 + u32_at c.args.iv 1 * 2 ^ 32) % 2 ^ 68 = omega arith in
    let now : ℕ → List ℕ → ℕ → ChaCha = λ s k p. record { key = k; stream = s; word_pos = p } in
    c.set_word_pos.ensures ∙ (λ i. now (stream i) (key i) (pos i))

pub returns-clause-words : goal.returns-clause-words
returns-clause-words c =
    let b0 : u32_at c.args.iv 0 < 2 ^ 32 = omega arith in
    let b1 : u32_at c.args.iv 1 < 2 ^ 32 = omega arith in
    let b2 : u32_at c.args.iv 2 < 2 ^ 32 = omega arith in
    let b3 : u32_at c.args.iv 3 < 2 ^ 32 = omega arith in
    let P : ChaCha → Type 0 = GivesKeyStream c.args.key c.args.iv in
    subst P (sym (place_of c)) (gives c.args.key c.args.iv b0 b1 b2 b3)
