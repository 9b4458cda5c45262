use Rattle.std.proofs.Common.{◌≡◌, ◌∙◌, ◌++◌, ◌+◌, ◌-◌, length, take, min, sym, ap, arith, rules}
use Rattle.ossl_chacha.specs.KeyStream.{ChaChaState, text_from, stream_len, text_of}
use Rattle.ossl_chacha.proofs.Texts.{text_from-rest}
use Rattle.ossl_chacha.proofs.chacha.ChaCha.feed.Goals as goal
use Rattle.ossl_chacha.proofs.chacha.ChaCha.feed.Goals.{then-is_longer, else-is_longer}

pub returns-clause-goes_on : goal.returns-clause-goes_on
returns-clause-goes_on c = λ rest.
    let s = c.args.self.now in
    let left = stream_len s.iv - s.used in
    let count : c.if-is_longer.count ≡ min left (length c.args.bytes.now) =
    elim c.if-is_longer.branch [ then-is_longer w ↦ omega arith | else-is_longer w ↦ omega arith ] in
    let size : length c.slice_mut.result.now ≡ c.if-is_longer.count = search rules in
    let after : stream_len s.iv - s.used - c.if-is_longer.count ≡ stream_len s.iv - (s.used + length c.slice_mut.result.now) = omega arith in
    text_from-rest s.key s.iv c.args.bytes.now rest s.used left c.if-is_longer.count count
    ∙ (λ i. text_of s c.args.bytes.now ++ text_from s.key s.iv (s.used + sym size i) (take (after i) rest))
    ∙ ap (λ (v : ChaChaState). text_of s c.args.bytes.now ++ text_from v.key v.iv v.used (take (stream_len v.iv - v.used) rest))
    (sym (c.self.view_is ∙ c.crypt.ensures.used))
