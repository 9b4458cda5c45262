use Rattle.std.proofs.Common.{◌∙◌, ℕ, List, ◌++◌, length, take, drop, sym, ap, arith}
use Rattle.std.proofs.lemmas.List.{append-nil, take_all, drop_all, length-take-le}
use Rattle.ossl_chacha.specs.KeyStream.{xored}
use Rattle.ossl_chacha.proofs.Texts.{xored_more, xored-take, xored-nil}
use Rattle.ossl_chacha.proofs.chacha.xor.Goals as goal

pub loop-i-preserved : goal.loop-i-preserved
loop-i-preserved c =
    let front = take (length c.args.text.now) c.args.stream.now in
    let size = length-take-le (length c.args.text.now) c.args.stream.now c.requires in
    c.loop-i.invariant ∙ xored_more c.loop-i.text front c.loop-i.i (omega arith) (omega arith)

pub returns : goal.returns
returns c =
    let text = c.loop-i.text in
    let i = c.loop-i.i in
    let front = take (length c.args.text.now) c.args.stream.now in
    let whole = take_all i text (omega arith) in
    let none = drop_all i text (omega arith) in
    sym (sym (xored-take c.args.text.now c.args.stream.now)
    ∙ c.loop-i.invariant
    ∙ (λ j. whole j ++ xored (none j) (drop i front))
    ∙ ap (λ (x : List ℕ). text ++ x) (xored-nil (drop i front))
    ∙ append-nil text)
