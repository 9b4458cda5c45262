use Rattle.std.proofs.Common.{ap, ◌∙◌}
use Rattle.ossl_digests.specs.Md4.{added, round_1, round_2, round_3, compress}
use Rattle.ossl_digests.proofs.rounds.compress.Goals as goal

pub returns : goal.returns
unfolding compress
returns c =
    let h = c.args.registers.now in
    let x = c.block_words-x.result in
    ap (added h) (c.round_3-v.ensures ∙ ap (round_3 x) (c.round_2.ensures ∙ ap (round_2 x) c.round_1.ensures)
    ∙ ap (λ x. round_3 x (round_2 x (round_1 x h))) c.block_words-x.ensures)
