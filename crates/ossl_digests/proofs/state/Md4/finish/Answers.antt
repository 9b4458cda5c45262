use Rattle.ossl_digests.proofs.Blocks.{finished}
use Rattle.ossl_digests.proofs.state.Md4.finish.Goals as goal

pub returns : goal.returns
returns c =
    finished c.args.self c.feed.new.self _ _ _ _ _ c.feed.ensures.gives c.feed.ensures.counted c.len.ensures.value c.front_len-front.ensures.value
    c.padding_with-padding.ensures c.to_le_bytes-bits.ensures c.output.ensures
