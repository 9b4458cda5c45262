use Rattle.std.proofs.Common.{◌≡◌, length, arith, ap, sym, ◌∙◌}
use Rattle.ossl_digests.specs.Digest.{output_len}
use Rattle.ossl_hmac.proofs.Keys.{output_len_bound, Holds-keyed, short_key-long, short_key-short}
use Rattle.ossl_hmac.proofs.hmac.Hmac.new.Goals as goal

pub of_short_key-requires : goal.of_short_key-requires
of_short_key-requires c =
    let hash = c.args.hash in
    let size : length c.finish.result ≡ output_len hash = c.finish.ensures.length hash _ (c.feed.ensures hash _ c.new-digester.ensures) in
    omega (arith, size, ap length c.as_slice.ensures.value, output_len_bound hash)

pub returns-then-key-block_len : goal.returns-then-key-block_len
returns-then-key-block_len c =
    let hash = c.args.hash in
    let is = c.as_slice.ensures.value ∙ c.finish.ensures.digest hash _ (c.feed.ensures hash _ c.new-digester.ensures) in
    Holds-keyed c.of_short_key.result hash c.args.key.now _ (is ∙ sym (short_key-long hash c.args.key.now (omega (arith, c.block_len.ensures))))
    c.of_short_key.ensures.inner c.of_short_key.ensures.outer

pub returns-else-key-block_len : goal.returns-else-key-block_len
returns-else-key-block_len c =
    let hash = c.args.hash in
    Holds-keyed _ hash c.args.key.now _ (sym (short_key-short hash c.args.key.now (omega (arith, c.block_len.ensures))))
    c.of_short_key-else-key-block_len.ensures.inner c.of_short_key-else-key-block_len.ensures.outer
