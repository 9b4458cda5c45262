use Rattle.std.proofs.Common.{replicate, ap, ◌∙◌}
use Rattle.ossl_aes.specs.Cipher.{add}
use Rattle.ossl_gcm.proofs.Counting.{rest_through}
use Rattle.ossl_gcm.proofs.counter.through_rest.Goals as goal

pub returns : goal.returns
returns g c =
    rest_through c.args.rest.now c.copy_from_slice.new.self (replicate 16 0) (g.C.Block.enc c.args.cipher.now c.args.counter) c.xor_blocks-text.result c.copy_from_slice-2.new.self
    c.copy_from_slice.ensures.after (c.xor_blocks-text.ensures ∙ ap (add _) c.encrypt.ensures) c.copy_from_slice-2.ensures.after
