use Rattle.std.proofs.Common.{◌+◌, ◌∙◌, ap, arith}
use Rattle.ossl_aes.specs.Cipher.{cipher, inv_cipher}
use Rattle.ossl_aes.proofs.Undoing.{block_from_reads, cipher_is_undone}
use Rattle.ossl_aes.proofs.inverse.there_and_back.Goals as goal

pub returns-clause-back : goal.returns-clause-back
returns-clause-back g c =
    let ws = c.args.cipher.now in
    let nr = g.row.NK + 6 in
    let block = block_from_reads c.args.block.now c.requires (λ i. (c.type_inv.block i).fits) in
    c.decrypt.ensures ∙ ap (inv_cipher ws nr) (c.encrypt.ensures ∙ ap (cipher ws nr) c.copy_from_slice.ensures.after)
    ∙ (cipher_is_undone ws nr (omega arith) c.args.block.now block).1

pub returns-clause-law : goal.returns-clause-law
returns-clause-law g c = λ nk key. cipher_is_undone _ (nk + 6) (omega arith)
