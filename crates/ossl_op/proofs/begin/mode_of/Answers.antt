use Rattle.std.proofs.Common.{ℕ, ◌+◌, ◌*◌, List, ap, ◌∙◌}
use Rattle.ossl_aes.specs.Cipher.{cipher, decrypted, encrypted, inv_cipher, schedule}
use Rattle.ossl_modes.specs.Modes.{outcome, whole_blocks}
use Rattle.ossl_op.specs.Begins.{bytes_of}
use Rattle.ossl_op.specs.Standard.{is_decrypt}
use Rattle.ossl_op.proofs.BeginLaws.{blocks-iv, outcome-iv}
use Rattle.ossl_op.proofs.begin.mode_of.Goals as goal

pub returns-clause-text : goal.returns-clause-text
returns-clause-text g c = λ bytes.
    let nk = g.row.NK in
    let params = c.args.params.now in
    let words = c.expand-cipher.ensures ∙ ap (λ (key : List ℕ). schedule nk key (3 * nk + 28)) c.bytes_of.ensures in
    c.new.ensures.text bytes
    ∙ (λ i. outcome (λ block. cipher (words i) (nk + 6) block) (λ block. inv_cipher (words i) (nk + 6) block)
    (c.kind_of.ensures i) (c.is_decrypt-decrypt.ensures i) params.pad c.initial_value-iv.result bytes)
    ∙ outcome-iv (encrypted nk (bytes_of params.key)) (decrypted nk (bytes_of params.key)) c.args.mode
    (is_decrypt params.direction) _ _ _ bytes
    c.initial_value-iv.ensures c.bytes_of-2.ensures params.pad

pub returns-clause-unchecked : goal.returns-clause-unchecked
returns-clause-unchecked g c = λ bytes.
    let nk = g.row.NK in
    let params = c.args.params.now in
    let words = c.expand-cipher.ensures ∙ ap (λ (key : List ℕ). schedule nk key (3 * nk + 28)) c.bytes_of.ensures in
    c.new.ensures.unchecked bytes
    ∙ (λ i. whole_blocks (λ block. cipher (words i) (nk + 6) block) (λ block. inv_cipher (words i) (nk + 6) block)
    (c.kind_of.ensures i) (c.is_decrypt-decrypt.ensures i) c.initial_value-iv.result bytes)
    ∙ blocks-iv (encrypted nk (bytes_of params.key)) (decrypted nk (bytes_of params.key)) c.args.mode
    (is_decrypt params.direction) _ _ _ bytes
    c.initial_value-iv.ensures c.bytes_of-2.ensures
