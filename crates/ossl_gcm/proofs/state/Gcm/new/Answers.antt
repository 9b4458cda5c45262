use Rattle.std.proofs.Common.{sym, ◌∙◌}
use Rattle.ossl_gcm.specs.Gcm.{gcm}
use Rattle.ossl_gcm.specs.Outcome.{early}
use Rattle.ossl_gcm.proofs.Starts.{opened_start, ciphertext_start, sealed_start}
use Rattle.ossl_gcm.proofs.state.Gcm.new.Goals as goal

pub returns-then-decrypt-clause-outcome : goal.returns-then-decrypt-clause-outcome
returns-then-decrypt-clause-outcome g c = λ bytes.
    let cipher = c.args.cipher in
    opened_start g.C.Block.enc cipher c.args.iv.now c.args.aad.now c.new.result.stream _ bytes (c.new.ensures.stream ∙ c.start-stream.ensures) c.new.ensures.none
    ∙ sym (λ i. gcm (g.C.Block.enc cipher) c.args.iv.now c.args.aad.now (c.if-decrypt.true i) bytes)

pub returns-else-decrypt-clause-outcome : goal.returns-else-decrypt-clause-outcome
returns-else-decrypt-clause-outcome g c = λ bytes.
    let cipher = c.args.cipher in
    sealed_start g.C.Block.enc cipher c.args.iv.now c.args.aad.now c.new-else-decrypt.result bytes (c.new-else-decrypt.ensures.stream ∙ c.start-stream.ensures)
    c.new-else-decrypt.ensures.none c.new-else-decrypt.ensures.len
    ∙ sym (λ i. gcm (g.C.Block.enc cipher) c.args.iv.now c.args.aad.now (c.if-decrypt.false i) bytes)

pub returns-else-decrypt-clause-early : goal.returns-else-decrypt-clause-early
returns-else-decrypt-clause-early g c = λ bytes.
    let cipher = c.args.cipher in
    ciphertext_start g.C.Block.enc cipher c.args.iv.now c.args.aad.now c.new-else-decrypt.result bytes (c.new-else-decrypt.ensures.stream ∙ c.start-stream.ensures)
    c.new-else-decrypt.ensures.none
    ∙ sym (λ i. early (g.C.Block.enc cipher) c.args.iv.now (c.if-decrypt.false i) bytes)
