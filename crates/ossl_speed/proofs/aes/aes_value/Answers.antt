use Rattle.std.proofs.Common.{List, ℕ, ◌+◌, ◌*◌, ◌/◌, if◌then◌else◌, ap, sym, ◌∙◌}
use Rattle.ossl_aes.specs.Cipher.{schedule, cipher, inv_cipher}
use Rattle.ossl_speed.specs.declared.algorithm.AesWork.{AesWork}
use Rattle.ossl_speed.specs.Message.{message}
use Rattle.ossl_speed.specs.Values.{last, aes_value}
use Rattle.ossl_speed.specs.Aes.{repeated, mode_text, gcm_text}
use Rattle.ossl_speed.proofs.Pieces.{length-message}
use Rattle.ossl_speed.proofs.aes.aes_value.Goals as goal

pub returns-in_ok-text-in-Mode : goal.returns-in_ok-text-in-Mode
returns-in_ok-text-in-Mode g c =
    let nk = g.row.NK in
    let m = message c.args.length in
    let words = c.expand-cipher.ensures ∙ ap (λ (key : List ℕ). schedule nk key (3 * nk + 28)) c.front.ensures.value in
    c.in_ok-text-in-Mode.ensures
    ∙ (λ i. last 64 (mode_text (λ block. cipher (words i) (nk + 6) block) (λ block. inv_cipher (words i) (nk + 6) block) c.in-Mode.kind c.in-Mode.decrypt m))
    ∙ ap (λ (work : AesWork). aes_value nk work m) (sym c.in-Mode.is)

pub returns-in-Chain : goal.returns-in-Chain
returns-in-Chain g c =
    let nk = g.row.NK in
    let m = message c.args.length in
    let words = c.expand-cipher.ensures ∙ ap (λ (key : List ℕ). schedule nk key (3 * nk + 28)) c.front.ensures.value in
    c.chained-block.ensures
    ∙ (λ i. repeated (if c.in-Chain.decrypt then (λ block. inv_cipher (words i) (nk + 6) block) else (λ block. cipher (words i) (nk + 6) block)) (sym (length-message c.args.length) i / 16) (c.first_bytes.ensures i))
    ∙ ap (λ (work : AesWork). aes_value nk work m) (sym c.in-Chain.is)

pub returns-in_ok-sealed-in-Gcm : goal.returns-in_ok-sealed-in-Gcm
returns-in_ok-sealed-in-Gcm g c =
    let nk = g.row.NK in
    let m = message c.args.length in
    let words = c.expand-cipher.ensures ∙ ap (λ (key : List ℕ). schedule nk key (3 * nk + 28)) c.front.ensures.value in
    c.in_ok-sealed-in-Gcm.ensures
    ∙ (λ i. last 64 (gcm_text (λ block. cipher (words i) (nk + 6) block) m))
    ∙ ap (λ (work : AesWork). aes_value nk work m) (sym c.in-Gcm.is)
