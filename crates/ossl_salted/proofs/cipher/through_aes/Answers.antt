use Rattle.std.proofs.Common.{◌≡◌, ◌+◌, ◌∙◌, List, ℕ, true, ap}
use Rattle.ossl_aes.specs.Cipher.{cipher, inv_cipher, encrypted, decrypted}
use Rattle.ossl_modes.specs.declared.kinds.ModeKind.TheVariants.{Cbc}
use Rattle.ossl_modes.specs.Modes.{outcome, whole_blocks}
use Rattle.ossl_modes.specs.Run.{outcome_of, whole_blocks_of}
use Rattle.ossl_salted.specs.Course.{limited}
use Rattle.ossl_salted.specs.Ends.{status_of}
use Rattle.ossl_salted.specs.Flow.{cbc_due, mode_due, status_with, text_with}
use Rattle.ossl_salted.proofs.Courses.{runs_by}
use Rattle.ossl_salted.proofs.cipher.through_aes.Goals as goal

pub returns : goal.returns
returns g c =
    let nk = g.row.NK in
    let key = c.args.key.now in
    let way = c.args.way in
    let mode = c.new-mode.result in
    let due = mode_due mode way.head.items way.room in
    let said = cbc_due (encrypted nk key) (decrypted nk key) way.decrypt c.args.iv way.head.items way.room in
    let same : (input : List ℕ) → due input ≡ said input = λ input.
    let text : outcome_of mode input ≡ outcome (encrypted nk key) (decrypted nk key) Cbc way.decrypt true c.args.iv input =
    c.new-mode.ensures.text input
    ∙ ap (λ (ws : List ℕ). outcome (cipher ws (nk + 6)) (inv_cipher ws (nk + 6)) Cbc way.decrypt true c.args.iv input) c.expand-cipher.ensures in
    let whole : whole_blocks_of mode input ≡ whole_blocks (encrypted nk key) (decrypted nk key) Cbc way.decrypt c.args.iv input =
    c.new-mode.ensures.unchecked input
    ∙ ap (λ (ws : List ℕ). whole_blocks (cipher ws (nk + 6)) (inv_cipher ws (nk + 6)) Cbc way.decrypt c.args.iv input) c.expand-cipher.ensures in
    λ i. record { status = limited way.room input (status_with (text i)); text = text_with way.head.items (text i) (whole i) } in
    runs_by due said (status_of c.stream.result) _ _ same c.stream.ensures
