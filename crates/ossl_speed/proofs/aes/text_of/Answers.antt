use Rattle.std.proofs.Common.{◌≡◌, List, ℕ, false, subst, ◌∙◌, IfOk}
use Rattle.ossl_modes.specs.Modes.{outcome, whole_blocks}
use Rattle.ossl_speed.specs.Message.{message}
use Rattle.ossl_speed.specs.Values.{last}
use Rattle.ossl_speed.specs.Streams.{text_of_mode}
use Rattle.ossl_speed.specs.Aes.{text_or, mode_text}
use Rattle.ossl_speed.proofs.aes.text_of.Goals as goal

pub returns : goal.returns
returns g c =
    let e = g.C.Block.enc c.args.cipher in
    let d = g.C.Block.dec c.args.cipher in
    let m = message c.args.length in
    let same : text_of_mode c.new-mode.result m ≡ mode_text e d c.args.kind c.args.decrypt m =
    (λ i. text_or (c.new-mode.ensures.text m i) (c.new-mode.ensures.unchecked m i))
    ∙ (λ i. text_or (outcome e d c.args.kind c.args.decrypt false (c.first_bytes.ensures i) m) (whole_blocks e d c.args.kind c.args.decrypt (c.first_bytes.ensures i) m)) in
    subst (λ (t : List ℕ). IfOk c.end_of_text.result (λ end. end.items ≡ last 64 t)) same c.end_of_text.ensures
