use Rattle.std.proofs.Common.{ℕ, List, ◌++◌, sym, ap, ◌∙◌}
use Rattle.ossl_speed.specs.Values.{last}
use Rattle.ossl_speed.proofs.Texts.{last-last, on_ok}
use Rattle.ossl_speed.proofs.cipher.SealingIntake.take_piece.Goals as goal

pub returns : goal.returns
returns g c =
    on_ok c.crypt.result
    (λ given rest.
    let text = g.C.Cipher.text c.args.self.now.cipher (c.args.bytes.now ++ rest) in
    sym {A = List ℕ} (last-last 64 c.args.self.now.out.items text)
    ∙ ap (λ (kept : List ℕ). last 64 (kept ++ text)) (sym c.keep_last.ensures)
    ∙ ap (last 64) (given rest))
    c.crypt.ensures.text
