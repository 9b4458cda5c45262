use Rattle.std.proofs.Common.{◌-◌, ◌*◌, ◌/◌, bit_xor, arith, ap, ◌∙◌}
use Rattle.ossl_aes.specs.Cipher.{sub_word}
use Rattle.ossl_aes.proofs.TableFacts.{constant_at}
use Rattle.ossl_aes.proofs.schedule.temp_word.Goals as goal

pub returns-then-i-nk-eq0 : goal.returns-then-i-nk-eq0
returns-then-i-nk-eq0 c =
    let constant = constant_at (c.args.i / c.args.nk - 1) (omega arith) in
    let word = c.sub_word.ensures ∙ ap sub_word c.rotate_left.ensures in
    rw c.if-i-nk-eq0.true (λ j. bit_xor (word j) (constant j * 16777216))
