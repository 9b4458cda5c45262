use Rattle.std.proofs.Common.{[], inr, sym, ◌∙◌}
use Rattle.ossl_chacha.specs.KeyStream.{text_of}
use Rattle.ossl_op.proofs.WorkLaws.{no_text, unchecked-whole}
use Rattle.ossl_op.proofs.PieceLaws.{chacha_finished, chacha_refused}
use Rattle.ossl_op.proofs.in_pieces.ChaChaAlgorithm.finish.Goals as goal

pub returns-in-Ok-clause-accepted : goal.returns-in-Ok-clause-accepted
returns-in-Ok-clause-accepted c = λ work text same was.
    chacha_finished c.args.self work text (sym c.finish.ensures
    ∙ c.in-Ok.is) (no_text c.args._out.now.items text same) was

pub returns-in-Err-clause-refused : goal.returns-in-Err-clause-refused
returns-in-Err-clause-refused c = λ work was.
    inr (chacha_refused c.args.self work c.in-Err.end (sym c.finish.ensures ∙ c.in-Err.is) was)

pub returns-in-Err-clause-beginning : goal.returns-in-Err-clause-beginning
returns-in-Err-clause-beginning c =
    λ work was. (text_of c.args.self [], sym (was.unchecked_is []) ∙ sym (unchecked-whole work))
