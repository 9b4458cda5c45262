use Rattle.std.proofs.Common.{ap, sym, ◌∙◌}
use Rattle.std.proofs.lemmas.List.{append-nil}
use Rattle.std.proofs.lemmas.Result.{on_ok_weaker}
use Rattle.ossl_hmac.specs.Hmac.{hmac}
use Rattle.ossl_op.proofs.WorkLaws.{at_end_beginning, at_end_finished, on_err, same_text}
use Rattle.ossl_op.proofs.at_end.HmacAlgorithm.finish.Goals as goal

pub returns-clause-accepted : goal.returns-clause-accepted
returns-clause-accepted c = on_ok_weaker c.append.result
    (λ appended. λ work text given was. at_end_finished work _ c.as_slice.result.now text was.at_end
    (c.as_slice.ensures.value ∙ c.finish.ensures.code was.hash was.key work.fed was.holds
    ∙ ap (hmac was.hash was.key) (sym (append-nil work.fed)))
    (same_text _ _ _ text appended given))
    c.append.ensures.appended

pub returns-clause-beginning : goal.returns-clause-beginning
returns-clause-beginning c = on_err c.append.result (λ work was. at_end_beginning work _ was.at_end)
