use Rattle.std.proofs.lemmas.Result.{on_ok_weaker}
use Rattle.ossl_op.proofs.WorkLaws.{at_end_beginning, at_end_finished, on_err, same_text}
use Rattle.ossl_op.proofs.at_end.DerivedAlgorithm.finish.Goals as goal

pub returns-clause-accepted : goal.returns-clause-accepted
returns-clause-accepted c = on_ok_weaker c.append.result
    (λ appended. λ work text given was. at_end_finished work _ c.as_slice.result.now text was c.as_slice.ensures.value
    (same_text _ _ _ text appended given))
    c.append.ensures.appended

pub returns-clause-beginning : goal.returns-clause-beginning
returns-clause-beginning c = on_err c.append.result (λ work was. at_end_beginning work _ was)
