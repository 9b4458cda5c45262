use Rattle.std.proofs.lemmas.Result.{on_ok_weaker}
use Rattle.ossl_op.proofs.WorkLaws.{at_end_beginning, at_end_finished, on_err, same_text}
use Rattle.ossl_op.proofs.at_end.CmacAlgorithm.finish.Goals as goal

pub returns-clause-accepted : goal.returns-clause-accepted
returns-clause-accepted g c = on_ok_weaker c.append.result
    (λ appended. λ work text given was. at_end_finished work _ c.code.result text was c.code.ensures
    (same_text _ _ _ text appended given))
    c.append.ensures.appended

pub returns-clause-beginning : goal.returns-clause-beginning
returns-clause-beginning g c = on_err c.append.result (λ work was. at_end_beginning work _ was)
