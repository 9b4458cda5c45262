use Rattle.std.proofs.Common.{ap, map}
use Rattle.ossl_run.proofs.EndLaws.{refused_ends}
use Rattle.ossl_run.proofs.top_call.refuse.Goals as goal

pub returns-clause-ends : goal.returns-clause-ends
returns-clause-ends g c inputs due =
    refused_ends inputs _ _ c.untouched.result.status c.untouched.result.history.items c.untouched.result.callers.items
    c.args.error.now c.error_answer.result c.send-status.result due
    c.error_answer.ensures.status c.error_answer.ensures.text
    (record {
      no_entry = c.untouched.ensures.history;
      no_caller = c.untouched.ensures.callers;
      as_came = ap (map g.P.Provider.sheet) c.untouched.ensures.catalogue;
    })
    c.untouched.ensures.status c.send-status.ensures.sent
