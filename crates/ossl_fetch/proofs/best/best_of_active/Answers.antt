use Rattle.std.proofs.Common.{sym, subst}
use Rattle.ossl_fetch.specs.Offered.{AnswersBest}
use Rattle.ossl_fetch.proofs.Agreeing.{answers_best, rising_stand}
use Rattle.ossl_fetch.proofs.best.best_of_active.Goals as goal

pub returns-clause-best : goal.returns-clause-best
returns-clause-best g c =
    subst (AnswersBest c.args.store.now c.args.op c.args.number c.args.query.now) (sym c.best.ensures.best) (answers_best c.args.op c.args.number c.args.store.now c.args.query.now)

pub returns-clause-in_turn : goal.returns-clause-in_turn
returns-clause-in_turn g c = rising_stand
