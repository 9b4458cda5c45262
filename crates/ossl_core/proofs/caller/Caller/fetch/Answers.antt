use Rattle.std.proofs.Common.{refl, eq-eqb}
use Rattle.ossl_core.proofs.Laws.{handed, gained-fetch}
use Rattle.ossl_core.proofs.caller.Caller.fetch.Goals as goal

pub returns-in-Fetched-clause-fetched : goal.returns-in-Fetched-clause-fetched
returns-in-Fetched-clause-fetched g c = let e = c.in_ok-reply.ensures in let a = c.in-Fetched in (
  a.instance,
  a.row,
  handed _ _ _ _ _ _ a.number _ a.is e.answered e.owned e.fresh (eq-eqb a.number a.number refl)
      (gained-fetch c.args.self.now.number c.args.lib c.args.op c.args.name c.args.query
      a.number a.provider a.instance a.row a.code),
)
