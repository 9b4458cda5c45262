use Rattle.std.proofs.Common.{refl, eq-eqb}
use Rattle.ossl_core.proofs.Laws.{handed, gained-load}
use Rattle.ossl_core.proofs.caller.Caller.load.Goals as goal

pub returns-in-Loaded-clause-loaded : goal.returns-in-Loaded-clause-loaded
returns-in-Loaded-clause-loaded g c = let e = c.in_ok-reply.ensures in let a = c.in-Loaded in (
  a.instance,
  a.skipped,
  handed _ _ _ _ _ _ a.number _ a.is e.answered e.owned e.fresh (eq-eqb a.number a.number refl)
      (gained-load c.args.self.now.number c.args.lib c.args.name c.args.retain a.number a.instance a.skipped),
)
