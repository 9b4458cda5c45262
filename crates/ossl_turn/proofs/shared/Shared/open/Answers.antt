use Rattle.std.proofs.Common.{sym, ap, subst, ◌∙◌}
use Rattle.ossl_turn.specs.History.{IsHistory, own_of}
use Rattle.ossl_turn.proofs.Lists.{no_history}
use Rattle.ossl_turn.proofs.shared.Shared.open.Goals as goal

pub resume-requires-clause-lawful : goal.resume-requires-clause-lawful
resume-requires-clause-lawful g c κs within =
    subst (IsHistory (g.O.Object.follows (g.O.Object.fixed c.args.object))) (sym c.requires) (no_history (g.O.Object.follows (g.O.Object.fixed c.args.object)))

pub resume-requires-clause-own : goal.resume-requires-clause-own
resume-requires-clause-own g c κs within = ap (own_of 0) c.requires ∙ sym c.requires
