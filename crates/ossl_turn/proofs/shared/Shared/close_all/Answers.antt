use Rattle.ossl_turn.specs.Passes.{Confirms}
use Rattle.ossl_turn.proofs.AllBack.{all_back_at, parts}
use Rattle.ossl_turn.proofs.shared.Shared.close_all.Goals as goal

pub close-requires-clause-all : goal.close-requires-clause-all
close-requires-clause-all g c κs within =
    all_back_at c.args.first c.args.passes.items _ c.push_reserved.ensures.items c.requires.others.1 c.requires.first.1 c.requires.first.2

pub returns-clause-confirms_first : goal.returns-clause-confirms_first
returns-clause-confirms_first g c =
    (parts c.args.first c.args.passes.items (Confirms (g.O.Object.history c.close.result)) _ c.push_reserved.ensures.items
    c.close.ensures.confirmed).0

pub returns-clause-confirms_others : goal.returns-clause-confirms_others
returns-clause-confirms_others g c =
    (parts c.args.first c.args.passes.items (Confirms (g.O.Object.history c.close.result)) _ c.push_reserved.ensures.items
    c.close.ensures.confirmed).1
