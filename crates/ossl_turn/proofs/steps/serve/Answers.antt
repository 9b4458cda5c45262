use Rattle.std.proofs.Common.{rules, ◌<◌, arith}
use Rattle.ossl_turn.proofs.Keeps.{serves}
use Rattle.ossl_turn.proofs.steps.serve.Goals as goal

pub fetch_add-requires : goal.fetch_add-requires
fetch_add-requires g c = let (k, h, e, o, out, live, turn, longer, by, fixed, seen, next) = c.requires.answer in let one : 0 < c.args.table.now.table_id.slots = omega (arith, c.requires.table.2) in
    (search rules, search rules, serves _ _ _ _ _ _ _ o k h e one out live turn longer by fixed seen next)

pub returns-clause-served : goal.returns-clause-served
returns-clause-served g c = let a = c.requires.answer in (a.3, a.4, c.fetch_add.ensures.2 a.3 a.4)
