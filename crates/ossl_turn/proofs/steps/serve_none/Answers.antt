use Rattle.std.proofs.Common.{rules, ◌<◌, arith}
use Rattle.ossl_turn.proofs.Keeps.{serves_none}
use Rattle.ossl_turn.proofs.steps.serve_none.Goals as goal

pub fetch_add-requires : goal.fetch_add-requires
fetch_add-requires g c = let (k, h, o, out, live, turn, same, fixed) = c.requires.no_answer in let one : 0 < c.args.table.now.table_id.slots = omega (arith, c.requires.table.2) in
    (search rules, search rules, serves_none _ _ _ _ _ _ _ o k h one out live turn same fixed)
