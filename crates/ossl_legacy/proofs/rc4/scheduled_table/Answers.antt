use Rattle.std.proofs.Common.{rules, ◌∙◌, ℕ, List, length, ap, arith}
use Rattle.ossl_legacy.specs.Rc4State.{scheduled}
use Rattle.ossl_legacy.proofs.Streams.{place_more, scheduled_more}
use Rattle.ossl_legacy.proofs.rc4.scheduled_table.Goals as goal

pub loop-i-init : goal.loop-i-init
unfolding scheduled
loop-i-init c = record {
  size = search rules;
  place = omega arith;
  turns = ap (λ (x : List ℕ). (x, 0)) c.ordered_table-table.ensures;
}

pub loop-i-preserved : goal.loop-i-preserved
loop-i-preserved c =
    let l = c.loop-i in record {
      size = search rules;
      place = c.next_place-at.ensures ∙ place_more l.i l.at (length c.args.key.now) l.invariant.place;
      turns = scheduled_more c.args.key.now l.table _ l.i l.j l.at l.invariant.place l.invariant.turns c.swap.ensures.after;
    }
