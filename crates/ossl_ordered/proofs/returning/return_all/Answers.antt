use Rattle.std.proofs.Common.{◌≡◌, ◌<◌, length, get_or, ◌∙◌, arith}
use Rattle.std.proofs.lemmas.List.{get_or-set_other}
use Rattle.ossl_ordered.proofs.ReturnLaws.{as_it_was, kept_set, returned_all, returned_more, still_work}
use Rattle.ossl_ordered.proofs.returning.return_all.Goals as goal

pub return_held-requires-clause-giving : goal.return_held-requires-clause-giving
return_held-requires-clause-giving g c =
    let contexts = c.args.desk.now.contexts in
    let start = c.args.desk.now.entries in
    let players = c.args.players.now in
    let n = c.loop-place.place in
    let r = c.index-players-place.result in
    let player = get_or c.loop-place.players n r in
    let working = c.requires.working in
    let here : n < length players = c.loop-place-test.true in
    let same : player ≡ get_or players n player = as_it_was players c.loop-place.players n r here (c.loop-place.invariant.rest n r (omega arith) here) in
    still_work working.0 contexts working.1 working.2 start c.loop-place.desk.entries players working.3 n (c.loop-place.invariant.returned working.0 working.1 working.2 working.3) player here same

pub loop-place-preserved : goal.loop-place-preserved
loop-place-preserved g c =
    let contexts = c.args.desk.now.contexts in
    let start = c.args.desk.now.entries in
    let players = c.args.players.now in
    let now = c.loop-place.players in
    let n = c.loop-place.place in
    let r = c.index-players-place.result in
    let player = get_or now n r in
    let new = c.return_held.new.player in
    let here : n < length players = c.loop-place-test.true in
    let was : get_or now n r ≡ get_or players n r = c.loop-place.invariant.rest n r (omega arith) here in
    let same : player ≡ get_or players n player = as_it_was players now n r here was in
    let back = c.return_held.ensures.returned in
    record {
      returned = λ batch opening turns at.
          returned_more batch contexts opening turns start c.loop-place.desk.entries players at n (c.loop-place.invariant.returned batch opening turns at) player here same
          c.return_held.new.desk.entries back.0 back.1 back.2;
      rest = λ k other from below.
          let apart : k ≡ n → ⊥ = λ is. absurd (omega (arith, from, is)) in
          get_or-set_other now n k new other apart ∙ c.loop-place.invariant.rest k other (omega (arith, from)) below;
      kept = kept_set players now n r new here was c.return_held.ensures.kept c.loop-place.invariant.kept;
      legal = c.return_held.ensures.legal;
      fixed = c.return_held.ensures.fixed ∙ c.loop-place.invariant.fixed;
    }

pub returns-clause-returned : goal.returns-clause-returned
returns-clause-returned g c batch opening turns at =
    let contexts = c.args.desk.now.contexts in
    returned_all batch contexts opening turns c.args.desk.now.entries c.loop-place.desk.entries c.args.players.now at c.loop-place.place (c.loop-place.invariant.returned batch opening turns at)
    (omega (arith, c.loop-place-test.false))
