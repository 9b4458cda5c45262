use Rattle.std.proofs.Common.{get_or, refl, ap}
use Rattle.ossl_calls.specs.Registry.{fixed_of}
use Rattle.ossl_ordered.proofs.TakeLaws.{may_take, on_err, on_ok, runs_err, takes_at}
use Rattle.ossl_ordered.proofs.run.take_turn.Goals as goal

pub go_on-requires-clause-allowed : goal.go_on-requires-clause-allowed
go_on-requires-clause-allowed g c =
    let old = get_or c.args.players.now c.args.place c.index-players-place.result in
    may_take c.args.desk.now.contexts c.args.desk.now.entries c.args.players.now c.args.place c.requires.place old (ap (get_or c.args.players.now c.args.place) c.index-players-place.is) c.requires.ready
    (fixed_of g.P.Provider.facts c.args.desk.now) refl c.requires.legal c.requires.working c.requires.turn

pub returns-clause-ok : goal.returns-clause-ok
returns-clause-ok g c =
    let old = get_or c.args.players.now c.args.place c.index-players-place.result in
    on_ok c.go_on.result _ _
    (takes_at c.args.desk.now.contexts c.args.desk.now.entries c.args.players.now c.args.place c.requires.place old (ap (get_or c.args.players.now c.args.place) c.index-players-place.is) c.requires.ready
    c.go_on.new.desk.entries c.go_on.new.self) c.go_on.ensures.ok

pub returns-clause-err : goal.returns-clause-err
returns-clause-err g c =
    let old = get_or c.args.players.now c.args.place c.index-players-place.result in
    on_err c.go_on.result _ _
    (runs_err c.args.desk.now.contexts c.args.desk.now.entries c.args.players.now c.args.place c.requires.place old (ap (get_or c.args.players.now c.args.place) c.index-players-place.is) c.requires.ready
    c.go_on.new.desk.entries c.go_on.new.self) c.go_on.ensures.err
