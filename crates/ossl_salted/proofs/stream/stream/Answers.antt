use Rattle.ossl_salted.specs.Ends.{status_of}
use Rattle.ossl_salted.proofs.Flows.{runs_done, runs_halted}
use Rattle.ossl_salted.proofs.stream.stream.Goals as goal

pub returns-in-Ok : goal.returns-in-Ok
returns-in-Ok g c =
    let taken = g.K.Sink.taken in
    let faults = g.K.Sink.faults in
    runs_done c.args.mode c.args.out.items c.pump.new.mode c.pump.new.out.items c.args.room (status_of c.finish.result) _
    (taken c.args.sink.now) (taken c.pump.new.sink) (taken c.finish.new.sink) (faults c.args.sink.now) (faults c.pump.new.sink) (faults c.finish.new.sink)
    c.in-Ok.ensures.pumped c.finish.ensures.ending c.pump.ensures.later

pub returns-in-Err : goal.returns-in-Err
returns-in-Err g c = runs_halted c.args.mode c.args.out.items c.args.room _ _ c.in-Err.end c.in-Err.ensures.halted
