use Rattle.std.proofs.Common.{◌-◌, true, refl, List, ℕ, subst}
use Rattle.ossl_salted.specs.Course.{Runs, most_bytes}
use Rattle.ossl_salted.specs.Ends.{status_of}
use Rattle.ossl_salted.specs.File.{key_and_iv}
use Rattle.ossl_salted.specs.Flow.{aes_due}
use Rattle.ossl_salted.specs.Outside.{reading, writing}
use Rattle.ossl_salted.specs.Words.{bits_in}
use Rattle.ossl_salted.proofs.Courses.{runs_behind, runs_none}
use Rattle.ossl_salted.proofs.call.decrypt.Goals as goal

pub returns-in-Ok : goal.returns-in-Ok
returns-in-Ok g c =
    let bits = bits_in c.args.job.now.size in
    let faults = g.S.Source.faults in
    let left = g.S.Source.left in
    let k = writing g.K.Sink.taken g.K.Sink.faults c.args.sink.now c.through.new.sink in
    let s = reading left faults c.read_header.new.source c.through.new.source in
    let key = key_and_iv c.args.password.now c.in-Ok.salt c.args.job.now.rounds bits in
    let Q : List ℕ → Type 0 = λ material. Runs (aes_due bits material true c.new.result.items (most_bytes - 16)) (status_of c.through.result) s k in
    let R : List ℕ → Type 0 = λ head. Runs (aes_due bits key true head (most_bytes - 16)) (status_of c.through.result) s k in
    runs_behind c.args.password.now c.in-Ok.salt c.args.job.now.rounds bits (status_of c.through.result)
    (left c.args.source.now) (left c.read_header.new.source) (left c.through.new.source)
    (faults c.args.source.now) (faults c.read_header.new.source) (faults c.through.new.source) k
    c.in-Ok.ensures.salt c.read_header.ensures.later
    (subst R c.new.ensures.items (subst Q c.key_and_iv-material.ensures c.through.ensures))

pub returns-in-Err : goal.returns-in-Err
returns-in-Err g c = runs_none c.args.password.now c.args.job.now.rounds (bits_in c.args.job.now.size) _ _ c.in-Err.end refl c.in-Err.ensures.none
