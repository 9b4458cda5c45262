use Rattle.std.proofs.Common.{subst, sym, ◌≡◌, IfSome, Some, ℕ}
use Rattle.std.specs.declared.option.Option.{Option}
use Rattle.ossl_salted.specs.Ends.{status_of}
use Rattle.ossl_salted.specs.Outside.{looking, reading, writing}
use Rattle.ossl_salted.specs.Return.{BringsBack, Completes}
use Rattle.ossl_salted.specs.Words.{Asked, asked, asked_by}
use Rattle.ossl_salted.proofs.Returns.{goes_back, goes_through}
use Rattle.ossl_salted.proofs.call.enc.Goals as goal

pub returns-in-Some-clause-comes_back : goal.returns-in-Some-clause-comes_back
returns-in-Some-clause-comes_back g c =
    let s = reading g.S.Source.left g.S.Source.faults c.args.source.now c.run.new.source in
    let f = looking g.F.Files.entries g.F.Files.faults c.args.files.now c.run.new.files in
    let k = writing g.K.Sink.taken g.K.Sink.faults c.args.sink.now c.run.new.sink in
    let P : ℕ → Type 0 = λ n. BringsBack (asked_by c.in-Some.job) n s f k in
    let Q : Option Asked → Type 0 = λ o. IfSome o (λ a. BringsBack a c.status.result s f k) in
    let known : Some (asked_by c.in-Some.job) ≡ asked c.args.words.now = c.in-Some.ensures in
    subst Q known (subst P (sym c.status.ensures) (goes_back _ (status_of c.run.result) s f k c.run.ensures.table))

pub returns-in-Some-clause-completes : goal.returns-in-Some-clause-completes
returns-in-Some-clause-completes g c =
    let s = reading g.S.Source.left g.S.Source.faults c.args.source.now c.run.new.source in
    let f = looking g.F.Files.entries g.F.Files.faults c.args.files.now c.run.new.files in
    let k = writing g.K.Sink.taken g.K.Sink.faults c.args.sink.now c.run.new.sink in
    let P : ℕ → Type 0 = λ n. Completes (asked_by c.in-Some.job) n s f k in
    let Q : Option Asked → Type 0 = λ o. IfSome o (λ a. Completes a c.status.result s f k) in
    let known : Some (asked_by c.in-Some.job) ≡ asked c.args.words.now = c.in-Some.ensures in
    subst Q known (subst P (sym c.status.ensures) (goes_through _ (status_of c.run.result) s f k c.run.ensures.table))
