use Rattle.std.proofs.Common.{ℕ, List, [], refl, sym, ◌∙◌, subst}
use Rattle.std.specs.Prelude.{⊤, Result, Ok, Err}
use Rattle.ossl_state.specs.declared.call.Call.TheVariants as calls
use Rattle.ossl_property.specs.declared.clause.Clause.{Clause}
use Rattle.ossl_commands.specs.declared.command.Command.TheVariants as commands
use Rattle.ossl_script.specs.declared.checks.Halt.{Halt}
use Rattle.ossl_script.specs.declared.stage.Asking.{Asking}
use Rattle.ossl_script.specs.Bindings.{Bindings}
use Rattle.ossl_script.specs.Commands.{after_fetch}
use Rattle.ossl_script.specs.Course.{binds, reads}
use Rattle.ossl_script.specs.Course.Course.{ask}
use Rattle.ossl_script.specs.Names.{Agree}
use Rattle.ossl_script.specs.Stages.{Checks, Starts, course_in}
use Rattle.ossl_script.proofs.CheckLaws.{anyhow, handed, passes, stops}
use Rattle.ossl_script.proofs.begin.fetch.Goals as goal

pub returns-in_err-must_be_free : goal.returns-in_err-must_be_free
returns-in_err-must_be_free c =
    let name = c.args.name.now in
    let query = c.in_ok-query.query in
    let IsBound : Bindings → Type 0 = Agree c.args.names.now in
    let fetching = λ (bindings : Bindings) (clauses : List Clause). ask (calls.Fetch c.args.lib c.args.operation c.args.algorithm.now clauses) (after_fetch name bindings) in
    let halt = c.in_err-must_be_free.field-0.0 in
    let text : Checks (λ bindings. ⊤) (Ok query) (reads c.args.query.now) =
    subst (λ (text : List ℕ). Checks (λ bindings. ⊤) (Ok query) (reads text)) c.as_slice.ensures.bytes c.in_ok-query.ensures in
    subst (λ (r : Result Asking Halt). Starts [] IsBound r (course_in (commands.Fetch c.args.lib c.args.operation c.args.algorithm.now name c.args.query.now)))
    (sym (handed c.from_residual-in_err-must_be_free.result halt c.from_residual-in_err-must_be_free.ensures))
    (passes [] IsBound (Err halt) (reads c.args.query.now) (λ bindings clauses. binds name bindings (fetching bindings clauses)) query
    (anyhow IsBound (Ok query) (reads c.args.query.now) text)
    (stops [] IsBound halt (λ bindings go. binds name bindings (go tt)) (λ bindings free. fetching bindings query) c.in_err-must_be_free.ensures))

pub returns : goal.returns
returns c = λ bindings agree.
    let name = c.args.name.now in
    let query = c.in_ok-query.query in
    let fetching = λ (clauses : List Clause). ask (calls.Fetch c.args.lib c.args.operation c.args.algorithm.now clauses) (after_fetch name bindings) in
    let text : Checks (λ bindings. ⊤) (Ok query) (reads c.args.query.now) =
    subst (λ (text : List ℕ). Checks (λ bindings. ⊤) (Ok query) (reads text)) c.as_slice.ensures.bytes c.in_ok-query.ensures in
    text bindings (λ clauses. binds name bindings (fetching clauses)) tt
    ∙ c.in_ok-must_be_free.ensures bindings (λ free. fetching query) agree
    ∙ rw (c.from.ensures, c.in_ok-algorithm.ensures.equal, c.in_ok-name.ensures.equal) refl
