-- The course of each command: its query text is read first, then the names that it uses, from the left, then the name
-- that it binds, and then the rest: an operation begins, and calls are made.
use Rattle.std.specs.Prelude.{ℕ, Option, List, [], ◌++◌}
use Rattle.ossl_codes.specs.declared.code.Code.{Code}
use Rattle.ossl_op.specs.Standard.{standard_result}
use Rattle.ossl_state.specs.declared.call.Call.TheVariants as calls
use Rattle.ossl_state.specs.declared.call.Reply.{Reply}
use Rattle.ossl_state.specs.declared.call.Reply.TheVariants as replies
use Rattle.ossl_commands.specs.declared.command.Command.{Command}
use Rattle.ossl_commands.specs.declared.command.Command.TheVariants.{Load, Unload, Default, Fetch, UpRef, Free, Open}
use Rattle.ossl_commands.specs.declared.command.Command.TheVariants.{Feed, Finish, Close, CloseLib, Perform}
use Rattle.ossl_script.specs.declared.outcome.Outcome.TheVariants as outcomes
use Rattle.ossl_script.specs.Bindings.{Bindings, Method, Operating, bind, unbind}
use Rattle.ossl_script.specs.Bindings.Binding.{activation, method, running, finished}
use Rattle.ossl_script.specs.Course.{Course, reads, uses_activation, uses_method, uses_inner, uses_running}
use Rattle.ossl_script.specs.Course.{uses_context, binds}
use Rattle.ossl_script.specs.Course.Course.{ask, said}
use Rattle.ossl_script.specs.Given.{Content, Options, fed_by, options_of}
use Rattle.ossl_script.specs.Outcome.{outcome_of, finished_outcome}
use Rattle.ossl_script.specs.Whole.{begun, code_of, performed}

-- a provider was to be loaded: the name is bound to its activation
abbrev pub after_load : List ℕ → Bindings → Reply → Course
after_load name bindings (replies.Loaded n i skipped) =
    said (outcomes.Loaded skipped) (bind name (activation n) bindings)
after_load name bindings reply = said (outcome_of reply) bindings

-- a method was to be fetched: the name is bound to it
abbrev pub after_fetch : List ℕ → Bindings → Reply → Course
after_fetch name bindings (replies.Fetched n provider i r code) =
    said (outcomes.Fetched provider) (bind name (method (record { token = n; code = code })) bindings)
after_fetch name bindings reply = said (outcome_of reply) bindings

-- a second method was to be made: the name is bound to it, with the code of the first
abbrev pub after_up_ref : List ℕ → Code → Bindings → Reply → Course
after_up_ref name code bindings (replies.Made n) =
    said outcomes.Done (bind name (method (record { token = n; code = code })) bindings)
after_up_ref name code bindings reply = said (outcome_of reply) bindings

-- an operation context was to be made: the name is bound to it, and nothing is fed yet
abbrev pub after_open : List ℕ → (ℕ → Operating) → Bindings → Reply → Course
after_open name operating bindings (replies.Made n) = said outcomes.Done (bind name (running (operating n)) bindings)
after_open name operating bindings reply = said (outcome_of reply) bindings

-- a token was given back: the name is free again, whatever the reply
abbrev pub after_giving : List ℕ → Bindings → Reply → Course
after_giving name bindings reply = said (outcome_of reply) (unbind name bindings)

-- a call that binds nothing was made
abbrev pub after_call : Bindings → Reply → Course
after_call bindings reply = said (outcome_of reply) bindings

-- an operation begins on the method used, with the parameters of the options
abbrev pub opened : List ℕ → Options → Bindings → Method → Option Method → Course
opened name options bindings used inner =
    begun used inner options.params (λ refusal. said (outcomes.NotBegun refusal) bindings)
    (after_open name (λ n. record {
      token = n;
      code = used.code;
      inner = code_of inner;
      params = options.params;
      fed = [];
    }) bindings)

-- what each command does, in the order of the table
abbrev pub course_of : Content → Bindings → Command → Course
course_of content bindings (Load l provider name retain) =
    binds name bindings (ask (calls.Load l provider retain) (after_load name bindings))
course_of content bindings (Unload name) =
    uses_activation name bindings (λ token. ask (calls.Unload token) (after_giving name bindings))
course_of content bindings (Default l query) =
    reads query bindings (λ clauses. ask (calls.SetDefault l clauses) (after_call bindings))
course_of content bindings (Fetch l operation algorithm name query) =
    reads query bindings (λ clauses. binds name bindings
    (ask (calls.Fetch l operation algorithm clauses) (after_fetch name bindings)))
course_of content bindings (UpRef old name) =
    uses_method old bindings
    (λ used. binds name bindings (ask (calls.UpRef used.token) (after_up_ref name used.code bindings)))
course_of content bindings (Free name) =
    uses_method name bindings (λ used. ask (calls.Free used.token) (after_giving name bindings))
course_of content bindings (Open old name arguments) =
    let options = options_of content arguments in
    uses_method old bindings
    (λ used. uses_inner options.method bindings
    (λ inner. binds name bindings (opened name options bindings used inner)))
course_of content bindings (Feed name arguments) =
    uses_running name bindings (λ operating.
    said outcomes.Done (bind name (running (record operating { fed = operating.fed ++ fed_by content arguments }))
    bindings))
course_of content bindings (Finish name) =
    uses_running name bindings (λ operating.
    said (finished_outcome (standard_result operating.code operating.inner operating.params operating.fed))
    (bind name (finished operating.token) bindings))
course_of content bindings (Close name) =
    uses_context name bindings (λ token. ask (calls.FreeCtx token) (after_giving name bindings))
course_of content bindings (CloseLib l) = ask (calls.CloseLib l) (after_call bindings)
course_of content bindings (Perform operation algorithm arguments query) =
    reads query bindings (λ clauses.
    performed operation algorithm
    (record {
      options = options_of content arguments;
      query = clauses;
      fed = fed_by content arguments;
      bindings = bindings;
    }))
