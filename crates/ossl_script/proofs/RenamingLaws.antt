-- Results name no token: with other numbers in the replies a caller's course is the same, but for the tokens that its calls name.
use Rattle.std.proofs.Common.{◌≡◌, ℕ, Bool, true, false, List, [], ◌∷◌, ◌++◌, map, refl, sym, ◌∙◌, ap, subst}
use Rattle.std.specs.Prelude.{⊤, if◌then◌else◌, None, Some, Ok, Err, Option, Result, option_map, is_some, fold, length}
use Rattle.std.specs.Str.{bytes_eq}
use Rattle.ossl_codes.specs.declared.code.Code.{Code}
use Rattle.ossl_codes.specs.declared.code.Operation.{Operation}
use Rattle.ossl_op.specs.declared.params.BeginRefused.{BeginRefused}
use Rattle.ossl_op.specs.declared.params.Params.{Params}
use Rattle.ossl_op.specs.Begins.{begins, bytes_of}
use Rattle.ossl_property.specs.declared.clause.Clause.{Clause}
use Rattle.ossl_property.specs.Said.{query_said}
use Rattle.ossl_state.specs.declared.call.Call.TheVariants as calls
use Rattle.ossl_state.specs.declared.call.Reply.{Reply}
use Rattle.ossl_state.specs.declared.call.Reply.TheVariants as replies
use Rattle.ossl_script.specs.declared.caller.LineResult.{LineResult}
use Rattle.ossl_commands.specs.declared.command.Command.{Command}
use Rattle.ossl_commands.specs.declared.command.Command.TheVariants.{Load, Unload, Default, Fetch, UpRef, Free, Open, Feed, Finish, Close, CloseLib, Perform}
use Rattle.ossl_commands.specs.declared.command.Line.{Line}
use Rattle.ossl_script.specs.declared.outcome.Outcome.{Outcome}
use Rattle.ossl_script.specs.declared.outcome.Outcome.TheVariants as outcomes
use Rattle.ossl_script.specs.Bindings.{Binding, Bindings, Method, Operating, bind, unbind, nothing_bound}
use Rattle.ossl_script.specs.Bindings.Binding.{activation, method, running, finished}
use Rattle.ossl_script.specs.Caller.{Place, Standing, after_reply, after_reply_at, goes_on, line_result, lines_of, next_at, opening, standing_of}
use Rattle.ossl_script.specs.Caller.Place.{asking, ended}
use Rattle.ossl_script.specs.Commands.{after_load, after_fetch, after_up_ref, after_open, after_giving, after_call, opened, course_of}
use Rattle.ossl_script.specs.Course.{Course, by_query, reads, by_activation, uses_activation, by_method, uses_method, uses_inner, by_running, uses_running, by_context, uses_context, binds}
use Rattle.ossl_script.specs.Course.Course.{ask, said}
use Rattle.ossl_script.specs.Given.{Content, Options, content_by, options_of, fed_by}
use Rattle.ossl_script.specs.Laws.{ResultsNameNoToken, renamed, renamed_next, renumbered}
use Rattle.ossl_script.specs.Outcome.{outcome_of}
use Rattle.ossl_script.specs.Whole as whole
use Rattle.ossl_script.specs.Whole.{Whole, begun, by_beginning, code_of, token_of, tokens_of, freed, after_context, after_inner, on_method, on_methods, performed}

module _ (f g : ℕ → ℕ) where
  -- what a name is bound to, with the other numbers
  abbrev other_method : Method → Method
  other_method used = record { token = f used.token; code = used.code }

  abbrev other : Binding → Binding
  other (activation token) = activation (f token)
  other (method used) = method (other_method used)
  other (running operating) = running (record operating { token = f operating.token })
  other (finished token) = finished (f token)

  -- the same names are bound, to the same but for the numbers
  abbrev AreSame : Bindings → Bindings → Type 0
  AreSame b c = (name : List ℕ) → c name ≡ option_map other (b name)

  -- the same course, but for the numbers
  abbrev IsSame : Course → Course → Type 0
  IsSame (ask call follows) (ask call' follows') = (call' ≡ renamed f call) × ((reply : Reply) → IsSame (follows reply) (follows' (renumbered f g reply)))
  IsSame (said outcome b) (said outcome' c) = (outcome' ≡ outcome) × AreSame b c
  IsSame (ask call follows) (said outcome c) = ⊥
  IsSame (said outcome b) (ask call follows) = ⊥

  -- 1. Names.

  same_bind : (name : List ℕ) (binding : Binding) (b c : Bindings) → AreSame b c → AreSame (bind name binding b) (bind name (other binding) c)
  same_bind name binding b c same any = at (bytes_eq name any)
    where
      at : (is : Bool) → (if is then Some (other binding) else c any) ≡ option_map other (if is then Some binding else b any)
      at true = refl
      at false = same any

  same_unbind : (name : List ℕ) (b c : Bindings) → AreSame b c → AreSame (unbind name b) (unbind name c)
  same_unbind name b c same any = at (bytes_eq name any)
    where
      at : (is : Bool) → (if is then None else c any) ≡ option_map other (if is then None else b any)
      at true = refl
      at false = same any

  -- 2. Checks.

  module _ (b c : Bindings) (same : AreSame b c) where
    same_reads : (text : List ℕ) (go go' : List Clause → Course) → ((query : List Clause) → IsSame (go query) (go' query)) → IsSame (reads text b go) (reads text c go')
    same_reads text go go' goes = at (query_said text)
      where
        at : (query : Result (List Clause) ℕ) → IsSame (by_query b go query) (by_query c go' query)
        at (Ok query) = goes query
        at (Err place) = (refl, same)

    same_activation : (name : List ℕ) (go go' : ℕ → Course) → ((token : ℕ) → IsSame (go token) (go' (f token))) → IsSame (uses_activation name b go) (uses_activation name c go')
    same_activation name go go' goes = subst (λ o. IsSame (by_activation name b go (b name)) (by_activation name c go' o)) (sym (same name)) (at (b name))
      where
        at : (o : Option Binding) → IsSame (by_activation name b go o) (by_activation name c go' (option_map other o))
        at None = (refl, same)
        at (Some (activation token)) = goes token
        at (Some (method used)) = (refl, same)
        at (Some (running operating)) = (refl, same)
        at (Some (finished token)) = (refl, same)

    same_method : (name : List ℕ) (go go' : Method → Course) → ((used : Method) → IsSame (go used) (go' (other_method used))) → IsSame (uses_method name b go) (uses_method name c go')
    same_method name go go' goes = subst (λ o. IsSame (by_method name b go (b name)) (by_method name c go' o)) (sym (same name)) (at (b name))
      where
        at : (o : Option Binding) → IsSame (by_method name b go o) (by_method name c go' (option_map other o))
        at None = (refl, same)
        at (Some (activation token)) = (refl, same)
        at (Some (method used)) = goes used
        at (Some (running operating)) = (refl, same)
        at (Some (finished token)) = (refl, same)

    same_inner : (name : Option (List ℕ)) (go go' : Option Method → Course) → ((inner : Option Method) → IsSame (go inner) (go' (option_map other_method inner)))
        → IsSame (uses_inner name b go) (uses_inner name c go')
    same_inner None go go' goes = goes None
    same_inner (Some name) go go' goes = same_method name (λ used. go (Some used)) (λ used. go' (Some used)) (λ used. goes (Some used))

    same_running : (name : List ℕ) (go go' : Operating → Course) → ((operating : Operating) → IsSame (go operating) (go' (record operating { token = f operating.token })))
        → IsSame (uses_running name b go) (uses_running name c go')
    same_running name go go' goes = subst (λ o. IsSame (by_running name b go (b name)) (by_running name c go' o)) (sym (same name)) (at (b name))
      where
        at : (o : Option Binding) → IsSame (by_running name b go o) (by_running name c go' (option_map other o))
        at None = (refl, same)
        at (Some (activation token)) = (refl, same)
        at (Some (method used)) = (refl, same)
        at (Some (running operating)) = goes operating
        at (Some (finished token)) = (refl, same)

    same_context : (name : List ℕ) (go go' : ℕ → Course) → ((token : ℕ) → IsSame (go token) (go' (f token))) → IsSame (uses_context name b go) (uses_context name c go')
    same_context name go go' goes = subst (λ o. IsSame (by_context name b go (b name)) (by_context name c go' o)) (sym (same name)) (at (b name))
      where
        at : (o : Option Binding) → IsSame (by_context name b go o) (by_context name c go' (option_map other o))
        at None = (refl, same)
        at (Some (activation token)) = (refl, same)
        at (Some (method used)) = (refl, same)
        at (Some (running operating)) = goes operating.token
        at (Some (finished token)) = goes token

    same_binds : (name : List ℕ) (go go' : Course) → IsSame go go' → IsSame (binds name b go) (binds name c go')
    same_binds name go go' goes =
        subst (λ o. IsSame (if is_some (b name) then said (outcomes.Bound name) b else go) (if is_some o then said (outcomes.Bound name) c else go')) (sym (same name)) (at (b name))
      where
        at : (o : Option Binding) → IsSame (if is_some o then said (outcomes.Bound name) b else go) (if is_some (option_map other o) then said (outcomes.Bound name) c else go')
        at None = goes
        at (Some bound) = (refl, same)

    -- 3. What follows a reply.

    same_load : (name : List ℕ) (reply : Reply) → IsSame (after_load name b reply) (after_load name c (renumbered f g reply))
    same_load name (replies.Loaded n i skipped) = (refl, same_bind name (activation n) b c same)
    same_load name reply = (refl, same)

    same_fetch : (name : List ℕ) (reply : Reply) → IsSame (after_fetch name b reply) (after_fetch name c (renumbered f g reply))
    same_fetch name (replies.Fetched n provider i r code) = (refl, same_bind name (method (record { token = n; code = code })) b c same)
    same_fetch name reply = (refl, same)

    same_up_ref : (name : List ℕ) (code : Code) (reply : Reply) → IsSame (after_up_ref name code b reply) (after_up_ref name code c (renumbered f g reply))
    same_up_ref name code (replies.Made n) = (refl, same_bind name (method (record { token = n; code = code })) b c same)
    same_up_ref name code reply = (refl, same)

    same_open : (name : List ℕ) (code : Code) (inner : Option Code) (params : Params) (reply : Reply)
        → IsSame (after_open name (λ n. record { token = n; code = code; inner = inner; params = params; fed = [] }) b reply)
        (after_open name (λ n. record { token = n; code = code; inner = inner; params = params; fed = [] }) c (renumbered f g reply))
    same_open name code inner params (replies.Made n) = (refl, same_bind name (running (record { token = n; code = code; inner = inner; params = params; fed = [] })) b c same)
    same_open name code inner params reply = (refl, same)

    same_giving : (name : List ℕ) (reply : Reply) → IsSame (after_giving name b reply) (after_giving name c (renumbered f g reply))
    same_giving name (replies.Loaded n i skipped) = (refl, same_unbind name b c same)
    same_giving name reply = (refl, same_unbind name b c same)

    same_call : (reply : Reply) → IsSame (after_call b reply) (after_call c (renumbered f g reply))
    same_call (replies.Loaded n i skipped) = (refl, same)
    same_call reply = (refl, same)

    -- 4. Operations.

    same_begun : (used : Method) (inner : Option Method) (params : Params) (refused refused' : BeginRefused → Course) (made made' : Reply → Course)
        → ((refusal : BeginRefused) → IsSame (refused refusal) (refused' refusal))
        → ((reply : Reply) → IsSame (made reply) (made' (renumbered f g reply)))
        → IsSame (begun used inner params refused made) (begun (other_method used) (option_map other_method inner) params refused' made')
    same_begun used inner params refused refused' made made' refuses makes = at inner
      where
        by : (inner : Option Method) (may : Result (Unit {0}) BeginRefused)
            → IsSame (by_beginning may refused (ask (calls.NewCtx used.token (token_of inner) (length (bytes_of params.key))) made))
            (by_beginning may refused' (ask (calls.NewCtx (f used.token) (option_map f (token_of inner)) (length (bytes_of params.key))) made'))
        by inner (Ok good) = (refl, makes)
        by inner (Err refusal) = refuses refusal

        at : (inner : Option Method) → IsSame (begun used inner params refused made) (begun (other_method used) (option_map other_method inner) params refused' made')
        at None = by None (begins used.code None params)
        at (Some second) = by (Some second) (begins used.code (Some second.code) params)

    same_opened : (name : List ℕ) (options : Options) (used : Method) (inner : Option Method)
        → IsSame (opened name options b used inner) (opened name options c (other_method used) (option_map other_method inner))
    same_opened name options used None = same_begun used None options.params _ _ _ _ (λ refusal. (refl, same)) (same_open name used.code None options.params)
    same_opened name options used (Some second) = same_begun used (Some second) options.params _ _ _ _ (λ refusal. (refl, same)) (same_open name used.code (Some second.code) options.params)

    same_freed : (tokens : List ℕ) (outcome : Outcome) → IsSame (freed tokens outcome b) (freed (map f tokens) outcome c)
    same_freed [] outcome = (refl, same)
    same_freed (token ∷ tokens) outcome = (refl, λ reply. same_freed tokens outcome)

    -- a whole operation over these bindings
    abbrev over : Options → List Clause → List ℕ → Bindings → Whole
    over options query fed bindings = record { options = options; query = query; fed = fed; bindings = bindings }

    module _ (options : Options) (query : List Clause) (fed : List ℕ) where
      same_context_made : (provider : List ℕ) (used : Method) (inner : Option Method) (reply : Reply)
          → IsSame (after_context (over options query fed b) provider used inner reply)
          (after_context (over options query fed c) provider (other_method used) (option_map other_method inner) (renumbered f g reply))
      same_context_made provider used None (replies.Made n) = (refl, λ reply. same_freed (used.token ∷ []) _)
      same_context_made provider used (Some inner) (replies.Made n) = (refl, λ reply. same_freed (inner.token ∷ used.token ∷ []) _)
      same_context_made provider used None reply = same_freed (used.token ∷ []) (outcome_of reply)
      same_context_made provider used (Some inner) reply = same_freed (inner.token ∷ used.token ∷ []) (outcome_of reply)

      same_on_methods : (provider : List ℕ) (used : Method) (inner : Option Method)
          → IsSame (on_methods (over options query fed b) provider used inner) (on_methods (over options query fed c) provider (other_method used) (option_map other_method inner))
      same_on_methods provider used None =
          same_begun used None options.params _ _ _ _ (λ refusal. same_freed (used.token ∷ []) (outcomes.NotBegun refusal)) (same_context_made provider used None)
      same_on_methods provider used (Some inner) =
          same_begun used (Some inner) options.params _ _ _ _ (λ refusal. same_freed (inner.token ∷ used.token ∷ []) (outcomes.NotBegun refusal)) (same_context_made provider used (Some inner))

      same_inner_fetched : (provider : List ℕ) (used : Method) (reply : Reply)
          → IsSame (after_inner (over options query fed b) provider used reply) (after_inner (over options query fed c) provider (other_method used) (renumbered f g reply))
      same_inner_fetched provider used (replies.Fetched n p i r code) = same_on_methods provider used (Some (record { token = n; code = code }))
      same_inner_fetched provider used reply = same_freed (used.token ∷ []) (outcome_of reply)

      same_on_method : (provider : List ℕ) (used : Method) (named : Option (Operation × List ℕ))
          → IsSame (on_method (over options query fed b) provider used named) (on_method (over options query fed c) provider (other_method used) named)
      same_on_method provider used None = same_on_methods provider used None
      same_on_method provider used (Some named) = (refl, same_inner_fetched provider used)

      same_fetched : (reply : Reply) → IsSame (whole.after_fetch (over options query fed b) reply) (whole.after_fetch (over options query fed c) (renumbered f g reply))
      same_fetched (replies.Fetched n p i r code) = same_on_method p (record { token = n; code = code }) options.algorithm
      same_fetched reply = (refl, same)

    -- 5. Commands.

    same_course : (content : Content) (command : Command) → IsSame (course_of content b command) (course_of content c command)
    same_course content (Load l provider name retain) = same_binds name _ _ (refl, same_load name)
    same_course content (Unload name) = same_activation name _ _ (λ token. (refl, same_giving name))
    same_course content (Default l query) = same_reads query _ _ (λ clauses. (refl, same_call))
    same_course content (Fetch l operation algorithm name query) = same_reads query _ _ (λ clauses. same_binds name _ _ (refl, same_fetch name))
    same_course content (UpRef old name) = same_method old _ _ (λ used. same_binds name _ _ (refl, same_up_ref name used.code))
    same_course content (Free name) = same_method name _ _ (λ used. (refl, same_giving name))
    same_course content (Open old name arguments) =
        same_method old _ _ (λ used. same_inner (options_of content arguments).method _ _ (λ inner. same_binds name _ _ (same_opened name (options_of content arguments) used inner)))
    same_course content (Feed name arguments) =
        same_running name _ _ (λ operating. (refl, same_bind name (running (record operating { fed = operating.fed ++ fed_by content arguments })) b c same))
    same_course content (Finish name) = same_running name _ _ (λ operating. (refl, same_bind name (finished operating.token) b c same))
    same_course content (Close name) = same_context name _ _ (λ token. (refl, same_giving name))
    same_course content (CloseLib l) = (refl, same_call)
    same_course content (Perform operation algorithm arguments query) =
        same_reads query _ _ (λ clauses. (refl, same_fetched (options_of content arguments) clauses (fed_by content arguments)))

  -- 6. Whole scripts.

  -- the same place, but for the numbers
  abbrev IsSamePlace : Place → Place → Type 0
  IsSamePlace (asking number call follows lines) (asking number' call' follows' lines') =
      (number' ≡ number) × (call' ≡ renamed f call) × ((reply : Reply) → IsSame (follows reply) (follows' (renumbered f g reply))) × (lines' ≡ lines)
  IsSamePlace ended ended = ⊤
  IsSamePlace (asking number call follows lines) ended = ⊥
  IsSamePlace ended (asking number call follows lines) = ⊥

  -- the same results, and the same place
  record IsSameStanding (standing standing' : Standing) : Type 0 where
    told : standing'.told ≡ standing.told
    place : IsSamePlace standing.place standing'.place

  same_going : (content : Content) (lines : List Line) (held held' : List _) (told told' : List LineResult) (number : ℕ) (course course' : Course)
      → told' ≡ told → IsSame course course' → IsSameStanding (goes_on content held told number course lines) (goes_on content held' told' number course' lines)
  same_going content lines held held' told told' number (ask call follows) (ask call' follows') tells same = record { told = tells; place = (refl, same.0, same.1, refl) }
  same_going content [] held held' told told' number (said outcome b) (said outcome' c) tells same =
      record { told = ap (λ all. all ++ line_result number outcome' ∷ []) tells ∙ ap (λ came. told ++ line_result number came ∷ []) same.0; place = tt }
  same_going content (line ∷ lines) held held' told told' number (said outcome b) (said outcome' c) tells same =
      same_going content lines held held' (told ++ line_result number outcome ∷ []) (told' ++ line_result number outcome' ∷ []) line.number
      (course_of content b line.command) (course_of content c line.command)
      (ap (λ all. all ++ line_result number outcome' ∷ []) tells ∙ ap (λ came. told ++ line_result number came ∷ []) same.0)
      (same_course b c same.1 content line.command)
  same_going content lines held held' told told' number (ask call follows) (said outcome c) tells same = absurd same
  same_going content lines held held' told told' number (said outcome b) (ask call follows) tells same = absurd same

  same_opening : (content : Content) (lines : List Line) → IsSameStanding (opening content lines) (opening content lines)
  same_opening content [] = record { told = refl; place = tt }
  same_opening content (line ∷ lines) =
      same_going content lines [] [] [] [] line.number (course_of content nothing_bound line.command) (course_of content nothing_bound line.command) refl
      (same_course nothing_bound nothing_bound (λ name. refl) content line.command)

  same_step : (content : Content) (standing standing' : Standing) (reply : Reply) → IsSameStanding standing standing'
      → IsSameStanding (after_reply content standing reply) (after_reply content standing' (renumbered f g reply))
  same_step content standing standing' reply same = at standing.place standing'.place same.place
    where
      at : (place place' : Place) → IsSamePlace place place' → IsSameStanding (after_reply_at content standing reply place) (after_reply_at content standing' (renumbered f g reply) place')
      at (asking number call follows lines) (asking number' call' follows' lines') (numbers, named, goes, behind) =
          rw (numbers, behind) (same_going content lines _ _ standing.told standing'.told number (follows reply) (follows' (renumbered f g reply)) same.told (goes reply))
      at ended ended placed = same
      at (asking number call follows lines) ended placed = absurd placed
      at ended (asking number call follows lines) placed = absurd placed

  same_steps : (content : Content) (standing standing' : Standing) (replies : List Reply) → IsSameStanding standing standing'
      → IsSameStanding (fold (after_reply content) standing replies) (fold (after_reply content) standing' (map (renumbered f g) replies))
  same_steps content standing standing' [] same = same
  same_steps content standing standing' (reply ∷ replies) same =
      same_steps content (after_reply content standing reply) (after_reply content standing' (renumbered f g reply)) replies (same_step content standing standing' reply same)

  same_next : (place place' : Place) → IsSamePlace place place' → next_at place' ≡ renamed_next f (next_at place)
  same_next (asking number call follows lines) (asking number' call' follows' lines') (numbers, named, goes, behind) = rw (numbers, named) refl
  same_next ended ended placed = refl
  same_next (asking number call follows lines) ended placed = absurd placed
  same_next ended (asking number call follows lines) placed = absurd placed

-- with other numbers in the replies the results are the same, and the next call names its tokens by these
pub results_name_no_token : ResultsNameNoToken
results_name_no_token lines contents caller replies tokens instances = (same.told, same_next tokens instances _ _ same.place)
  where
    same : IsSameStanding tokens instances (standing_of lines contents caller replies) (standing_of lines contents caller (map (renumbered tokens instances) replies))
    same = let content = content_by contents in
        same_steps tokens instances content _ _ replies (same_opening tokens instances content (lines_of caller lines))
