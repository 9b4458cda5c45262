-- Each call that comes next names a library context that the batch names.
use Rattle.std.proofs.Common.{◌≡◌, ℕ, ◌<◌, Bool, true, false, max, nat_eq, List, [], ◌∷◌, ◌++◌, refl, subst, arith}
use Rattle.std.specs.Prelude.{⊤, cond, if◌then◌else◌, None, Some, Ok, Err, Option, Result, is_some, filter, filter_map, flat_map, fold, length}
use Rattle.std.specs.List.{cons_option}
use Rattle.std.proofs.lemmas.Bool.{lt-ltb}
use Rattle.ossl_codes.specs.declared.code.Code.{Code}
use Rattle.ossl_codes.specs.declared.code.Operation.{Operation}
use Rattle.ossl_op.specs.declared.params.BeginRefused.{BeginRefused}
use Rattle.ossl_op.specs.declared.params.Params.{Params}
use Rattle.ossl_op.specs.Begins.{begins, bytes_of}
use Rattle.ossl_property.specs.declared.clause.Clause.{Clause}
use Rattle.ossl_property.specs.Said.{query_said}
use Rattle.ossl_state.specs.declared.call.Call.TheVariants as calls
use Rattle.ossl_state.specs.declared.call.Reply.{Reply}
use Rattle.ossl_state.specs.declared.call.Reply.TheVariants as replies
use Rattle.ossl_state.specs.Tokens.{names_context}
use Rattle.ossl_script.specs.declared.caller.LineResult.{LineResult}
use Rattle.ossl_script.specs.declared.caller.Next.TheVariants as nexts
use Rattle.ossl_commands.specs.declared.command.Argument.{Argument}
use Rattle.ossl_commands.specs.declared.command.Argument.TheVariants.{Lib}
use Rattle.ossl_commands.specs.declared.command.Command.{Command}
use Rattle.ossl_commands.specs.declared.command.Command.TheVariants.{Load, Unload, Default, Fetch, UpRef, Free, Open, Feed, Finish, Close, CloseLib, Perform}
use Rattle.ossl_commands.specs.declared.command.Line.{Line}
use Rattle.ossl_script.specs.declared.held.Held.{Held}
use Rattle.ossl_script.specs.declared.outcome.Outcome.{Outcome}
use Rattle.ossl_script.specs.declared.outcome.Outcome.TheVariants as outcomes
use Rattle.ossl_script.specs.Bindings.{Binding, Bindings, Method, Operating, nothing_bound}
use Rattle.ossl_script.specs.Bindings.Binding.{activation, method, running, finished}
use Rattle.ossl_script.specs.Caller.{Place, Standing, after_reply, after_reply_at, goes_on, line_result, lines_of, next_at, opening, standing_of}
use Rattle.ossl_script.specs.Caller.Place.{asking, ended}
use Rattle.ossl_script.specs.Commands.{after_load, after_fetch, after_up_ref, after_open, course_of}
use Rattle.ossl_commands.specs.Counts.{lib_in, libs_in}
use Rattle.ossl_script.specs.Course.{Course, by_query, reads, by_activation, uses_activation, by_method, uses_method, uses_inner, by_running, uses_running, by_context, uses_context, binds}
use Rattle.ossl_script.specs.Course.Course.{ask, said}
use Rattle.ossl_script.specs.Given.{Content, Options, content_by, default_options, options_of, fed_by, with_argument}
use Rattle.ossl_script.specs.Held.{held_after}
use Rattle.ossl_script.specs.Laws.{CallsNameContexts}
use Rattle.ossl_script.specs.Outcome.{outcome_of}
use Rattle.ossl_script.specs.Whole as whole
use Rattle.ossl_script.specs.Whole.{Whole, begun, by_beginning, code_of, tokens_of, freed, after_context, after_inner, on_method, on_methods, performed}

module _ (contexts : ℕ) where
  -- these numbers are all below it
  abbrev AreBelow : List ℕ → Type 0
  AreBelow [] = ⊤
  AreBelow (n ∷ numbers) = (n < contexts) × AreBelow numbers

  below_first : (xs ys : List ℕ) → AreBelow (xs ++ ys) → AreBelow xs
  below_first [] ys below = tt
  below_first (x ∷ xs) ys below = (below.0, below_first xs ys below.1)

  below_second : (xs ys : List ℕ) → AreBelow (xs ++ ys) → AreBelow ys
  below_second [] ys below = below
  below_second (x ∷ xs) ys below = below_second xs ys below.1

  below_greatest : (least : ℕ) (numbers : List ℕ) → fold max least numbers < contexts → (least < contexts) × AreBelow numbers
  below_greatest least [] below = (below, tt)
  below_greatest least (n ∷ numbers) below =
      let rest = below_greatest (max least n) numbers below in
      let most : max least n < contexts = rest.0 in
      (omega arith, (omega arith, rest.1))

  -- the library contexts that lines name
  abbrev libs_named : List Line → List ℕ
  libs_named lines = flat_map (λ line. libs_in line.command) lines

  below_filtered : (test : Line → Bool) (lines : List Line) → AreBelow (libs_named lines) → AreBelow (libs_named (filter test lines))
  below_filtered test [] below = tt
  below_filtered test (line ∷ lines) below = at (test line) (below_filtered test lines (below_second (libs_in line.command) (libs_named lines) below))
    where
      both : (xs ys : List ℕ) → AreBelow xs → AreBelow ys → AreBelow (xs ++ ys)
      both [] ys first second = second
      both (x ∷ xs) ys first second = (first.0, both xs ys first.1 second)

      at : (is : Bool) → AreBelow (libs_named (filter test lines)) → AreBelow (libs_named (cond is (line ∷ filter test lines) (filter test lines)))
      at true rest = both (libs_in line.command) (libs_named (filter test lines)) (below_first (libs_in line.command) (libs_named lines) below) rest
      at false rest = rest

  -- the library context of the options
  below_options : (content : Content) (options : Options) (arguments : List Argument) → options.lib < contexts → AreBelow (filter_map lib_in arguments) → (fold (with_argument content) options arguments).lib < contexts
  below_options content options [] small below = small
  below_options content options (argument ∷ arguments) small below =
      let both = at argument below in below_options content (with_argument content options argument) arguments both.0 both.1
    where
      at : (argument : Argument) → AreBelow (cons_option (lib_in argument) (filter_map lib_in arguments)) → ((with_argument content options argument).lib < contexts) × AreBelow (filter_map lib_in arguments)
      at (Lib n) below = below
      at argument below = (small, below)

  -- in a course each call names such a library context
  abbrev IsWithin : Course → Type 0
  IsWithin (ask call follows) = (names_context contexts call ≡ true) × ((reply : Reply) → IsWithin (follows reply))
  IsWithin (said outcome b) = ⊤

  -- 1. Checks.

  within_reads : (text : List ℕ) (b : Bindings) (go : List Clause → Course) → ((query : List Clause) → IsWithin (go query)) → IsWithin (reads text b go)
  within_reads text b go goes = at (query_said text)
    where
      at : (query : Result (List Clause) ℕ) → IsWithin (by_query b go query)
      at (Ok query) = goes query
      at (Err place) = tt

  within_activation : (name : List ℕ) (b : Bindings) (go : ℕ → Course) → ((token : ℕ) → IsWithin (go token)) → IsWithin (uses_activation name b go)
  within_activation name b go goes = at (b name)
    where
      at : (o : Option Binding) → IsWithin (by_activation name b go o)
      at None = tt
      at (Some (activation token)) = goes token
      at (Some (method used)) = tt
      at (Some (running operating)) = tt
      at (Some (finished token)) = tt

  within_method : (name : List ℕ) (b : Bindings) (go : Method → Course) → ((used : Method) → IsWithin (go used)) → IsWithin (uses_method name b go)
  within_method name b go goes = at (b name)
    where
      at : (o : Option Binding) → IsWithin (by_method name b go o)
      at None = tt
      at (Some (activation token)) = tt
      at (Some (method used)) = goes used
      at (Some (running operating)) = tt
      at (Some (finished token)) = tt

  within_inner : (name : Option (List ℕ)) (b : Bindings) (go : Option Method → Course) → ((inner : Option Method) → IsWithin (go inner)) → IsWithin (uses_inner name b go)
  within_inner None b go goes = goes None
  within_inner (Some name) b go goes = within_method name b (λ used. go (Some used)) (λ used. goes (Some used))

  within_running : (name : List ℕ) (b : Bindings) (go : Operating → Course) → ((operating : Operating) → IsWithin (go operating)) → IsWithin (uses_running name b go)
  within_running name b go goes = at (b name)
    where
      at : (o : Option Binding) → IsWithin (by_running name b go o)
      at None = tt
      at (Some (activation token)) = tt
      at (Some (method used)) = tt
      at (Some (running operating)) = goes operating
      at (Some (finished token)) = tt

  within_context : (name : List ℕ) (b : Bindings) (go : ℕ → Course) → ((token : ℕ) → IsWithin (go token)) → IsWithin (uses_context name b go)
  within_context name b go goes = at (b name)
    where
      at : (o : Option Binding) → IsWithin (by_context name b go o)
      at None = tt
      at (Some (activation token)) = tt
      at (Some (method used)) = tt
      at (Some (running operating)) = goes operating.token
      at (Some (finished token)) = goes token

  within_binds : (name : List ℕ) (b : Bindings) (go : Course) → IsWithin go → IsWithin (binds name b go)
  within_binds name b go goes = at (is_some (b name))
    where
      at : (is : Bool) → IsWithin (if is then said (outcomes.Bound name) b else go)
      at true = tt
      at false = goes

  within_begun : (used : Method) (inner : Option Method) (params : Params) (refused : BeginRefused → Course) (made : Reply → Course) → ((refusal : BeginRefused) → IsWithin (refused refusal)) → ((reply : Reply) → IsWithin (made reply))
      → IsWithin (begun used inner params refused made)
  within_begun used inner params refused made refuses makes = at (begins used.code (code_of inner) params)
    where
      at : (may : Result (Unit {0}) BeginRefused) → IsWithin (by_beginning may refused (ask (calls.NewCtx used.token (whole.token_of inner) (length (bytes_of params.key))) made))
      at (Ok good) = (refl, makes)
      at (Err refusal) = refuses refusal

  -- 2. What follows a reply.

  within_load : (name : List ℕ) (b : Bindings) (reply : Reply) → IsWithin (after_load name b reply)
  within_load name b (replies.Loaded n i skipped) = tt
  within_load name b reply = tt

  within_fetch : (name : List ℕ) (b : Bindings) (reply : Reply) → IsWithin (after_fetch name b reply)
  within_fetch name b (replies.Fetched n p i r code) = tt
  within_fetch name b reply = tt

  within_made : (name : List ℕ) (code : Code) (b : Bindings) (reply : Reply) → IsWithin (after_up_ref name code b reply)
  within_made name code b (replies.Made n) = tt
  within_made name code b reply = tt

  within_open : (name : List ℕ) (operating : ℕ → Operating) (b : Bindings) (reply : Reply) → IsWithin (after_open name operating b reply)
  within_open name operating b (replies.Made n) = tt
  within_open name operating b reply = tt

  within_freed : (tokens : List ℕ) (outcome : Outcome) (b : Bindings) → IsWithin (freed tokens outcome b)
  within_freed [] outcome b = tt
  within_freed (token ∷ tokens) outcome b = (refl, λ reply. within_freed tokens outcome b)

  -- 3. Whole operations.

  module _ (work : Whole) (small : work.options.lib < contexts) where
    within_after_context : (provider : List ℕ) (used : Method) (inner : Option Method) (reply : Reply) → IsWithin (after_context work provider used inner reply)
    within_after_context provider used inner (replies.Made n) = (refl, λ reply. within_freed (tokens_of used inner) _ work.bindings)
    within_after_context provider used inner reply = within_freed (tokens_of used inner) (outcome_of reply) work.bindings

    within_on_methods : (provider : List ℕ) (used : Method) (inner : Option Method) → IsWithin (on_methods work provider used inner)
    within_on_methods provider used inner =
        within_begun used inner work.options.params _ _ (λ refusal. within_freed (tokens_of used inner) (outcomes.NotBegun refusal) work.bindings) (within_after_context provider used inner)

    within_after_inner : (provider : List ℕ) (used : Method) (reply : Reply) → IsWithin (after_inner work provider used reply)
    within_after_inner provider used (replies.Fetched n p i r code) = within_on_methods provider used (Some (record { token = n; code = code }))
    within_after_inner provider used reply = within_freed (used.token ∷ []) (outcome_of reply) work.bindings

    within_on_method : (provider : List ℕ) (used : Method) (named : Option (Operation × List ℕ)) → IsWithin (on_method work provider used named)
    within_on_method provider used None = within_on_methods provider used None
    within_on_method provider used (Some named) = (lt-ltb work.options.lib contexts small, within_after_inner provider used)

    within_fetched : (reply : Reply) → IsWithin (whole.after_fetch work reply)
    within_fetched (replies.Fetched n p i r code) = within_on_method p (record { token = n; code = code }) work.options.algorithm
    within_fetched reply = tt

  -- 4. Commands and scripts.

  within_course : (content : Content) (b : Bindings) (command : Command) → 0 < contexts → AreBelow (libs_in command) → IsWithin (course_of content b command)
  within_course content b (Load l provider name retain) some below = within_binds name b _ (lt-ltb l contexts below.0, within_load name b)
  within_course content b (Unload name) some below = within_activation name b _ (λ token. (refl, λ reply. tt))
  within_course content b (Default l query) some below = within_reads query b _ (λ clauses. (lt-ltb l contexts below.0, λ reply. tt))
  within_course content b (Fetch l operation algorithm name query) some below = within_reads query b _ (λ clauses. within_binds name b _ (lt-ltb l contexts below.0, within_fetch name b))
  within_course content b (UpRef old name) some below = within_method old b _ (λ used. within_binds name b _ (refl, within_made name used.code b))
  within_course content b (Free name) some below = within_method name b _ (λ used. (refl, λ reply. tt))
  within_course content b (Open old name arguments) some below =
      within_method old b _ (λ used. within_inner (options_of content arguments).method b _ (λ inner. within_binds name b _ (
      within_begun used inner (options_of content arguments).params _ _ (λ refusal. tt) (within_open name _ b))))
  within_course content b (Feed name arguments) some below = within_running name b _ (λ operating. tt)
  within_course content b (Finish name) some below = within_running name b _ (λ operating. tt)
  within_course content b (Close name) some below = within_context name b _ (λ token. (refl, λ reply. tt))
  within_course content b (CloseLib l) some below = (lt-ltb l contexts below.0, λ reply. tt)
  within_course content b (Perform operation algorithm arguments query) some below =
      let small : (options_of content arguments).lib < contexts = below_options content default_options arguments some below in
      within_reads query b _ (λ clauses. (
        lt-ltb (options_of content arguments).lib contexts small,
        within_fetched (record { options = options_of content arguments; query = clauses; fed = fed_by content arguments; bindings = b }) small,
      ))

  -- a caller stands at a call that names such a library context, and the lines behind name such
  abbrev IsWithinPlace : Place → Type 0
  IsWithinPlace (asking number call follows lines) = IsWithin (ask call follows) × AreBelow (libs_named lines)
  IsWithinPlace ended = ⊤

  within_going : (content : Content) (lines : List Line) (held : List Held) (told : List LineResult) (number : ℕ) (course : Course) → 0 < contexts → AreBelow (libs_named lines) → IsWithin course
      → IsWithinPlace (goes_on content held told number course lines).place
  within_going content lines held told number (ask call follows) some below within = (within, below)
  within_going content [] held told number (said outcome b) some below within = tt
  within_going content (line ∷ lines) held told number (said outcome b) some below within =
      within_going content lines held (told ++ line_result number outcome ∷ []) line.number (course_of content b line.command) some (below_second (libs_in line.command) (libs_named lines) below)
      (within_course content b line.command some (below_first (libs_in line.command) (libs_named lines) below))

  within_opening : (content : Content) (lines : List Line) → 0 < contexts → AreBelow (libs_named lines) → IsWithinPlace (opening content lines).place
  within_opening content [] some below = tt
  within_opening content (line ∷ lines) some below =
      within_going content lines [] [] line.number (course_of content nothing_bound line.command) some (below_second (libs_in line.command) (libs_named lines) below)
      (within_course content nothing_bound line.command some (below_first (libs_in line.command) (libs_named lines) below))

  within_steps : (content : Content) (standing : Standing) (replies : List Reply) → 0 < contexts → IsWithinPlace standing.place → IsWithinPlace (fold (after_reply content) standing replies).place
  within_steps content standing [] some within = within
  within_steps content standing (reply ∷ replies) some within = within_steps content (after_reply content standing reply) replies some (at standing.place within within)
    where
      at : (place : Place) → IsWithinPlace place → IsWithinPlace standing.place → IsWithinPlace (after_reply_at content standing reply place).place
      at (asking number call follows lines) within here = within_going content lines (held_after call reply standing.held) standing.told number (follows reply) some within.1 (within.0.1 reply)
      at ended within here = here

-- each call that comes next names a library context that the batch names
pub calls_name_contexts : CallsNameContexts
calls_name_contexts lines contents caller replies line call contexts most next =
    let greatest = below_greatest contexts 0 (libs_named contexts lines) (omega (arith, most)) in
    at (standing_of lines contents caller replies).place next (
    within_steps contexts content (opening content (lines_of caller lines)) replies greatest.0
    (within_opening contexts content (lines_of caller lines) greatest.0 (below_filtered contexts (λ line. nat_eq line.caller caller) lines greatest.1)))
  where
    content : Content
    content = content_by contents

    at : (place : Place) → next_at place ≡ nexts.Call line call → IsWithinPlace contexts place → names_context contexts call ≡ true
    at (asking number other follows behind) same within = let equal : other ≡ call = (cc) in subst (λ c. names_context contexts c ≡ true) equal within.0.0
    at ended same within = absurd cc
