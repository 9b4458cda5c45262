-- In the course of a command each call names tokens that are held.
use Rattle.std.proofs.Common.{◌≡◌, ℕ, ◌+◌, ◌<◌, Bool, true, false, nat_eq, List, [], refl, arith}
use Rattle.std.specs.Prelude.{⊤, if◌then◌else◌, None, Some, Ok, Err, Option, Result, is_some, length}
use Rattle.std.proofs.lemmas.Bool.{ne_eqb}
use Rattle.ossl_codes.specs.declared.code.Code.{Code}
use Rattle.ossl_codes.specs.declared.code.Operation.{Operation}
use Rattle.ossl_op.specs.declared.params.BeginRefused.{BeginRefused}
use Rattle.ossl_op.specs.declared.params.Params.{Params}
use Rattle.ossl_op.specs.Begins.{begins, bytes_of}
use Rattle.ossl_property.specs.declared.clause.Clause.{Clause}
use Rattle.ossl_property.specs.Said.{query_said}
use Rattle.ossl_state.specs.declared.call.Call.{Call}
use Rattle.ossl_state.specs.declared.call.Call.TheVariants as calls
use Rattle.ossl_state.specs.declared.call.Reply.{Reply}
use Rattle.ossl_state.specs.declared.call.Reply.TheVariants as replies
use Rattle.ossl_state.specs.Tokens.Token.{method_token}
use Rattle.ossl_commands.specs.declared.command.Command.{Command}
use Rattle.ossl_commands.specs.declared.command.Command.TheVariants.{Load, Unload, Default, Fetch, UpRef, Free, Open, Feed, Finish, Close, CloseLib, Perform}
use Rattle.ossl_script.specs.declared.held.Held.{Held}
use Rattle.ossl_script.specs.declared.held.TokenKind.TheVariants as kinds
use Rattle.ossl_script.specs.declared.outcome.Outcome.{Outcome}
use Rattle.ossl_script.specs.declared.outcome.Outcome.TheVariants as outcomes
use Rattle.ossl_script.specs.Bindings.{Binding, Bindings, Method, Operating}
use Rattle.ossl_script.specs.Bindings.Binding.{activation, method, running, finished}
use Rattle.ossl_script.specs.Commands.{after_load, after_fetch, after_up_ref, after_open, after_giving, after_call, course_of}
use Rattle.ossl_script.specs.Course.{Course, by_query, reads, by_activation, uses_activation, by_method, uses_method, uses_inner, by_running, uses_running, by_context, uses_context, binds}
use Rattle.ossl_script.specs.Course.Course.{ask, said}
use Rattle.ossl_script.specs.Given.{Content, Options, options_of, fed_by}
use Rattle.ossl_script.specs.Held.{handed_out, held_after, give_back_call}
use Rattle.ossl_script.specs.Laws.{IsFrom, least_behind}
use Rattle.ossl_script.specs.Outcome.{outcome_of}
use Rattle.ossl_script.specs.Whole as whole
use Rattle.ossl_script.specs.Whole.{Whole, begun, by_beginning, code_of, tokens_of, freed, after_context, after_inner, on_method, on_methods}
use Rattle.ossl_script.proofs.NamesHeld.{Has, token_in, IsBelow, one_of, kept, gained, still_below, IsBound, IsSound, GivesNothing, same_bound, more_bound, less_bound, re_bound, IsFree, Spares, not_given, spared, bound_after, free_from}

-- Checks.

module _ (least : ℕ) (held : List Held) (b : Bindings) (bound : IsBound held b) where
  sound_reads : (text : List ℕ) (go : List Clause → Course) → ((query : List Clause) → IsSound least held (go query)) → IsSound least held (reads text b go)
  sound_reads text go goes = at (query_said text)
    where
      at : (query : Result (List Clause) ℕ) → IsSound least held (by_query b go query)
      at (Ok query) = goes query
      at (Err place) = bound

  sound_activation : (name : List ℕ) (go : ℕ → Course) → ((token : ℕ) → b name ≡ Some (activation token) → IsSound least held (go token)) → IsSound least held (uses_activation name b go)
  sound_activation name go goes = at (b name) refl
    where
      at : (o : Option Binding) → b name ≡ o → IsSound least held (by_activation name b go o)
      at None is = bound
      at (Some (activation token)) is = goes token is
      at (Some (method used)) is = bound
      at (Some (running operating)) is = bound
      at (Some (finished token)) is = bound

  sound_method : (name : List ℕ) (go : Method → Course) → ((used : Method) → b name ≡ Some (method used) → IsSound least held (go used)) → IsSound least held (uses_method name b go)
  sound_method name go goes = at (b name) refl
    where
      at : (o : Option Binding) → b name ≡ o → IsSound least held (by_method name b go o)
      at None is = bound
      at (Some (activation token)) is = bound
      at (Some (method used)) is = goes used is
      at (Some (running operating)) is = bound
      at (Some (finished token)) is = bound

  -- an inner method, where there is one, is held
  abbrev HasInner : Option Method → Type 0
  HasInner None = ⊤
  HasInner (Some inner) = Has held (one_of inner.token kinds.Method)

  sound_inner : (name : Option (List ℕ)) (go : Option Method → Course) → ((inner : Option Method) → HasInner inner → IsSound least held (go inner)) → IsSound least held (uses_inner name b go)
  sound_inner None go goes = goes None tt
  sound_inner (Some name) go goes = sound_method name (λ used. go (Some used)) (λ used is. goes (Some used) (bound.has name (method used) is))

  sound_running : (name : List ℕ) (go : Operating → Course) → ((operating : Operating) → b name ≡ Some (running operating) → IsSound least held (go operating)) → IsSound least held (uses_running name b go)
  sound_running name go goes = at (b name) refl
    where
      at : (o : Option Binding) → b name ≡ o → IsSound least held (by_running name b go o)
      at None is = bound
      at (Some (activation token)) is = bound
      at (Some (method used)) is = bound
      at (Some (running operating)) is = goes operating is
      at (Some (finished token)) is = bound

  sound_context : (name : List ℕ) (go : ℕ → Course) → ((operating : Operating) → b name ≡ Some (running operating) → IsSound least held (go operating.token))
      → ((token : ℕ) → b name ≡ Some (finished token) → IsSound least held (go token)) → IsSound least held (uses_context name b go)
  sound_context name go runs ends = at (b name) refl
    where
      at : (o : Option Binding) → b name ≡ o → IsSound least held (by_context name b go o)
      at None is = bound
      at (Some (activation token)) is = bound
      at (Some (method used)) is = bound
      at (Some (running operating)) is = runs operating is
      at (Some (finished token)) is = ends token is

  sound_binds : (name : List ℕ) (go : Course) → IsSound least held go → IsSound least held (binds name b go)
  sound_binds name go goes = at (is_some (b name))
    where
      at : (is : Bool) → IsSound least held (if is then said (outcomes.Bound name) b else go)
      at true = bound
      at false = goes

  -- a token that a name stands for is given back
  sound_giving : (name : List ℕ) (x : Binding) → b name ≡ Some x → IsSound least held (ask (give_back_call (token_in x)) (after_giving name b))
  sound_giving name (activation token) is = (bound.has name (activation token) is, λ reply from. less_bound reply held b name (activation token) is bound)
  sound_giving name (method used) is = (bound.has name (method used) is, λ reply from. less_bound reply held b name (method used) is bound)
  sound_giving name (running operating) is = (bound.has name (running operating) is, λ reply from. less_bound reply held b name (running operating) is bound)
  sound_giving name (finished token) is = (bound.has name (finished token) is, λ reply from. less_bound reply held b name (finished token) is bound)

  sound_call : (call : Call) (reply : Reply) → GivesNothing call → IsSound (least_behind least (handed_out call reply)) (held_after call reply held) (after_call b reply)
  sound_call call reply nothing = same_bound call reply held b nothing bound

  module _ (below : IsBelow least held) where
    sound_load : (l : ℕ) (provider : List ℕ) (retain : Bool) (name : List ℕ) (reply : Reply) → IsFrom least (handed_out (calls.Load l provider retain) reply)
        → IsSound (least_behind least (handed_out (calls.Load l provider retain) reply)) (held_after (calls.Load l provider retain) reply held) (after_load name b reply)
    sound_load l provider retain name (replies.Loaded n i skipped) from =
        more_bound (calls.Load l provider retain) (replies.Loaded n i skipped) least held b name (activation n) (λ reply t token. refl) refl from below bound
    sound_load l provider retain name reply from = same_bound (calls.Load l provider retain) reply held b (λ reply t token. refl) bound

    sound_fetch : (l : ℕ) (operation : Operation) (algorithm : List ℕ) (query : List Clause) (name : List ℕ) (reply : Reply) → IsFrom least (handed_out (calls.Fetch l operation algorithm query) reply)
        → IsSound (least_behind least (handed_out (calls.Fetch l operation algorithm query) reply)) (held_after (calls.Fetch l operation algorithm query) reply held) (after_fetch name b reply)
    sound_fetch l operation algorithm query name (replies.Fetched n p i r code) from =
        more_bound (calls.Fetch l operation algorithm query) (replies.Fetched n p i r code) least held b name (method (record { token = n; code = code })) (λ reply t token. refl) refl from below bound
    sound_fetch l operation algorithm query name reply from = same_bound (calls.Fetch l operation algorithm query) reply held b (λ reply t token. refl) bound

    sound_up_ref : (h : ℕ) (name : List ℕ) (code : Code) (reply : Reply) → IsFrom least (handed_out (calls.UpRef h) reply)
        → IsSound (least_behind least (handed_out (calls.UpRef h) reply)) (held_after (calls.UpRef h) reply held) (after_up_ref name code b reply)
    sound_up_ref h name code (replies.Made n) from =
        more_bound (calls.UpRef h) (replies.Made n) least held b name (method (record { token = n; code = code })) (λ reply t token. refl) refl from below bound
    sound_up_ref h name code reply from = same_bound (calls.UpRef h) reply held b (λ reply t token. refl) bound

    sound_open : (h : ℕ) (second : Option ℕ) (len : ℕ) (name : List ℕ) (code : Code) (inner : Option Code) (params : Params) (reply : Reply) → IsFrom least (handed_out (calls.NewCtx h second len) reply)
        → IsSound (least_behind least (handed_out (calls.NewCtx h second len) reply)) (held_after (calls.NewCtx h second len) reply held)
        (after_open name (λ n. record { token = n; code = code; inner = inner; params = params; fed = [] }) b reply)
    sound_open h second len name code inner params (replies.Made n) from =
        more_bound (calls.NewCtx h second len) (replies.Made n) least held b name (running (record { token = n; code = code; inner = inner; params = params; fed = [] })) (λ reply t token. refl) refl from below bound
    sound_open h second len name code inner params reply from = same_bound (calls.NewCtx h second len) reply held b (λ reply t token. refl) bound

    sound_begun : (used : Method) (inner : Option Method) (params : Params) (refused : BeginRefused → Course) (made : Reply → Course)
        → Has held (one_of used.token kinds.Method) → HasInner inner
        → ((refusal : BeginRefused) → IsSound least held (refused refusal))
        → ((second : Option ℕ) (len : ℕ) (reply : Reply) → let call = calls.NewCtx used.token second len in
        IsFrom least (handed_out call reply) → IsSound (least_behind least (handed_out call reply)) (held_after call reply held) (made reply))
        → IsSound least held (begun used inner params refused made)
    sound_begun used inner params refused made has second refuses makes = at inner second (begins used.code (code_of inner) params)
      where
        at : (inner : Option Method) → HasInner inner → (may : Result (Unit {0}) BeginRefused)
            → IsSound least held (by_beginning may refused (ask (calls.NewCtx used.token (whole.token_of inner) (length (bytes_of params.key))) made))
        at None second (Ok good) = (has, makes None (length (bytes_of params.key)))
        at (Some inner) second (Ok good) = ((has, second), makes (Some inner.token) (length (bytes_of params.key)))
        at None second (Err refusal) = refuses refusal
        at (Some inner) second (Err refusal) = refuses refusal

-- Whole operations.

-- the methods of a whole operation are held and not bound, and they are two
abbrev HasSecond : List Held → Option ℕ → Type 0
HasSecond held None = ⊤
HasSecond held (Some inner) = Has held (one_of inner kinds.Method)

abbrev IsSecondFree : Bindings → Option ℕ → Type 0
IsSecondFree b None = ⊤
IsSecondFree b (Some inner) = IsFree b (one_of inner kinds.Method)

abbrev Differs : ℕ → Option ℕ → Type 0
Differs used None = ⊤
Differs used (Some inner) = nat_eq inner used ≡ false

record InHand (held : List Held) (b : Bindings) (used : ℕ) (inner : Option ℕ) : Type 0 where
  bound : IsBound held b
  has : Has held (one_of used kinds.Method)
  second : HasSecond held inner
  free : IsFree b (one_of used kinds.Method)
  second_free : IsSecondFree b inner
  differs : Differs used inner

in_hand_after : (call : Call) (reply : Reply) (held : List Held) (b : Bindings) (used : ℕ) (inner : Option ℕ) → Spares call reply b → InHand held b used inner → InHand (held_after call reply held) b used inner
in_hand_after call reply held b used inner spares hand = record {
  bound = bound_after call reply held b spares.names hand.bound;
  has = kept call reply held (one_of used kinds.Method) (spares.methods used) hand.has;
  second = second inner hand.second;
  free = hand.free;
  second_free = hand.second_free;
  differs = hand.differs;
}
  where
    second : (inner : Option ℕ) → HasSecond held inner → HasSecond (held_after call reply held) inner
    second None has = tt
    second (Some t) has = kept call reply held (one_of t kinds.Method) (spares.methods t) has

-- its methods are freed, the inner one first
sound_freed : (least : ℕ) (held : List Held) (b : Bindings) (used : Method) (inner : Option Method) (outcome : Outcome) → InHand held b used.token (whole.token_of inner)
    → IsSound least held (freed (tokens_of used inner) outcome b)
sound_freed least held b used None outcome hand =
    (hand.has, λ reply from. bound_after (calls.Free used.token) reply held b (not_given (one_of used.token kinds.Method) reply b hand.free) hand.bound)
sound_freed least held b used (Some inner) outcome hand = (
  hand.second,
  λ reply from. (
    kept (calls.Free inner.token) reply held (one_of used.token kinds.Method) hand.differs hand.has,
    λ last after.
        bound_after (calls.Free used.token) last (held_after (calls.Free inner.token) reply held) b (not_given (one_of used.token kinds.Method) last b hand.free)
        (bound_after (calls.Free inner.token) reply held b (not_given (one_of inner.token kinds.Method) reply b hand.second_free) hand.bound),
  ),
)

module _ (options : Options) (query : List Clause) (fed : List ℕ) (b : Bindings) where
  abbrev work : Whole
  work = record { options = options; query = query; fed = fed; bindings = b }

  sound_context_made : (provider : List ℕ) (used : Method) (inner : Option Method) (least : ℕ) (held : List Held) → IsBelow least held → InHand held b used.token (whole.token_of inner)
      → (second : Option ℕ) (len : ℕ) (reply : Reply) → let call = calls.NewCtx used.token second len in
      IsFrom least (handed_out call reply) → IsSound (least_behind least (handed_out call reply)) (held_after call reply held) (after_context work provider used inner reply)
  sound_context_made provider used inner least held below hand second len (replies.Made n) from =
      let call = calls.NewCtx used.token second len in
      let made = in_hand_after call (replies.Made n) held b used.token (whole.token_of inner) (spared call (replies.Made n) b (λ reply t token. refl)) hand in (
        gained call (replies.Made n) held (one_of n kinds.Context) refl,
        λ reply after. sound_freed (n + 1) (held_after (calls.FreeCtx n) reply (held_after call (replies.Made n) held)) b used inner _
            (in_hand_after (calls.FreeCtx n) reply (held_after call (replies.Made n) held) b used.token (whole.token_of inner)
            (record { methods = λ t. refl; names = not_given (one_of n kinds.Context) reply b (free_from least held b (one_of n kinds.Context) below hand.bound from) }) made),
      )
  sound_context_made provider used inner least held below hand second len reply from =
      let call = calls.NewCtx used.token second len in
      sound_freed least (held_after call reply held) b used inner (outcome_of reply) (in_hand_after call reply held b used.token (whole.token_of inner) (spared call reply b (λ reply t token. refl)) hand)

  sound_on_methods : (provider : List ℕ) (used : Method) (inner : Option Method) (least : ℕ) (held : List Held) → IsBelow least held → InHand held b used.token (whole.token_of inner)
      → IsSound least held (on_methods work provider used inner)
  sound_on_methods provider used inner least held below hand =
      sound_begun least held b hand.bound below used inner options.params _ _ hand.has (second inner hand.second)
      (λ refusal. sound_freed least held b used inner (outcomes.NotBegun refusal) hand)
      (sound_context_made provider used inner least held below hand)
    where
      second : (inner : Option Method) → HasSecond held (whole.token_of inner) → HasInner least held b hand.bound inner
      second None has = tt
      second (Some other) has = has

  sound_inner_fetched : (provider : List ℕ) (used : Method) (l : ℕ) (operation : Operation) (algorithm : List ℕ) (least : ℕ) (held : List Held) → IsBelow least held → InHand held b used.token None
      → (reply : Reply) → let call = calls.Fetch l operation algorithm query in
      IsFrom least (handed_out call reply) → IsSound (least_behind least (handed_out call reply)) (held_after call reply held) (after_inner work provider used reply)
  sound_inner_fetched provider used l operation algorithm least held below hand (replies.Fetched n p i r code) from =
      let call = calls.Fetch l operation algorithm query in
      let reply = replies.Fetched n p i r code in
      let after = in_hand_after call reply held b used.token None (spared call reply b (λ reply t token. refl)) hand in
      sound_on_methods provider used (Some (record { token = n; code = code })) (n + 1) (held_after call reply held) (still_below least call reply held from below) (record {
        bound = after.bound;
        has = after.has;
        second = gained call reply held (one_of n kinds.Method) refl;
        free = after.free;
        second_free = free_from least held b (one_of n kinds.Method) below hand.bound from;
        differs = let small : used.token < least = below used.token method_token hand.has in ne_eqb n used.token (λ same. omega (arith, from));
      })
  sound_inner_fetched provider used l operation algorithm least held below hand reply from =
      let call = calls.Fetch l operation algorithm query in
      sound_freed least (held_after call reply held) b used None (outcome_of reply) (in_hand_after call reply held b used.token None (spared call reply b (λ reply t token. refl)) hand)

  sound_on_method : (provider : List ℕ) (used : Method) (named : Option (Operation × List ℕ)) (least : ℕ) (held : List Held) → IsBelow least held → InHand held b used.token None
      → IsSound least held (on_method work provider used named)
  sound_on_method provider used None least held below hand = sound_on_methods provider used None least held below hand
  sound_on_method provider used (Some named) least held below hand = (tt, sound_inner_fetched provider used options.lib named.0 named.1 least held below hand)

  sound_fetched : (operation : Operation) (algorithm : List ℕ) (least : ℕ) (held : List Held) → IsBelow least held → IsBound held b
      → (reply : Reply) → let call = calls.Fetch options.lib operation algorithm query in
      IsFrom least (handed_out call reply) → IsSound (least_behind least (handed_out call reply)) (held_after call reply held) (whole.after_fetch work reply)
  sound_fetched operation algorithm least held below bound (replies.Fetched n p i r code) from =
      let call = calls.Fetch options.lib operation algorithm query in
      let reply = replies.Fetched n p i r code in
      sound_on_method p (record { token = n; code = code }) options.algorithm (n + 1) (held_after call reply held) (still_below least call reply held from below) (record {
        bound = same_bound call reply held b (λ reply t token. refl) bound;
        has = gained call reply held (one_of n kinds.Method) refl;
        second = tt;
        free = free_from least held b (one_of n kinds.Method) below bound from;
        second_free = tt;
        differs = tt;
      })
  sound_fetched operation algorithm least held below bound reply from =
      same_bound (calls.Fetch options.lib operation algorithm query) reply held b (λ reply t token. refl) bound

-- Commands.

pub sound_course : (content : Content) (least : ℕ) (held : List Held) (b : Bindings) → IsBelow least held → IsBound held b → (command : Command) → IsSound least held (course_of content b command)
sound_course content least held b below bound (Load l provider name retain) = sound_binds least held b bound name _ (tt, sound_load least held b bound below l provider retain name)
sound_course content least held b below bound (Unload name) = sound_activation least held b bound name _ (λ token is. sound_giving least held b bound name (activation token) is)
sound_course content least held b below bound (Default l query) =
    sound_reads least held b bound query _ (λ clauses. (tt, λ reply from. sound_call least held b bound (calls.SetDefault l clauses) reply (λ reply t token. refl)))
sound_course content least held b below bound (Fetch l operation algorithm name query) =
    sound_reads least held b bound query _ (λ clauses. sound_binds least held b bound name _ (tt, sound_fetch least held b bound below l operation algorithm clauses name))
sound_course content least held b below bound (UpRef old name) =
    sound_method least held b bound old _ (λ used is. sound_binds least held b bound name _ (bound.has old (method used) is, sound_up_ref least held b bound below used.token name used.code))
sound_course content least held b below bound (Free name) = sound_method least held b bound name _ (λ used is. sound_giving least held b bound name (method used) is)
sound_course content least held b below bound (Open old name arguments) =
    let options = options_of content arguments in
    sound_method least held b bound old _ (λ used is. sound_inner least held b bound options.method _ (λ inner second. sound_binds least held b bound name _ (
    sound_begun least held b bound below used inner options.params _ _ (bound.has old (method used) is) second (λ refusal. bound)
    (λ other len reply from. sound_open least held b bound below used.token other len name used.code (code_of inner) options.params reply from)
    )))
sound_course content least held b below bound (Feed name arguments) = sound_running least held b bound name _ (λ operating is. re_bound held b name (running operating) _ is refl bound)
sound_course content least held b below bound (Finish name) = sound_running least held b bound name _ (λ operating is. re_bound held b name (running operating) _ is refl bound)
sound_course content least held b below bound (Close name) =
    sound_context least held b bound name _ (λ operating is. sound_giving least held b bound name (running operating) is) (λ token is. sound_giving least held b bound name (finished token) is)
sound_course content least held b below bound (CloseLib l) = (tt, λ reply from. sound_call least held b bound (calls.CloseLib l) reply (λ reply t token. refl))
sound_course content least held b below bound (Perform operation algorithm arguments query) =
    sound_reads least held b bound query _ (λ clauses. (tt, sound_fetched (options_of content arguments) clauses (fed_by content arguments) b operation algorithm least held below bound))
