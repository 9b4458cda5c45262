-- Operations: their beginning, and the courses of the whole ones, from the fetch to the bytes.
use Rattle.std.specs.Prelude.{ℕ, Option, Some, None, option_map, Result, Ok, Err, List, [], ◌∷◌, length}
use Rattle.ossl_codes.specs.declared.code.Code.{Code}
use Rattle.ossl_codes.specs.declared.code.Operation.{Operation}
use Rattle.ossl_op.specs.declared.params.BeginRefused.{BeginRefused}
use Rattle.ossl_op.specs.declared.params.Params.{Params}
use Rattle.ossl_op.specs.Begins.{begins, bytes_of}
use Rattle.ossl_op.specs.Standard.{standard_result}
use Rattle.ossl_property.specs.declared.clause.Clause.{Clause}
use Rattle.ossl_state.specs.declared.call.Call.TheVariants.{Fetch, NewCtx, Free, FreeCtx}
use Rattle.ossl_state.specs.declared.call.Reply.{Reply}
use Rattle.ossl_state.specs.declared.call.Reply.TheVariants.{Fetched, Made}
use Rattle.ossl_script.specs.declared.outcome.Outcome.{Outcome}
use Rattle.ossl_script.specs.declared.outcome.Outcome.TheVariants.{NotBegun}
use Rattle.ossl_script.specs.Bindings.{Bindings, Method}
use Rattle.ossl_script.specs.Course.{Course}
use Rattle.ossl_script.specs.Course.Course.{ask, said}
use Rattle.ossl_script.specs.Given.{Options}
use Rattle.ossl_script.specs.Outcome.{outcome_of, performed_outcome}

abbrev pub code_of : Option Method → Option Code
code_of inner = option_map (λ used. used.code) inner

abbrev pub token_of : Option Method → Option ℕ
token_of inner = option_map (λ used. used.token) inner

abbrev pub by_beginning : Result (Unit {0}) BeginRefused → (BeginRefused → Course) → Course → Course
by_beginning (Ok good) refused go = go
by_beginning (Err refusal) refused go = refused refusal

-- an operation begins on a method, and on an inner one where there is one; where it may, a context is made, with the
-- length of the key or 0
abbrev pub begun : Method → Option Method → Params → (BeginRefused → Course) → (Reply → Course) → Course
begun used inner params refused made =
    by_beginning (begins used.code (code_of inner) params) refused
    (ask (NewCtx used.token (token_of inner) (length (bytes_of params.key))) made)

-- methods are freed, one after the other, and then the result stands
abbrev pub freed : List ℕ → Outcome → Bindings → Course
freed [] outcome bindings = said outcome bindings
freed (token ∷ tokens) outcome bindings = ask (Free token) (λ reply. freed tokens outcome bindings)

-- a whole operation: its options, its query, the bytes of all its pieces, and what is bound, which it leaves as it is
pub record Whole : Type 0 where
  pub options : Options
  pub query : List Clause
  pub fed : List ℕ
  pub bindings : Bindings

-- the tokens of its methods, the inner one first
abbrev pub tokens_of : Method → Option Method → List ℕ
tokens_of used None = used.token ∷ []
tokens_of used (Some inner) = inner.token ∷ used.token ∷ []

-- the context is made: each piece is fed, the operation is finished, and the context and the methods are given back,
-- also where finishing is refused
abbrev pub after_context : Whole → List ℕ → Method → Option Method → Reply → Course
after_context whole provider used inner (Made n) =
    ask (FreeCtx n) (λ reply. freed (tokens_of used inner)
    (performed_outcome provider (standard_result used.code (code_of inner) whole.options.params whole.fed))
    whole.bindings)
after_context whole provider used inner reply = freed (tokens_of used inner) (outcome_of reply) whole.bindings

-- all methods are fetched: the operation begins
abbrev pub on_methods : Whole → List ℕ → Method → Option Method → Course
on_methods whole provider used inner =
    begun used inner whole.options.params (λ refusal. freed (tokens_of used inner) (NotBegun refusal) whole.bindings)
    (after_context whole provider used inner)

-- the inner algorithm was asked for
abbrev pub after_inner : Whole → List ℕ → Method → Reply → Course
after_inner whole provider used (Fetched n p i r code) =
    on_methods whole provider used (Some (record { token = n; code = code }))
after_inner whole provider used reply = freed (tokens_of used None) (outcome_of reply) whole.bindings

-- the method is fetched: then the inner algorithm, where one is named, as a digest or a cipher and with the same query
abbrev pub on_method : Whole → List ℕ → Method → Option (Operation × List ℕ) → Course
on_method whole provider used None = on_methods whole provider used None
on_method whole provider used (Some named) =
    ask (Fetch whole.options.lib named.0 named.1 whole.query) (after_inner whole provider used)

-- the method was asked for
abbrev pub after_fetch : Whole → Reply → Course
after_fetch whole (Fetched n p i r code) = on_method whole p (record { token = n; code = code }) whole.options.algorithm
after_fetch whole reply = said (outcome_of reply) whole.bindings

-- the course of a whole operation: first the method of this algorithm is fetched; where a step is refused, the methods
-- that were fetched are freed, and the first refusal is the result
abbrev pub performed : Operation → List ℕ → Whole → Course
performed operation algorithm whole = ask (Fetch whole.options.lib operation algorithm whole.query) (after_fetch whole)
