-- The course of a command, and the checks with which commands begin.
use Rattle.std.specs.Prelude.{ℕ, Option, Some, None, is_some, Result, Ok, Err, List, if◌then◌else◌}
use Rattle.ossl_property.specs.declared.clause.Clause.{Clause}
use Rattle.ossl_property.specs.Said.{query_said}
use Rattle.ossl_state.specs.declared.call.Call.{Call}
use Rattle.ossl_state.specs.declared.call.Reply.{Reply}
use Rattle.ossl_script.specs.declared.outcome.Outcome.{Outcome}
use Rattle.ossl_script.specs.declared.outcome.Outcome.TheVariants.{BadQuery, UnknownName, NotLoaded, WrongKind, Bound}
use Rattle.ossl_script.specs.Bindings.{Binding, Bindings, Method, Operating}
use Rattle.ossl_script.specs.Bindings.Binding.{activation, method, running, finished}

-- what is left of a command: a call, with the course behind each reply; or what came of it, with what is bound then
pub data Course : Type 0 where
  ask : Call → (Reply → Course) → Course
  said : Outcome → Bindings → Course

abbrev pub by_query : Bindings → (List Clause → Course) → Result (List Clause) ℕ → Course
by_query bindings go (Ok query) = go query
by_query bindings go (Err place) = said (BadQuery place) bindings

-- the query text is read; outside the grammar it is a bad one
abbrev pub reads : List ℕ → Bindings → (List Clause → Course) → Course
reads text bindings go = by_query bindings go (query_said text)

abbrev pub by_activation : List ℕ → Bindings → (ℕ → Course) → Option Binding → Course
by_activation name bindings go None = said (NotLoaded name) bindings
by_activation name bindings go (Some (activation token)) = go token
by_activation name bindings go (Some other) = said (WrongKind name) bindings

-- a name of an activation is used; one that is not bound is not loaded
abbrev pub uses_activation : List ℕ → Bindings → (ℕ → Course) → Course
uses_activation name bindings go = by_activation name bindings go (bindings name)

abbrev pub by_method : List ℕ → Bindings → (Method → Course) → Option Binding → Course
by_method name bindings go None = said (UnknownName name) bindings
by_method name bindings go (Some (method used)) = go used
by_method name bindings go (Some other) = said (WrongKind name) bindings

-- a name of a method is used; one that is not bound is unknown
abbrev pub uses_method : List ℕ → Bindings → (Method → Course) → Course
uses_method name bindings go = by_method name bindings go (bindings name)

-- the name of an inner method is used, where one stands
abbrev pub uses_inner : Option (List ℕ) → Bindings → (Option Method → Course) → Course
uses_inner None bindings go = go None
uses_inner (Some name) bindings go = uses_method name bindings (λ used. go (Some used))

abbrev pub by_running : List ℕ → Bindings → (Operating → Course) → Option Binding → Course
by_running name bindings go None = said (UnknownName name) bindings
by_running name bindings go (Some (running operating)) = go operating
by_running name bindings go (Some other) = said (WrongKind name) bindings

-- a name of an operation context that runs is used
abbrev pub uses_running : List ℕ → Bindings → (Operating → Course) → Course
uses_running name bindings go = by_running name bindings go (bindings name)

abbrev pub by_context : List ℕ → Bindings → (ℕ → Course) → Option Binding → Course
by_context name bindings go None = said (UnknownName name) bindings
by_context name bindings go (Some (running operating)) = go operating.token
by_context name bindings go (Some (finished token)) = go token
by_context name bindings go (Some other) = said (WrongKind name) bindings

-- a name of an operation context is used, whether it runs or is finished
abbrev pub uses_context : List ℕ → Bindings → (ℕ → Course) → Course
uses_context name bindings go = by_context name bindings go (bindings name)

-- the name is to be bound; it may not be bound already
abbrev pub binds : List ℕ → Bindings → Course → Course
binds name bindings go = if is_some (bindings name) then said (Bound name) bindings else go
