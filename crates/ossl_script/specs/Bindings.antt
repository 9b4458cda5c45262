-- What a caller's names are bound to.
use Rattle.std.specs.Prelude.{ℕ, Option, Some, None, List, if◌then◌else◌}
use Rattle.std.specs.Str.{bytes_eq}
use Rattle.ossl_codes.specs.declared.code.Code.{Code}
use Rattle.ossl_op.specs.declared.params.Params.{Params}
pub use Rattle.ossl_script.specs.declared.bound.Method.{Method}

-- an operation that runs: the token of its context, what it computes, and all bytes that it was fed so far
pub record Operating : Type 0 where
  pub token : ℕ
  pub code : Code
  pub inner : Option Code
  pub params : Params
  pub fed : List ℕ

-- what a name may stand for: an activation, a method, an operation context that runs, or one that is finished
pub data Binding : Type 0 where
  activation : ℕ → Binding
  method : Method → Binding
  running : Operating → Binding
  finished : ℕ → Binding

-- what each name is bound to, if it is bound
abbrev pub Bindings : Type 0
Bindings = List ℕ → Option Binding

abbrev pub nothing_bound : Bindings
nothing_bound name = None

-- the name is bound to this from now on
abbrev pub bind : List ℕ → Binding → Bindings → Bindings
bind name binding bindings other = if bytes_eq name other then Some binding else bindings other

-- the name is free again
abbrev pub unbind : List ℕ → Bindings → Bindings
unbind name bindings other = if bytes_eq name other then None else bindings other
