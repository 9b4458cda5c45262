-- Which tokens a caller owns, and which calls it may make. Both follow from the caller's own entries and the number of
-- library contexts alone.
use Rattle.std.specs.Prelude.{ℕ, Bool, true, false, ◌&&◌, nat_eq, nat_lt, if◌then◌else◌, List, [], ◌∷◌, filter, None}
use Rattle.std.specs.Prelude.{Some}
use Rattle.std.specs.declared.option.Option.{Option}
use Rattle.ossl_base.specs.declared.entry.Entry.{Entry}
use Rattle.ossl_state.specs.declared.call.Call.{Call}
use Rattle.ossl_state.specs.declared.call.Call.TheVariants.{Load, Unload, SetDefault, Fetch, UpRef, Free, NewCtx}
use Rattle.ossl_state.specs.declared.call.Call.TheVariants.{FreeCtx, CloseLib}
use Rattle.ossl_state.specs.declared.call.Reply.{Reply}
use Rattle.ossl_state.specs.declared.call.Reply.TheVariants.{Loaded, Fetched, Made}

-- what a token stands for
pub data Token : Type 0 where
  activation_token : Token
  method_token : Token
  context_token : Token

-- an entry hands out this token, by its call and its reply
abbrev pub gains_by : Call → Reply → ℕ → Token → Bool
gains_by (Load l name retain) (Loaded n i skipped) t activation_token = nat_eq n t
gains_by (Fetch l op name query) (Fetched n p i r code) t method_token = nat_eq n t
gains_by (UpRef h) (Made n) t method_token = nat_eq n t
gains_by (NewCtx h inner len) (Made n) t context_token = nat_eq n t
gains_by call reply t token = false

abbrev pub gains : Entry Call Reply → ℕ → Token → Bool
gains e t token = gains_by e.call e.reply t token

-- an entry gives this token back, whatever the reply; in a legal history the kind follows from the number
abbrev pub gives_up_by : Call → Reply → ℕ → Token → Bool
gives_up_by (Unload u) reply t activation_token = nat_eq u t
gives_up_by (Free h) reply t method_token = nat_eq h t
gives_up_by (FreeCtx h) reply t context_token = nat_eq h t
gives_up_by call reply t token = false

abbrev pub gives_up : Entry Call Reply → ℕ → Token → Bool
gives_up e t token = gives_up_by e.call e.reply t token

-- whether a token is owned after one entry of its caller, when it was owned or not before it
abbrev pub owns_after_entry : Bool → Entry Call Reply → ℕ → Token → Bool
owns_after_entry owned e t token = if gains e t token then true else (if gives_up e t token then false else owned)

abbrev pub owns_after : Bool → List (Entry Call Reply) → ℕ → Token → Bool
owns_after owned [] t token = owned
owns_after owned (e ∷ es) t token = owns_after (owns_after_entry owned e t token) es t token

-- the last of these entries that hands the token out or gives it back hands it out
abbrev pub owns : List (Entry Call Reply) → ℕ → Token → Bool
owns mine t token = owns_after false mine t token

-- the entries of a caller
abbrev pub entries_of : ℕ → List (Entry Call Reply) → List (Entry Call Reply)
entries_of c entries = filter (λ e. nat_eq e.caller c) entries

abbrev pub owns_inner : List (Entry Call Reply) → Option ℕ → Bool
owns_inner mine None = true
owns_inner mine (Some t) = owns mine t method_token

-- each token that a call names is owned, and stands for what the call takes
abbrev pub owns_named : List (Entry Call Reply) → Call → Bool
owns_named mine (Load l name retain) = true
owns_named mine (Unload t) = owns mine t activation_token
owns_named mine (SetDefault l query) = true
owns_named mine (Fetch l op name query) = true
owns_named mine (UpRef h) = owns mine h method_token
owns_named mine (Free h) = owns mine h method_token
owns_named mine (NewCtx h inner len) = owns mine h method_token && owns_inner mine inner
owns_named mine (FreeCtx h) = owns mine h context_token
owns_named mine (CloseLib l) = true

-- the library context that a call names is one of so many
abbrev pub names_context : ℕ → Call → Bool
names_context contexts (Load l name retain) = nat_lt l contexts
names_context contexts (Unload t) = true
names_context contexts (SetDefault l query) = nat_lt l contexts
names_context contexts (Fetch l op name query) = nat_lt l contexts
names_context contexts (UpRef h) = true
names_context contexts (Free h) = true
names_context contexts (NewCtx h inner len) = true
names_context contexts (FreeCtx h) = true
names_context contexts (CloseLib l) = nat_lt l contexts
