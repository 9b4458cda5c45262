-- What a caller owns after its calls, by its own entries.
use Rattle.std.specs.Prelude.{◌≡◌, ℕ, Bool, true, false, nat_eq, IsFalse, if◌then◌else◌, List}
use Rattle.ossl_base.specs.declared.entry.Entry.{Entry}
use Rattle.ossl_state.specs.declared.call.Call.{Call}
use Rattle.ossl_state.specs.declared.call.Reply.{Reply}
use Rattle.ossl_state.specs.Tokens.{Token, activation_token, method_token, context_token, owns}

-- whether two tokens are one: the same number, of the same kind
abbrev pub is_token : ℕ → Token → ℕ → Token → Bool
is_token n activation_token t activation_token = nat_eq n t
is_token n method_token t method_token = nat_eq n t
is_token n context_token t context_token = nat_eq n t
is_token n kind t kind' = false

-- a token joins what was owned, and nothing else changes
abbrev pub HasGained : List (Entry Call Reply) → ℕ → Token → List (Entry Call Reply) → Type 0
HasGained before n kind after = (t : ℕ) (kind' : Token) →
    owns after t kind' ≡ (if is_token n kind t kind' then true else owns before t kind')

-- a token goes from what was owned, and nothing else changes
abbrev pub HasGivenBack : List (Entry Call Reply) → ℕ → Token → List (Entry Call Reply) → Type 0
HasGivenBack before n kind after = (t : ℕ) (kind' : Token) →
    owns after t kind' ≡ (if is_token n kind t kind' then false else owns before t kind')

-- the same is owned
abbrev pub HasKept : List (Entry Call Reply) → List (Entry Call Reply) → Type 0
HasKept before after = (t : ℕ) (kind : Token) → owns after t kind ≡ owns before t kind

-- the number is that of no token that is owned
abbrev pub IsFresh : List (Entry Call Reply) → ℕ → Type 0
IsFresh mine n = (kind : Token) → IsFalse (owns mine n kind)

abbrev pub OwnsNothing : List (Entry Call Reply) → Type 0
OwnsNothing mine = (t : ℕ) (kind : Token) → IsFalse (owns mine t kind)
