-- What the program owns by its opening, and what a history leaves up.
use Rattle.std.specs.Prelude.{ℕ, ◌≡◌, ◌<◌, Bool, true, false, IsTrue, List, ◌++◌, map, reverse}
use Rattle.std.specs.List.{list_all, range_with_len}
use Rattle.ossl_base.specs.declared.entry.Entry.{Entry}
use Rattle.ossl_provider.specs.Members.{is_distinct}
use Rattle.ossl_state.specs.declared.call.Call.{Call}
use Rattle.ossl_state.specs.declared.call.Call.TheVariants.{Load, Unload, SetDefault, CloseLib}
use Rattle.ossl_state.specs.declared.call.Reply.{Reply}
use Rattle.ossl_state.specs.History.{Fixed, state_after}
use Rattle.ossl_state.specs.State.{lib_at}
use Rattle.ossl_state.specs.Tokens.{activation_token, entries_of, owns}
use Rattle.ossl_ordered.specs.Opening.{closing_calls}

-- the program owns these activations, each of another number
pub record OwnsAll (tokens : List ℕ) (entries : List (Entry Call Reply)) : Type 0 where
  pub owned : IsTrue (list_all (λ t. owns (entries_of 0 entries) t activation_token) tokens)
  pub distinct : IsTrue (is_distinct tokens)

-- a call of the program: it hands out no method and no operation context
abbrev pub is_program_call : Call → Bool
is_program_call (Load l name retain) = true
is_program_call (Unload t) = true
is_program_call (SetDefault l query) = true
is_program_call (CloseLib l) = true
is_program_call call = false

-- so many library contexts, from 0 up, are closed
abbrev pub AreClosed : ℕ → Fixed → List (Entry Call Reply) → Type 0
AreClosed contexts fixed entries = (l : ℕ) → l < contexts → (lib_at (state_after fixed entries) l).is_open ≡ false

-- entries of the program alone follow others
pub record Follow (old new closing : List (Entry Call Reply)) : Type 0 where
  pub parts : new ≡ old ++ closing
  pub apart : entries_of 0 closing ≡ closing
  pub calls : IsTrue (list_all (λ e. is_program_call e.call) closing)

-- these calls of the program follow
pub record AddsCalls (calls : List Call) (old new : List (Entry Call Reply)) : Type 0 where
  pub added : List (Entry Call Reply)
  pub parts : new ≡ old ++ added
  pub apart : entries_of 0 added ≡ added
  pub calls_are : map (λ e. e.call) added ≡ calls

-- activations are given back, the last one first
abbrev pub Unloads : List ℕ → List (Entry Call Reply) → List (Entry Call Reply) → Type 0
Unloads tokens old new = AddsCalls (map Unload (reverse tokens)) old new

-- library contexts are closed, from 0 up
abbrev pub Closes : ℕ → List (Entry Call Reply) → List (Entry Call Reply) → Type 0
Closes contexts old new = AddsCalls (map CloseLib (range_with_len 0 contexts)) old new

-- the closing that gives these activations back
abbrev pub ClosesBy : ℕ → List ℕ → List (Entry Call Reply) → List (Entry Call Reply) → Type 0
ClosesBy contexts tokens old new = AddsCalls (closing_calls contexts tokens) old new
