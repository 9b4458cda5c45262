-- What an entry of a history starts and stops: the differences between the instances that are up before and after it
-- (provider(7)).
use Rattle.std.specs.Prelude.{ℕ, Bool, not, nat_eq, List, [], filter, map}
use Rattle.std.specs.List.{list_any}
use Rattle.ossl_base.specs.declared.entry.Entry.{Entry}
use Rattle.ossl_provider.specs.Sheet.{Facts}
use Rattle.ossl_state.specs.declared.call.Call.{Call}
use Rattle.ossl_state.specs.declared.call.Reply.{Reply}
use Rattle.ossl_state.specs.declared.state.State.{State}
use Rattle.ossl_state.specs.History.{Fixed, IsLegal, after_entry}
use Rattle.ossl_state.specs.State.{up_instances}
use Rattle.ossl_watch.specs.declared.up.Up.{Up}

-- the instances that are up in a state, by increasing number, each with the place of its provider
abbrev pub ups_of : State → List Up
ups_of s = map (λ b. record { place = b.place; number = b.number }) (up_instances s)

abbrev pub is_among : List Up → Up → Bool
is_among ups u = list_any (λ o. nat_eq o.number u.number) ups

-- the instances of the second list that the first lacks
abbrev pub lacking : List Up → List Up → List Up
lacking others these = filter (λ u. not (is_among others u)) these

-- what an entry starts, and what it stops, from a state on, by increasing number
abbrev pub started_by : List Facts → State → Entry Call Reply → List Up
started_by facts s e = lacking (ups_of s) (ups_of (after_entry facts s e))

abbrev pub stopped_by : List Facts → State → Entry Call Reply → List Up
stopped_by facts s e = lacking (ups_of (after_entry facts s e)) (ups_of s)

-- what never changes over these boxes and so many library contexts; how many faults the boxes had before is
-- left out, since no
-- rule looks at it
abbrev pub fixed_over : List Facts → ℕ → Fixed
fixed_over facts contexts = record { facts = facts; contexts = contexts; opened = [] }

-- the entries are a legal history over these boxes and so many library contexts
abbrev pub IsHistory : List Facts → ℕ → List (Entry Call Reply) → Type 0
IsHistory facts contexts entries = IsLegal (fixed_over facts contexts) entries
