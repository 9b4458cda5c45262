-- What a registry shows, what it asks of a catalogue, and how its boxes stand to its history.
use Rattle.std.specs.Prelude.{ℕ, ◌+◌, ◌-◌, ◌^◌, ◌≡◌, ◌≤◌, ◌<◌, Bool, true, false, ◌&&◌, not, min, IsTrue, All, List, []}
use Rattle.std.specs.Prelude.{◌∷◌, length, map, slice_index}
use Rattle.std.specs.List.{list_any}
use Rattle.std.specs.Str.{bytes_eq}
use Rattle.ossl_base.specs.declared.entry.Entry.{Entry}
use Rattle.ossl_provider.specs.Sheet.{Facts, Sheet}
use Rattle.ossl_state.specs.declared.call.Call.{Call}
use Rattle.ossl_state.specs.declared.call.Call.TheVariants.{Load, Unload, SetDefault, Fetch, UpRef, Free, NewCtx}
use Rattle.ossl_state.specs.declared.call.Call.TheVariants.{FreeCtx, CloseLib}
use Rattle.ossl_state.specs.declared.call.Reply.{Reply}
use Rattle.ossl_state.specs.declared.state.State.{State}
use Rattle.ossl_state.specs.Boxes.{sheet_of, facts_at}
use Rattle.ossl_state.specs.History.{Fixed, state_after, refusals}
use Rattle.ossl_state.specs.State.{lib_at, up_at, starts_at}

-- no two boxes have one name
abbrev pub are_apart : List Facts → Bool
are_apart [] = true
are_apart (f ∷ fs) = not (list_any (λ f'. bytes_eq f'.name f.name) fs) && are_apart fs

-- a box of which nothing is up
abbrev pub IsDown : Sheet → Type 0
IsDown s = s.up ≡ []

-- a box of which nothing is up, and that was never started
abbrev pub IsIdle : Sheet → Type 0
IsIdle s = (s.up ≡ []) × (s.starts ≡ 0)

-- what a registry can be opened on
pub record IsCatalogue (facts : List Facts) (sheets : List Sheet) : Type 0 where
  pub few : length facts ≤ 32
  pub names : IsTrue (are_apart facts)
  pub rows : All (λ f. length f.rows ≤ 256) facts
  pub idle : All IsIdle sheets

-- the boxes, their counts of faults at the opening, the number of library contexts, and the history
pub record Shown (P : Type 0) : Type 0 where
  pub boxes : List P
  pub opened : List ℕ
  pub contexts : ℕ
  pub entries : List (Entry Call Reply)

-- what never changes in it, by what never changes in a box
abbrev pub fixed_of : {P : Type 0} → (P → Facts) → Shown P → Fixed
fixed_of facts r = record { facts = map facts r.boxes; contexts = r.contexts; opened = r.opened }

-- the state after its history
abbrev pub state_of : {P : Type 0} → (P → Facts) → Shown P → State
state_of facts r = state_after (fixed_of facts r) r.entries

-- the sheet of the box at a place in a state: its instances that are up, its starts, and its count of faults, which is
-- the one it opened with and one more for each refused start, and stops at the greatest number of 64 bits
abbrev pub sheet_at : State → ℕ → ℕ → ℕ → Sheet
sheet_at s opened refused k =
    record { up = up_at s k; starts = starts_at s k; faults = min (opened + refused) (2 ^ 64 - 1) }

-- the sheet of the box at a place after a history
abbrev pub sheet_after : Fixed → List (Entry Call Reply) → ℕ → Sheet
sheet_after fixed entries k =
    sheet_at (state_after fixed entries) (slice_index fixed.opened k) (refusals (facts_at fixed.facts k).name entries) k

-- each box has done what the history says
abbrev pub HasSheets : Fixed → List Sheet → List (Entry Call Reply) → Type 0
HasSheets fixed sheets entries = (k : ℕ) → k < length sheets → sheet_of sheets k ≡ sheet_after fixed entries k

-- the calls that are never refused memory: those that give something back, and the closing of a library context that is
-- open
abbrev pub takes_no_memory : State → Call → Bool
takes_no_memory s (Load l name retain) = false
takes_no_memory s (Unload t) = true
takes_no_memory s (SetDefault l query) = false
takes_no_memory s (Fetch l op name query) = false
takes_no_memory s (UpRef h) = false
takes_no_memory s (Free h) = true
takes_no_memory s (NewCtx h inner len) = false
takes_no_memory s (FreeCtx h) = true
takes_no_memory s (CloseLib l) = (lib_at s l).is_open
