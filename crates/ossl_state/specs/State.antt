-- What a registry knows (OSSL_LIB_CTX(3), provider(7)), and which instances are up.
--
-- The struct `State` of src/state.rt is the definition's state itself: numbers and lists, and nothing that only a body
-- would need. A registry that keeps another representation cites this one. A box is named by its place in the
-- catalogue.
use Rattle.std.specs.Prelude.{ℕ, ◌-◌, Bool, true, false, ◌||◌, nat_eq, List, [], length, map, filter, count_by}
use Rattle.std.specs.Prelude.{replicate, slice_index_or, slice_set}
use Rattle.std.specs.List.{list_any}
use Rattle.ossl_provider.specs.Members.{is_in}
use Rattle.ossl_state.specs.declared.state.Active.{Active}
use Rattle.ossl_state.specs.declared.state.Born.{Born}
use Rattle.ossl_state.specs.declared.state.Fallback.TheVariants.{Armed, Off}
use Rattle.ossl_state.specs.declared.state.LibCtx.{LibCtx}
use Rattle.ossl_state.specs.declared.state.Live.{Live}
use Rattle.ossl_state.specs.declared.state.State.{State}

-- a library context at the start: open, its fallback armed, its default query empty, no name known
abbrev pub fresh_lib : LibCtx
fresh_lib = record { is_open = true; fallback = Armed; default = []; groups = []; order = []; given = [] }

-- the state at the start, of so many library contexts
abbrev pub opening_state : ℕ → State
opening_state contexts = record { next = 1; libs = replicate contexts fresh_lib; born = []; live = [] }

-- a library context that is not there is as a closed one
abbrev pub no_lib : LibCtx
no_lib = record { is_open = false; fallback = Off; default = []; groups = []; order = []; given = [] }

-- the library context of a number
abbrev pub lib_at : State → ℕ → LibCtx
lib_at s l = slice_index_or s.libs l no_lib

abbrev pub with_lib : State → ℕ → LibCtx → State
with_lib s l lib = record s { libs = slice_set s.libs l lib }

-- an instance stands in the order of a library context
abbrev pub is_active : ℕ → List Active → Bool
is_active n order = list_any (λ a. nat_eq a.instance n) order

-- the box at a place is active in a library context
abbrev pub is_active_box : ℕ → List Active → Bool
is_active_box k order = list_any (λ a. nat_eq a.place k) order

-- a live element holds an instance
abbrev pub is_held : ℕ → List Live → Bool
is_held n live = list_any (λ x. is_in n x.held) live

-- an instance is up while it stands in the order of its library context or a live element holds it
abbrev pub is_up : State → Born → Bool
is_up s b = is_active b.number (lib_at s b.lib).order || is_held b.number s.live

-- the instances that are up, by increasing number
abbrev pub up_instances : State → List Born
up_instances s = filter (is_up s) s.born

-- an instance of the box at a place
abbrev pub is_of_box : ℕ → Born → Bool
is_of_box k b = nat_eq b.place k

-- the numbers of a box's instances that are up, in order
abbrev pub up_at : State → ℕ → List ℕ
up_at s k = map (λ b. b.number) (filter (is_of_box k) (up_instances s))

-- the instances of a box that are up in one library context
abbrev pub up_in : State → ℕ → ℕ → List Born
up_in s l k = filter (λ b. nat_eq b.lib l) (filter (is_of_box k) (up_instances s))

-- how many instances of a box were ever started
abbrev pub starts_at : State → ℕ → ℕ
starts_at s k = count_by (is_of_box k) s.born

-- how many of them were stopped: those that are not up
abbrev pub stops_at : State → ℕ → ℕ
stops_at s k = starts_at s k - length (up_at s k)
