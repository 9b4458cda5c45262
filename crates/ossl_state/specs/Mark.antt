-- What a state was before an entry was put into it, by which the entry of a refused start is taken out again.
use Rattle.std.specs.Prelude.{ℕ, ◌≡◌, ◌≤◌, ◌<◌, List, length, take, slice_set, None, Some}
use Rattle.std.specs.declared.option.Option.{Option}
use Rattle.ossl_names.specs.Groups.{Groups}
use Rattle.ossl_provider.specs.Sheet.{Facts}
use Rattle.ossl_state.specs.declared.mark.Mark.{Mark}
use Rattle.ossl_state.specs.declared.state.Born.{Born}
use Rattle.ossl_state.specs.declared.state.LibCtx.{LibCtx}
use Rattle.ossl_state.specs.declared.state.State.{State}
use Rattle.ossl_state.specs.State.{lib_at}
use Rattle.ossl_state.specs.Step.{after_activation, with_fallback_used, with_active, with_born, with_groups}

-- the mark of a state, and of one of its library contexts
abbrev pub marked : State → ℕ → Mark
marked s l = record {
  lib = l;
  order = length (lib_at s l).order;
  given = length (lib_at s l).given;
  fallback = (lib_at s l).fallback;
  groups = None;
  born = length s.born;
  live = length s.live;
}

-- groups that were not replaced are those that stand there
abbrev pub groups_before : Option Groups → Groups → Groups
groups_before None now = now
groups_before (Some before) now = before

abbrev pub lib_before : Mark → LibCtx → LibCtx
lib_before m lib = record lib {
  order = take m.order lib.order;
  given = take m.given lib.given;
  fallback = m.fallback;
  groups = groups_before m.groups lib.groups;
}

-- the lists are as long as they were, and the library context has its fallback and its groups again
abbrev pub taken_back : State → Mark → State
taken_back s m = record s {
  libs = slice_set s.libs m.lib (lib_before m (lib_at s m.lib));
  born = take m.born s.born;
  live = take m.live s.live;
}

-- a mark of a library context leads back from one state to another, and from those with more activations there and more
-- elements
pub record LeadsBack (m : Mark) (l : ℕ) (before s : State) : Type 0 where
  pub lib : m.lib ≡ l
  pub there : l < length s.libs
  pub given : m.given ≤ length (lib_at s l).given
  pub live : m.live ≤ length s.live
  pub back : taken_back s m ≡ before

-- an instance that is started stands in the order of its library context, whose groups are these
abbrev pub with_started : State → Born → Groups → State
with_started s b groups = with_active (with_born (with_groups s b.lib groups) b) b.lib b.place b.number

-- the state in which a fetch looks that falls back to the box at a place
abbrev pub fallen_back : List Facts → State → ℕ → ℕ → State
fallen_back facts s l k = with_fallback_used (after_activation facts s l k) l
