-- What a caller at work keeps, against where it stands.
use Rattle.std.specs.Prelude.{◌≡◌, ◌-◌, ◌<◌, true, false, Some, None, is_some, List, ◌++◌, length, map, take}
use Rattle.std.specs.Prelude.{vec_capacity, vec_len}
use Rattle.ossl_state.specs.declared.call.Call.{Call}
use Rattle.ossl_commands.specs.declared.command.Line.{Line}
use Rattle.ossl_script.specs.declared.held.Held.{Held}
use Rattle.ossl_script.specs.declared.script_caller.ScriptCaller.TheInside.{Inside}
use Rattle.ossl_script.specs.Caller.{Standing, lines_of, stands}
use Rattle.ossl_script.specs.Caller.Place.{ended}
use Rattle.ossl_script.specs.Given.{content_by}
use Rattle.ossl_script.specs.Held.{give_back_call, without_texts}
use Rattle.ossl_script.specs.Places.{Ascends, held_in}
use Rattle.ossl_script.specs.Progress.{Asked, HasLine, Stands}
use Rattle.ossl_script.specs.View.{ScriptCallerView}

-- where the caller stands by the replies that it took
abbrev pub standing_in : Inside → Standing
standing_in s = stands (content_by s.contents.items) (lines_of s.caller s.lines) s.replies.items

-- the first of these tokens, but for the last that are left
abbrev pub spent : List Held → List Held → List Held
spent all left = take (length all - length left) all

abbrev pub view_of : Inside → ScriptCallerView
view_of s = record {
  lines = s.lines;
  contents = s.contents.items;
  caller = s.caller;
  replies = s.replies.items;
  given = map give_back_call (spent (standing_in s).held (held_in s.places.items));
  waits = is_some s.asked;
  ended = s.ended;
  refused = s.refused;
}

-- what is held in the places is what is left of the tokens by the replies, behind those that were given back
pub record Holds (s : Inside) : Type 0 where
  pub ascends : Ascends s.places.items
  pub gone : List Held
  pub held : (standing_in s).held ≡ gone ++ held_in s.places.items

-- a call waits, of which all but its texts is kept, and for whose reply and token there is room
pub record Waits (s : Inside) (kept : Call) : Type 0 where
  pub line : Line
  pub call : Call
  pub same : kept ≡ without_texts call
  pub asked : Asked (content_by s.contents.items) s.lines s.progress (standing_in s) line call
  pub place : vec_len s.places < vec_capacity s.places
  pub reply : vec_len s.replies < vec_capacity s.replies

-- no call waits
pub record Between (s : Inside) : Type 0 where
  pub stands : Stands (content_by s.contents.items) s.lines s.replies.items s.progress (standing_in s)
  pub line : HasLine s.progress s.lines s.replies.items

-- the lines are done
pub record AtEnd (s : Inside) : Type 0 where
  pub told : (standing_in s).told ≡ s.progress.told.items
  pub place : (standing_in s).place ≡ ended
  pub idle : s.asked ≡ None

-- what is kept is what the caller's lines and replies lead to
pub record Works (s : Inside) : Type 0 where
  pub holds : Holds s
  pub waits : (kept : Call) → s.refused ≡ false → s.asked ≡ Some kept → Waits s kept
  pub between : s.refused ≡ false → s.ended ≡ false → s.asked ≡ None → Between s
  pub done : s.ended ≡ true → AtEnd s
