-- What is told of a run in threads, and what holds of every such run.
use Rattle.std.specs.Prelude.{ℕ, ◌≡◌, ◌<◌, ◌≤◌, ⊤, Ok, Err, Result, List, [], ◌++◌, map}
use Rattle.std.specs.declared.alloc.AllocError.{AllocError}
use Rattle.ossl_base.specs.declared.entry.Entry.{Entry}
use Rattle.ossl_commands.specs.Counts.{callers_of}
use Rattle.ossl_conf.specs.View.{SettingsView}
use Rattle.ossl_crew.specs.Crew.{AreEnded}
use Rattle.ossl_crew.specs.declared.course.Course.{Course as Worked}
use Rattle.ossl_crew.specs.declared.course.Course.TheVariants as worked
use Rattle.ossl_ordered.specs.Run.{IsRun, own_numbers}
use Rattle.ossl_ordered.specs.Turns.{IsDone}
use Rattle.ossl_print.specs.Batched.{Batch}
use Rattle.ossl_run.specs.declared.course.Course.{Course}
use Rattle.ossl_run.specs.declared.course.Course.TheVariants.{Finished, Refused}
use Rattle.ossl_script.specs.View.{printed_of}
use Rattle.ossl_state.specs.declared.call.Call.{Call}
use Rattle.ossl_state.specs.declared.call.Reply.{Reply}
use Rattle.ossl_state.specs.Tokens.{entries_of}

-- 1. What a run came to.

-- in a finished run the lines of each caller are done
abbrev pub IsOver : Worked → Type 0
IsOver (worked.Finished scripts) = AreEnded scripts.items
IsOver (worked.Refused name) = ⊤

-- what a run came to, told with what is printed of each caller's lines
abbrev pub IsToldBy : Worked → Course → Type 0
IsToldBy (worked.Finished scripts) (Finished results) =
    map (λ rs. rs.items) results.items ≡ map printed_of scripts.items
IsToldBy (worked.Finished scripts) (Refused name) = ⊥
IsToldBy (worked.Refused name) (Finished results) = ⊥
IsToldBy (worked.Refused name) (Refused named) = named ≡ name

-- a run that memory did not let end is not told
abbrev pub IsToldOf : Result Worked AllocError → Course → Type 0
IsToldOf (Ok came) course = IsToldBy came course
IsToldOf (Err e) course = ⊥

-- 2. Every run.

-- whatever the order in which threads come to their calls, a run holds each caller's calls once and in its order, and
-- those of no other caller but the program
abbrev pub EachCallerOfRunIsDone : Type 0
EachCallerOfRunIsDone = (settings : SettingsView) (batch : Batch) (entries : List (Entry Call Reply)) (caller : ℕ)
    → IsRun settings batch (own_numbers batch) entries
    → 0 < caller
    → (caller ≤ callers_of batch.lines → IsDone batch caller (entries_of caller entries))
    × (callers_of batch.lines < caller → entries_of caller entries ≡ [])

-- the program's entries are the opening and the closing, before and behind all others
abbrev pub ProgramOfRunIsApart : Type 0
ProgramOfRunIsApart = (settings : SettingsView) (batch : Batch) (entries : List (Entry Call Reply))
    → (run : IsRun settings batch (own_numbers batch) entries)
    → entries_of 0 entries ≡ run.opening ++ run.closing
