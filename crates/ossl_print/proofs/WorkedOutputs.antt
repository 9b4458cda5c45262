-- Worked runs as they are printed, by computation: what each call started and stopped, and the results.
use Rattle.std.proofs.Common.{◌≡◌, ℕ, true, false, List, [], ◌∷◌, ◌++◌, refl}
use Rattle.std.specs.Prelude.{codes, None, Some, Result, Ok, Err}
use Rattle.std.specs.Fmt.{digits}
use Rattle.ossl_base.specs.declared.entry.Entry.{Entry}
use Rattle.ossl_provider.specs.Sheet.{Facts}
use Rattle.ossl_provider.specs.declared.table.TableRow.{TableRow}
use Rattle.ossl_codes.specs.declared.code.Code.TheVariants.{Sha256}
use Rattle.ossl_codes.specs.declared.code.Operation.TheVariants.{Digest}
use Rattle.ossl_names.specs.Addition.{number_for}
use Rattle.ossl_names.specs.Groups.{number_of, with_names}
use Rattle.ossl_property.specs.Reading.{list_at}
use Rattle.ossl_property.specs.Said.{definition_said, query_said}
use Rattle.ossl_state.specs.declared.call.Call.{Call}
use Rattle.ossl_state.specs.declared.call.Call.TheVariants.{Load, Unload, Fetch, Free, NewCtx, FreeCtx, CloseLib}
use Rattle.ossl_state.specs.declared.call.Reply.{Reply}
use Rattle.ossl_state.specs.declared.call.Reply.TheVariants.{Loaded, Fetched, Made, Done, NoLib, StartRefused}
use Rattle.ossl_state.specs.History.{Fixed}
use Rattle.ossl_state.specs.Text.{call_text}
use Rattle.ossl_commands.specs.declared.command.Line.{Line}
use Rattle.ossl_commands.specs.Judging.{Commands, Fault, commands_of}
use Rattle.ossl_print.specs.Batched.{Batch}
use Rattle.ossl_print.specs.Order.{batch_caller, lines_of, mark_at, mark_text, plainly}
use Rattle.ossl_print.specs.Output.{IsNumbering, printed_batch}

-- 1. What the runs are written with.

abbrev pub lines_in : Result Commands Fault → List Line
lines_in (Ok said) = said.lines
lines_in (Err fault) = []

-- a batch of this text, without files
abbrev pub batch_of : List ℕ → Batch
batch_of text = record { lines = lines_in (commands_of text); contents = [] }

abbrev pub entry : ℕ → Call → Reply → Entry Call Reply
entry c call reply = record { caller = c; call = call; reply = reply }

-- a box with rows of these names
abbrev row : List ℕ → TableRow
row names = record { names = names; definition = []; code = Sha256 }

abbrev box : List ℕ → List TableRow → Facts
box name rows = record { name = name; rows = rows; admits = λ code len. true }

-- 2. Two callers that load and unload, in the order of the text; at the end the second gives back what it holds.

abbrev loads : Batch
loads = batch_of (codes "1 load 0 A X\n2 load 0 B Y\n2 load 0 A Z\n1 unload X\n1 free M")

abbrev loads_run : List (Entry Call Reply)
loads_run =
    entry 1 (Load 0 (codes "A") false) (Loaded 1 1 0)
    ∷ entry 2 (Load 0 (codes "B") false) (Loaded 2 2 0)
    ∷ entry 2 (Load 0 (codes "A") false) (Loaded 3 1 0)
    ∷ entry 1 (Unload 1) Done
    ∷ []

abbrev loads_ended : List (Entry Call Reply)
loads_ended = loads_run ++ entry 2 (Unload 3) Done ∷ entry 2 (Unload 2) Done ∷ entry 0 (CloseLib 0) Done ∷ []

abbrev bare_boxes : Fixed
bare_boxes = record {
  facts = box (codes "A") [] ∷ box (codes "B") [] ∷ [];
  contexts = 1;
  opened = 0 ∷ 0 ∷ [];
}

pub loads_printed : printed_batch bare_boxes loads (1 ∷ 2 ∷ []) None loads_ended
    ≡ codes "order 7\n1 1 load 0 A: ok 1 skipped 0; start A 1\n2 2 load 0 B: ok 2 skipped 0; start B 2\n3 2 load 0 A: ok 1 skipped 0\n4 1 unload 1: ok\n5 2 unload 3: ok; stop A 1\n6 2 unload 2: ok; stop B 2\n7 0 closelib 0: ok\nresults 5\nline 1 ok skipped 0\nline 2 ok skipped 0\nline 3 ok skipped 0\nline 4 ok\nline 5 error unknown M\n"
unfolding digits
loads_printed = refl

-- 3. Callers under other numbers in the history, and marks of fetches.

pub numbered_callers : IsNumbering loads (9 ∷ 4 ∷ [])
unfolding digits
numbered_callers = record { each = refl; distinct = refl; not_program = refl }

pub second_caller : batch_caller (9 ∷ 4 ∷ []) 4 ≡ 2
second_caller = refl

-- a number under which no caller stands is the program's
pub program_itself : batch_caller (9 ∷ 4 ∷ []) 0 ≡ 0
program_itself = refl

pub found_again : mark_text (mark_at (Some (false ∷ true ∷ [])) 2) (Fetched 2 (codes "A") 1 0 Sha256) ≡ codes " hit"
found_again = refl

pub found_anew : mark_text (mark_at (Some (false ∷ true ∷ [])) 1) (Fetched 1 (codes "A") 1 0 Sha256) ≡ codes " miss"
found_anew = refl

pub no_fetch : mark_text (mark_at (Some (false ∷ true ∷ [])) 2) Done ≡ []
no_fetch = refl

-- 4. Histories over boxes with rows.

abbrev sha256 : List TableRow
sha256 = row (codes "SHA2-256") ∷ []

abbrev one_box : Fixed
one_box = record { facts = box (codes "default") sha256 ∷ []; contexts = 1; opened = 0 ∷ [] }

abbrev two_boxes : Fixed
two_boxes = record { facts = box (codes "A") sha256 ∷ box (codes "B") sha256 ∷ []; contexts = 1; opened = 0 ∷ 0 ∷ [] }

abbrev fetch : Call
fetch = Fetch 0 Digest (codes "SHA2-256") []

-- two providers with equal rows, of which the first is loaded twice
pub ties_printed : lines_of plainly two_boxes (
    entry 1 (Load 0 (codes "A") false) (Loaded 1 1 0)
    ∷ entry 2 (Load 0 (codes "B") false) (Loaded 2 2 0)
    ∷ entry 2 (Load 0 (codes "A") false) (Loaded 3 1 0)
    ∷ entry 1 (Unload 1) Done
    ∷ entry 1 fetch (Fetched 5 (codes "A") 1 0 Sha256)
    ∷ entry 1 (NewCtx 5 None 0) (Made 6)
    ∷ entry 1 (FreeCtx 6) Done
    ∷ entry 1 (Free 5) Done
    ∷ entry 2 (Unload 3) Done
    ∷ entry 2 (Unload 2) Done
    ∷ entry 0 (CloseLib 0) Done
    ∷ []
    )
    ≡ codes "1 1 load 0 A: ok 1 skipped 0; start A 1\n2 2 load 0 B: ok 2 skipped 0; start B 2\n3 2 load 0 A: ok 1 skipped 0\n4 1 unload 1: ok\n5 1 fetch 0 digest SHA2-256 []: ok A 1 0\n6 1 newctx 5 - 0: ok\n7 1 freectx 6: ok\n8 1 free 5: ok\n9 2 unload 3: ok; stop A 1\n10 2 unload 2: ok; stop B 2\n11 0 closelib 0: ok\n"
unfolding definition_said list_at number_of number_for with_names digits
ties_printed = refl

-- an operation context that outlives the activation of its provider
pub outlives_printed : lines_of plainly one_box (
    entry 1 (Load 0 (codes "default") false) (Loaded 1 1 0)
    ∷ entry 1 fetch (Fetched 2 (codes "default") 1 0 Sha256)
    ∷ entry 1 (NewCtx 2 None 0) (Made 3)
    ∷ entry 1 (Free 2) Done
    ∷ entry 1 (Unload 1) Done
    ∷ entry 1 (Load 0 (codes "default") false) (Loaded 6 1 0)
    ∷ entry 1 (FreeCtx 3) Done
    ∷ entry 1 (Unload 6) Done
    ∷ entry 0 (CloseLib 0) Done
    ∷ []
    )
    ≡ codes "1 1 load 0 default: ok 1 skipped 0; start default 1\n2 1 fetch 0 digest SHA2-256 []: ok default 1 0\n3 1 newctx 2 - 0: ok\n4 1 free 2: ok\n5 1 unload 1: ok\n6 1 load 0 default: ok 1 skipped 0\n7 1 freectx 3: ok\n8 1 unload 6: ok; stop default 1\n9 0 closelib 0: ok\n"
unfolding definition_said list_at number_of number_for with_names digits
outlives_printed = refl

-- a library context that another caller closes, and a method that is freed after that
pub closed_printed : printed_batch one_box (batch_of (codes "1 fetch 0 digest SHA2-256 M\n2 closelib 0\n1 fetch 0 digest SHA2-256 N\n1 free M")) (1 ∷ 2 ∷ []) None (
    entry 1 fetch (Fetched 1 (codes "default") 1 0 Sha256)
    ∷ entry 2 (CloseLib 0) Done
    ∷ entry 1 fetch NoLib
    ∷ entry 1 (Free 1) Done
    ∷ entry 0 (CloseLib 0) NoLib
    ∷ []
    )
    ≡ codes "order 5\n1 1 fetch 0 digest SHA2-256 []: ok default 1 0; start default 1\n2 2 closelib 0: ok\n3 1 fetch 0 digest SHA2-256 []: no context\n4 1 free 1: ok; stop default 1\n5 0 closelib 0: no context\nresults 4\nline 1 ok default\nline 2 ok\nline 3 error no context\nline 4 ok\n"
unfolding definition_said query_said list_at number_of number_for with_names digits
closed_printed = refl

-- a box that refuses its second start
pub refused_printed : printed_batch one_box (batch_of (codes "1 load 0 default A\n1 unload A\n1 load 0 default B\n1 load 0 default C")) (1 ∷ []) None (
    entry 1 (Load 0 (codes "default") false) (Loaded 1 1 0)
    ∷ entry 1 (Unload 1) Done
    ∷ entry 1 (Load 0 (codes "default") false) (StartRefused (codes "default"))
    ∷ entry 1 (Load 0 (codes "default") false) (Loaded 4 4 0)
    ∷ entry 1 (Unload 4) Done
    ∷ entry 0 (CloseLib 0) Done
    ∷ []
    )
    ≡ codes "order 6\n1 1 load 0 default: ok 1 skipped 0; start default 1\n2 1 unload 1: ok; stop default 1\n3 1 load 0 default: start refused default\n4 1 load 0 default: ok 4 skipped 0; start default 4\n5 1 unload 4: ok; stop default 4\n6 0 closelib 0: ok\nresults 4\nline 1 ok skipped 0\nline 2 ok\nline 3 error start refused default\nline 4 ok skipped 0\n"
unfolding definition_said list_at number_of number_for with_names digits
refused_printed = refl

-- a row whose names lie in two groups is left out, and counted
pub skipped_printed : printed_batch (record { facts = box (codes "A") (row (codes "A:B") ∷ row (codes "C") ∷ row (codes "B:C") ∷ []) ∷ []; contexts = 1; opened = 0 ∷ [] })
    (batch_of (codes "1 load 0 A X\n1 unload X")) (1 ∷ []) None (entry 1 (Load 0 (codes "A") false) (Loaded 1 1 1) ∷ entry 1 (Unload 1) Done ∷ entry 0 (CloseLib 0) Done ∷ [])
    ≡ codes "order 3\n1 1 load 0 A: ok 1 skipped 1; start A 1\n2 1 unload 1: ok; stop A 1\n3 0 closelib 0: ok\nresults 2\nline 1 ok skipped 1\nline 2 ok\n"
unfolding definition_said list_at number_of number_for with_names digits
skipped_printed = refl

-- callers under other numbers in the history, and marked fetches: the mark stands before what is started
pub marked_printed : printed_batch one_box (batch_of (codes "2 fetch 0 digest SHA2-256 M\n2 fetch 0 digest SHA2-256 N\n2 free M\n2 free N")) (9 ∷ 4 ∷ []) (Some (false ∷ true ∷ false ∷ false ∷ false ∷ [])) (
    entry 4 fetch (Fetched 1 (codes "default") 1 0 Sha256)
    ∷ entry 4 fetch (Fetched 2 (codes "default") 1 0 Sha256)
    ∷ entry 4 (Free 1) Done
    ∷ entry 4 (Free 2) Done
    ∷ entry 0 (CloseLib 0) Done
    ∷ []
    )
    ≡ codes "order 5\n1 2 fetch 0 digest SHA2-256 []: ok default 1 0 miss; start default 1\n2 2 fetch 0 digest SHA2-256 []: ok default 1 0 hit\n3 2 free 1: ok\n4 2 free 2: ok\n5 0 closelib 0: ok; stop default 1\nresults 4\nline 1 ok default\nline 2 ok default\nline 3 ok\nline 4 ok\n"
unfolding definition_said query_said list_at number_of number_for with_names digits
marked_printed = refl

-- a call with an inner method, and its key's length
pub inner_printed : call_text (NewCtx 2 (Some 3) 13) ≡ codes "newctx 2 3 13"
unfolding digits
inner_printed = refl
