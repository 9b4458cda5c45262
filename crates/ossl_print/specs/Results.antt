-- The printed results: one for each line of a batch, in the order of its text.
use Rattle.std.specs.Prelude.{ℕ, ◌-◌, ◌≡◌, ◌≤◌, ◌<◌, nat_eq, nat_lt, nat_le, ◌&&◌, IsTrue, unwrap_or, List, [], ◌++◌}
use Rattle.std.specs.Prelude.{codes, find, length, map, slice_index_or}
use Rattle.std.specs.List.{flat_map, list_all}
use Rattle.std.specs.Fmt.{decimal}
use Rattle.ossl_commands.specs.declared.command.Line.{Line}
use Rattle.ossl_commands.specs.Counts.{lines_of}
use Rattle.ossl_provider.specs.Members.{is_distinct}
use Rattle.ossl_script.specs.declared.caller.LineResult.{LineResult}
use Rattle.ossl_state.specs.declared.call.Reply.{Reply}
use Rattle.ossl_print.specs.Batched.{Batch, results_of}

-- a line of the batch with its result
abbrev pub result_line : LineResult → List ℕ
result_line result = codes "line " ++ decimal result.line ++ codes " " ++ result.text ++ codes "\n"

-- how many results there are, and each of them
abbrev pub results_text : List LineResult → List ℕ
results_text results = codes "results " ++ decimal (length results) ++ codes "\n" ++ flat_map result_line results

-- the result of a line, among those of its caller; a line that has none yet has an empty one
abbrev pub result_among : List LineResult → ℕ → LineResult
result_among results number =
    unwrap_or (find (λ result. nat_eq result.line number) results) (record { line = number; text = [] })

-- the results of lines in their order, where each caller has these
abbrev pub results_by : List Line → (ℕ → List LineResult) → List LineResult
results_by lines told = map (λ line. result_among (told line.caller) line.number) lines

-- the results of a batch in the order of its text, where these are the replies to each caller
abbrev pub batch_results : Batch → (ℕ → List Reply) → List LineResult
batch_results batch replies = results_by batch.lines (λ caller. results_of batch caller (replies caller))

-- the results of a caller, counted from 1, in a list with one item for each caller
abbrev pub told_to : List (List LineResult) → ℕ → List LineResult
told_to results caller = slice_index_or results (caller - 1) []

-- a caller's results are one for each of its lines, in order
abbrev pub IsEachTold : List Line → ℕ → List LineResult → Type 0
IsEachTold lines caller results =
    map (λ result. result.line) results ≡ map (λ line. line.number) (lines_of caller lines)

-- every line has a result in this list of callers: the callers are counted from 1, no two lines have one number, and
-- each caller has one result for each of its lines, in order
pub record AreTold (lines : List Line) (results : List (List LineResult)) : Type 0 where
  pub callers : IsTrue (list_all (λ line. nat_lt 0 line.caller && nat_le line.caller (length results)) lines)
  pub numbers : IsTrue (is_distinct (map (λ line. line.number) lines))
  pub each : (caller : ℕ) → 0 < caller → caller ≤ length results → IsEachTold lines caller (told_to results caller)
