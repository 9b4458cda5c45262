use Rattle.std.proofs.Common.{◌≡◌, ◌+◌, ◌<◌, ◌++◌, ℕ, length, take, map, get_or}
use Rattle.std.specs.Prelude.{codes}
use Rattle.std.specs.List.{flat_map}
use Rattle.std.specs.Fmt.{decimal}
use Rattle.ossl_commands.specs.Counts.{lines_of}
use Rattle.ossl_print.specs.Results.{result_line, results_by, told_to}
use Rattle.ossl_print.proofs.results.write_results.Given as goal

-- each caller stands behind as many of its results as it has lines so far, and those of the lines so far are written
abbrev pub invariant-loop-line : goal.invariant-loop-line
invariant-loop-line l = record {
  callers : length l.places.items ≡ length l.results;
  places : (own : ℕ) → own < length l.results → get_or l.places.items own 0 ≡ length (lines_of (own + 1) (take l.line-index l.lines));
  written : l.out.items ≡ l.fn.out.items ++ (codes "results " ++ decimal (length l.lines) ++ codes "\n")
      ++ flat_map result_line (results_by (take l.line-index l.lines) (told_to (map (λ rs. rs.items) l.results)));
}
