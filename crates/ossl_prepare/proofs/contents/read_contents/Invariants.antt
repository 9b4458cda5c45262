use Rattle.std.proofs.Common.{◌≡◌, ◌≤◌, ℕ, List, [], length, drop, Result}
use Rattle.ossl_prepare.specs.Answered.{AreContents}
use Rattle.ossl_prepare.specs.declared.error_line.ErrorLine.{ErrorLine}
use Rattle.ossl_prepare.proofs.contents.read_contents.Given as goal

-- what comes of the names that are left is what comes of all
abbrev pub invariant-loop-name : goal.invariant-loop-name
invariant-loop-name g l =
    let entries = g.F.Files.entries l.fn.files in
    record {
      all : (before after : ℕ) → before ≤ g.F.Files.faults l.fn.files → g.F.Files.faults l.files ≤ after → (result : Result (List (List ℕ)) ErrorLine)
          → AreContents (record { entries = entries; before = before; after = after }) l.contents.items (drop l.name-index l.names) result
          → AreContents (record { entries = entries; before = before; after = after }) [] l.names result;
      each : length l.contents.items ≡ l.name-index;
      kept : g.F.Files.entries l.files ≡ entries;
      later : g.F.Files.faults l.fn.files ≤ g.F.Files.faults l.files;
    }
