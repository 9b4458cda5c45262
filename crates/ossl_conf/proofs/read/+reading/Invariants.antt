use Rattle.std.proofs.Common.{◌≡◌, ◌+◌, ◌*◌, ◌≤◌, Result, length}
use Rattle.std.specs.Option.{option_copied, option_map_or, ForSome}
use Rattle.ossl_conf.specs.declared.refusal.ConfRefused.{ConfRefused}
use Rattle.ossl_conf.specs.Answers.{AfterLines, MayIncludeAt}
use Rattle.ossl_conf.specs.Kept.{all_sections}
use Rattle.ossl_conf.specs.Lines.{logical_lines}
use Rattle.ossl_conf.specs.Places.{Stays}
use Rattle.ossl_conf.specs.Private.{lines_behind}
use Rattle.ossl_conf.specs.Progress.{conf_of}
use Rattle.ossl_conf.specs.Reading.{Conf}
use Rattle.ossl_conf.proofs.read.+reading.Given as goal

abbrev pub decreases-read_lines : goal.decreases-read_lines
decreases-read_lines g l = 2 * l.depths + 1

abbrev pub decreases-include : goal.decreases-include
decreases-include g l = 2 * l.depths

-- the answer by what is left is the answer to all lines
abbrev pub invariant-read_lines-lines : goal.invariant-read_lines-lines
invariant-read_lines-lines g l = record {
  read : (answer : Result Conf ConfRefused)
      → AfterLines (MayIncludeAt (g.F.Files.entries l.fn.files) l.depths) (conf_of l.conf) (lines_behind l.number (option_copied l.left)) answer
      → AfterLines (MayIncludeAt (g.F.Files.entries l.fn.files) l.depths) (conf_of l.fn.conf) (logical_lines l.text) answer;
  others : Stays (all_sections l.fn.conf.sections) (all_sections l.conf.sections);
  kept : g.F.Files.entries l.files ≡ g.F.Files.entries l.fn.files;
  later : g.F.Files.faults l.fn.files ≤ g.F.Files.faults l.files;
  bound : ForSome l.left (λ rest. l.number + length rest.now ≤ length l.text + 1);
}

abbrev pub decreases-read_lines-lines : goal.decreases-read_lines-lines
decreases-read_lines-lines g l = option_map_or (λ rest. length rest.now + 1) l.left 0
