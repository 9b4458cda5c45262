use Rattle.std.proofs.Common.{◌∙◌}
use Rattle.print_tests.proofs.WorkedLaws.{outlived_here}
use Rattle.print_tests.proofs.tests.outlived_printed.Goals as goal

pub printed-requires : goal.printed-requires
printed-requires c = record { legal = outlived_here _ _ _ c.in_ok-first.ensures (c.as_slice.ensures.value ∙ c.in_ok-boxes.ensures.items) (c.as_slice-2.ensures.value ∙ c.in_ok-history.ensures) }
