use Rattle.std.proofs.Common.{◌∙◌}
use Rattle.print_tests.proofs.WorkedLaws.{shared_here}
use Rattle.print_tests.proofs.tests.shared_printed.Goals as goal

pub printed-requires : goal.printed-requires
printed-requires c = record { legal = shared_here _ _ _ _ c.in_ok-first.ensures c.in_ok-second.ensures (c.as_slice.ensures.value ∙ c.in_ok-boxes.ensures.items) (c.as_slice-2.ensures.value ∙ c.in_ok-history.ensures) }
