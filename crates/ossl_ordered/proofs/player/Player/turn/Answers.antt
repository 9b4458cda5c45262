use Rattle.ossl_ordered.proofs.DoneLaws.{each_caller_is_done, program_is_apart}
use Rattle.ossl_ordered.proofs.FixedLaws.{run_is_fixed}
use Rattle.ossl_ordered.proofs.RunLaws.{run_in_order_is_run}
use Rattle.ossl_ordered.proofs.TurnLaws.{order_of_text}
use Rattle.ossl_ordered.proofs.player.Player.turn.Goals as goal

pub returns-in-Call-clause-order_of_text : goal.returns-in-Call-clause-order_of_text
returns-in-Call-clause-order_of_text c = order_of_text

pub returns-in-Call-clause-each_is_done : goal.returns-in-Call-clause-each_is_done
returns-in-Call-clause-each_is_done c = each_caller_is_done

pub returns-in-Call-clause-apart : goal.returns-in-Call-clause-apart
returns-in-Call-clause-apart c = program_is_apart

pub returns-in-Call-clause-fixed : goal.returns-in-Call-clause-fixed
returns-in-Call-clause-fixed c = run_is_fixed

pub returns-in-Call-clause-is_run : goal.returns-in-Call-clause-is_run
returns-in-Call-clause-is_run c = run_in_order_is_run

pub returns-in-End-clause-order_of_text : goal.returns-in-End-clause-order_of_text
returns-in-End-clause-order_of_text c = order_of_text

pub returns-in-End-clause-each_is_done : goal.returns-in-End-clause-each_is_done
returns-in-End-clause-each_is_done c = each_caller_is_done

pub returns-in-End-clause-apart : goal.returns-in-End-clause-apart
returns-in-End-clause-apart c = program_is_apart

pub returns-in-End-clause-fixed : goal.returns-in-End-clause-fixed
returns-in-End-clause-fixed c = run_is_fixed

pub returns-in-End-clause-is_run : goal.returns-in-End-clause-is_run
returns-in-End-clause-is_run c = run_in_order_is_run
