use Rattle.std.proofs.Common.{◌≡◌, ◌-◌, List, ◌++◌, length}
use Rattle.ossl_base.specs.declared.entry.Entry.{Entry}
use Rattle.ossl_calls.specs.Registry.{fixed_of}
use Rattle.ossl_state.specs.declared.call.Call.{Call}
use Rattle.ossl_state.specs.declared.call.Reply.{Reply}
use Rattle.ossl_state.specs.History.{IsLegal}
use Rattle.ossl_script.specs.View.{back_of}
use Rattle.ossl_ordered.specs.Work.{IsKept}
use Rattle.ossl_ordered.proofs.ReturnLaws.{IsBy}
use Rattle.ossl_ordered.proofs.returning.return_held.Given as goal

-- what was given back so far
abbrev pub invariant-loop-call : goal.invariant-loop-call
invariant-loop-call g l = record {
  made : (given : List (Entry Call Reply)) × (l.desk.entries ≡ l.fn.desk.entries ++ given) × IsBy l.fn.player.caller given l.player.work.given;
  kept : IsKept l.fn.player l.player;
  legal : IsLegal (fixed_of g.P.Provider.facts l.desk) l.desk.entries;
  fixed : fixed_of g.P.Provider.facts l.desk ≡ fixed_of g.P.Provider.facts l.fn.desk;
}

abbrev pub decreases-loop-call : goal.decreases-loop-call
decreases-loop-call g l = length (back_of l.player.work) - length l.player.work.given
