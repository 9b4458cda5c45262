use Rattle.std.proofs.Common.{◌≡◌, drop}
use Rattle.ossl_calls.specs.Registry.{fixed_of}
use Rattle.ossl_state.specs.History.{IsLegal}
use Rattle.ossl_ordered.specs.Work.{AreReady, RunsBy}
use Rattle.ossl_ordered.proofs.run.run_list.Given as goal

-- the turns that the list gave so far
abbrev pub invariant-loop-caller : goal.invariant-loop-caller
invariant-loop-caller g l = record {
  turns : RunsBy l.list (drop l.caller-index l.list) (fixed_of g.P.Provider.facts l.fn.desk).contexts l.fn.desk.entries l.desk.entries l.fn.players l.players;
  ready : AreReady l.players;
  legal : IsLegal (fixed_of g.P.Provider.facts l.desk) l.desk.entries;
  fixed : fixed_of g.P.Provider.facts l.desk ≡ fixed_of g.P.Provider.facts l.fn.desk;
}
