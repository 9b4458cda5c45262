use Rattle.std.proofs.Common.{◌≡◌, []}
use Rattle.ossl_calls.specs.Registry.{fixed_of}
use Rattle.ossl_state.specs.History.{IsLegal}
use Rattle.ossl_ordered.specs.Work.{AreReady, RunsBy}
use Rattle.ossl_ordered.proofs.run.run_rest.Given as goal

-- the turns by the order of the text so far
abbrev pub invariant-turns : goal.invariant-turns
invariant-turns g l = record {
  turns : RunsBy [] [] (fixed_of g.P.Provider.facts l.fn.desk).contexts l.fn.desk.entries l.desk.entries l.fn.players l.players;
  ready : AreReady l.players;
  legal : IsLegal (fixed_of g.P.Provider.facts l.desk) l.desk.entries;
  fixed : fixed_of g.P.Provider.facts l.desk ≡ fixed_of g.P.Provider.facts l.fn.desk;
}
