use Rattle.std.proofs.Common.{◌≡◌, List}
use Rattle.std.specs.Prelude.{OnOk}
use Rattle.ossl_base.specs.declared.entry.Entry.{Entry}
use Rattle.ossl_state.specs.declared.call.Call.{Call}
use Rattle.ossl_state.specs.declared.call.Reply.{Reply}
use Rattle.ossl_state.specs.History.{IsLegal}
use Rattle.ossl_ordered.specs.Owned.{AreClosed, Closes, Follow}
use Rattle.ossl_ordered.proofs.closing.close_all.Given as goal

-- those before this one are closed
abbrev pub invariant-loop-lib : goal.invariant-loop-lib
invariant-loop-lib g l = record {
  closed : OnOk l.outcome (Closes l.lib (g.C.Program.entries l.fn.program) (g.C.Program.entries l.program));
  follow : (closing : List (Entry Call Reply)) × Follow (g.C.Program.entries l.fn.program) (g.C.Program.entries l.program) closing;
  down : AreClosed l.lib (g.C.Program.fixed l.program) (g.C.Program.entries l.program);
  legal : IsLegal (g.C.Program.fixed l.program) (g.C.Program.entries l.program);
  fixed : g.C.Program.fixed l.program ≡ g.C.Program.fixed l.fn.program;
}
