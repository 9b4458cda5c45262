use Rattle.std.proofs.Common.{◌≡◌, take}
use Rattle.ossl_ordered.specs.Opened.{AreLoaded, IsLoading}
use Rattle.ossl_ordered.proofs.opening.load_all.Given as goal

-- the loads so far
abbrev pub invariant-loop-name : goal.invariant-loop-name
invariant-loop-name g l = record {
  loading : IsLoading (g.C.Program.fixed l.program) (g.C.Program.entries l.program) l.tokens.items;
  loaded : AreLoaded (take l.name-index l.names) (g.C.Program.entries l.program);
  fixed : g.C.Program.fixed l.program ≡ g.C.Program.fixed l.fn.program;
}
