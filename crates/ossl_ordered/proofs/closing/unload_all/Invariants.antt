use Rattle.std.proofs.Common.{◌≡◌, List, ◌++◌, length, map}
use Rattle.std.specs.Prelude.{reverse}
use Rattle.ossl_state.specs.declared.call.Call.{Call}
use Rattle.ossl_state.specs.declared.call.Call.TheVariants.{Unload}
use Rattle.ossl_state.specs.History.{IsLegal}
use Rattle.ossl_ordered.specs.Owned.{AddsCalls, OwnsAll}
use Rattle.ossl_ordered.proofs.closing.unload_all.Given as goal

-- what was given back, and what is left to give back
abbrev pub invariant-loop-token : goal.invariant-loop-token
invariant-loop-token g l = record {
  made : (calls : List Call) × AddsCalls calls (g.C.Program.entries l.fn.program) (g.C.Program.entries l.program)
      × (map Unload (reverse l.fn.tokens.items) ≡ calls ++ map Unload (reverse l.tokens.items));
  owned : OwnsAll l.tokens.items (g.C.Program.entries l.program);
  legal : IsLegal (g.C.Program.fixed l.program) (g.C.Program.entries l.program);
  fixed : g.C.Program.fixed l.program ≡ g.C.Program.fixed l.fn.program;
}

abbrev pub decreases-loop-token : goal.decreases-loop-token
decreases-loop-token g l = length l.tokens.items
