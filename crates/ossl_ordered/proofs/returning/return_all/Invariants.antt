use Rattle.std.proofs.Common.{◌≡◌, ◌≤◌, ◌<◌, ℕ, List, length}
use Rattle.std.specs.Prelude.{slice_index_or}
use Rattle.ossl_base.specs.declared.entry.Entry.{Entry}
use Rattle.ossl_calls.specs.Registry.{fixed_of}
use Rattle.ossl_state.specs.declared.call.Call.{Call}
use Rattle.ossl_state.specs.declared.call.Reply.{Reply}
use Rattle.ossl_state.specs.History.{IsLegal}
use Rattle.ossl_ordered.specs.declared.player.Player.{Player}
use Rattle.ossl_ordered.specs.Work.{AreAtWork, AreKept}
use Rattle.ossl_ordered.proofs.ReturnLaws.{HaveReturned}
use Rattle.ossl_print.specs.Batched.{Batch}
use Rattle.ossl_ordered.proofs.returning.return_all.Given as goal

-- the callers before this place have given back, and those from it on are as they were
abbrev pub invariant-loop-place : goal.invariant-loop-place
invariant-loop-place g l = record {
  returned : (batch : Batch) (opening turns : List (Entry Call Reply)) → AreAtWork batch (fixed_of g.P.Provider.facts l.fn.desk).contexts opening turns l.fn.desk.entries l.fn.players →
      HaveReturned batch turns l.fn.desk.entries l.desk.entries l.place;
  rest : (k : ℕ) (other : Player) → l.place ≤ k → k < length l.fn.players → slice_index_or l.players k other ≡ slice_index_or l.fn.players k other;
  kept : AreKept l.fn.players l.players;
  legal : IsLegal (fixed_of g.P.Provider.facts l.desk) l.desk.entries;
  fixed : fixed_of g.P.Provider.facts l.desk ≡ fixed_of g.P.Provider.facts l.fn.desk;
}
