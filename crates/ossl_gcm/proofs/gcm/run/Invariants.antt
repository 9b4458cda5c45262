use Rattle.std.proofs.Common.{◌≡◌, ℕ, List, ◌++◌, map, drop}
use Rattle.std.specs.List.{concat}
use Rattle.ossl_gcm.specs.Outcome.{outcome_of, early_of}
use Rattle.ossl_gcm.specs.Run.{before}
use Rattle.ossl_gcm.proofs.gcm.run.Given as goal

abbrev pub invariant-loop-piece : goal.invariant-loop-piece
invariant-loop-piece g l = record {
  appends : (given : List ℕ) × (l.out.items ≡ l.fn.out.items ++ given);
  outcome : before l.fn.out.items (outcome_of g.C.Block.enc l.fn.text (concat (map (λ piece. piece.now) l.pieces)))
      ≡ before l.out.items (outcome_of g.C.Block.enc l.text (concat (map (λ piece. piece.now) (drop l.piece-index l.pieces))));
  early : l.fn.out.items ++ early_of g.C.Block.enc l.fn.text (concat (map (λ piece. piece.now) l.pieces))
      ≡ l.out.items ++ early_of g.C.Block.enc l.text (concat (map (λ piece. piece.now) (drop l.piece-index l.pieces)));
}
