use Rattle.std.proofs.Common.{◌≡◌, ℕ, List, ◌++◌, map, drop}
use Rattle.std.specs.List.{concat}
use Rattle.ossl_modes.specs.Modes.{before, outcome, whole_blocks}
use Rattle.ossl_modes.specs.Run.{outcome_of, whole_blocks_of}
use Rattle.ossl_modes.proofs.mode.run.Given as goal

abbrev pub invariant-loop-piece : goal.invariant-loop-piece
invariant-loop-piece g l = record {
  appends : (given : List ℕ) × (l.out.items ≡ l.fn.out.items ++ given);
  text : before l.fn.out.items (outcome (g.C.Block.enc l.fn.cipher) (g.C.Block.dec l.fn.cipher) l.fn.kind l.fn.decrypt l.fn.pad l.fn.iv (concat (map (λ piece. piece.now) l.pieces)))
      ≡ before l.out.items (outcome_of l.mode (concat (map (λ piece. piece.now) (drop l.piece-index l.pieces))));
  unchecked : l.fn.out.items ++ whole_blocks (g.C.Block.enc l.fn.cipher) (g.C.Block.dec l.fn.cipher) l.fn.kind l.fn.decrypt l.fn.iv (concat (map (λ piece. piece.now) l.pieces))
      ≡ l.out.items ++ whole_blocks_of l.mode (concat (map (λ piece. piece.now) (drop l.piece-index l.pieces)));
}
