use Rattle.std.proofs.Common.{◌≡◌, ℕ, List, [], ◌∷◌, ◌++◌, ◌+◌, ◌<◌, map, drop, length, get_or, arith, ap, ◌∙◌, refl, sym, add-one, drop-cons, Bor}
use Rattle.std.specs.List.{concat}
use Rattle.std.proofs.lemmas.List.{append-nil, drop_all}
use Rattle.ossl_gcm.specs.Outcome.{outcome_of, early_of}
use Rattle.ossl_gcm.specs.Run.{before}
use Rattle.ossl_gcm.proofs.Runs.{appended_twice, begins, run_ends}
use Rattle.ossl_gcm.proofs.gcm.run.Goals as goal

-- the bytes of pieces, joined
abbrev joined_pieces : List (Bor (List ℕ)) → List ℕ
joined_pieces pieces = concat (map (λ piece. piece.now) pieces)

next_piece : (b : List (Bor (List ℕ))) (i : ℕ) (d : Bor (List ℕ)) → i < length b → drop i b ≡ get_or b i d ∷ drop (i + 1) b
next_piece b i d h = rw (add-one, drop-cons b i d h) refl

pub loop-piece-init : goal.loop-piece-init
loop-piece-init g c = record { appends = ([], sym (append-nil c.args.out.now.items)); outcome = refl; early = refl }

pub loop-piece-preserved : goal.loop-piece-preserved
loop-piece-preserved g c =
    let pieces = c.args.pieces.now in
    let enc = g.C.Block.enc in
    let i = c.loop-piece.piece-index in
    let more = next_piece pieces i (record { ref_ptr = (0, 0); now = [] }) c.loop-piece-test.true in
    record {
      appends = appended_twice _ _ _ c.loop-piece.invariant.appends c.in-Ok.ensures.appends;
      outcome = c.loop-piece.invariant.outcome
          ∙ ap (λ (x : List (Bor (List ℕ))). before c.loop-piece.out.items (outcome_of enc c.loop-piece.text (joined_pieces x))) more
          ∙ c.in-Ok.ensures.outcome (joined_pieces (drop (i + 1) pieces));
      early = c.loop-piece.invariant.early
          ∙ ap (λ (x : List (Bor (List ℕ))). c.loop-piece.out.items ++ early_of enc c.loop-piece.text (joined_pieces x)) more
          ∙ c.in-Ok.ensures.early (joined_pieces (drop (i + 1) pieces));
    }

pub returns-in-Err : goal.returns-in-Err
returns-in-Err g c =
    let left = early_of g.C.Block.enc c.loop-piece.text (joined_pieces (drop c.loop-piece.piece-index c.args.pieces.now)) in
    begins c.args.out.now.items c.loop-piece.out.items _ _ left c.loop-piece.invariant.appends c.loop-piece.invariant.early c.in-Err.ensures.err.1

pub returns : goal.returns
returns g c =
    let enc = g.C.Block.enc in
    let none = drop_all c.loop-piece.piece-index c.args.pieces.now (omega arith) in
    run_ends c.finish.result _ _ _ _ _ _ _
    (c.loop-piece.invariant.outcome ∙ ap (λ (x : List (Bor (List ℕ))). before c.loop-piece.out.items (outcome_of enc c.loop-piece.text (joined_pieces x))) none)
    (c.loop-piece.invariant.early ∙ ap (λ (x : List (Bor (List ℕ))). c.loop-piece.out.items ++ early_of enc c.loop-piece.text (joined_pieces x)) none)
    c.loop-piece.invariant.appends c.finish.ensures
