use Rattle.std.proofs.Common.{◌≡◌, ℕ, List, [], ◌∷◌, ◌+◌, ◌<◌, drop, length, get_or, arith, ap, subst, sym, ◌∙◌, refl}
use Rattle.std.proofs.Common.{add-one, drop-cons, Bor}
use Rattle.std.proofs.lemmas.List.{drop_all}
use Rattle.std.proofs.lemmas.Result.{IfErr-at_err}
use Rattle.ossl_op.specs.Running.{IsWantOfMemory}
use Rattle.ossl_op.specs.Work.{Work, begun}
use Rattle.ossl_op_run.specs.Whole.{fed, joined}
use Rattle.ossl_op_run.proofs.Feeding.{IsFed, all_fed, begin_refused, end_refused, fed_more, run_accepted}
use Rattle.ossl_op_run.proofs.pieces.run.Goals as goal

next_piece : (b : List (Bor (List ℕ))) (i : ℕ) (d : Bor (List ℕ)) → i < length b
    → drop i b ≡ get_or b i d ∷ drop (i + 1) b
next_piece b i d h = rw (add-one, drop-cons b i d h) refl

pub returns-in-Err : goal.returns-in-Err
returns-in-Err c =
    let work : Work = fed c.args.code c.args.inner c.args.params.now (joined c.args.pieces.now) in
    rw c.not_begun.ensures (begin_refused work c.args.out.now.items c.in-Err.refusal
    (λ other judged. let same = sym c.in-Err.is ∙ c.begin.ensures.refused other judged in cc)
    (λ judged. (IfErr-at_err (IsWantOfMemory c.args.code) c.in-Err.is (c.begin.ensures.memory judged)).0))

pub loop-piece-preserved : goal.loop-piece-preserved
loop-piece-preserved c =
    let pieces = c.args.pieces.now in
    let i = c.loop-piece.piece-index in
    let d : Bor (List ℕ) = record { ref_ptr = (0, 0); now = [] } in
    let start : Work = begun c.args.code c.args.inner c.args.params.now in
    let was = subst (λ (x : List (Bor (List ℕ))). IsFed c.loop-piece.context start c.args.out.now.items
    c.loop-piece.out.items (joined x) (joined pieces))
    (next_piece pieces i d c.loop-piece-test.true) c.loop-piece.invariant in
    fed_more c.loop-piece.context c.feed.new.self start c.args.out.now.items c.loop-piece.out.items c.feed.new.out.items
    (get_or pieces i d).now (joined (drop (i + 1) pieces)) (joined pieces) was c.feed.ensures.appends
    c.in-Ok-feed.ensures.runs

pub returns-in-Ok-finish : goal.returns-in-Ok-finish
returns-in-Ok-finish c =
    let start : Work = begun c.args.code c.args.inner c.args.params.now in
    let none = drop_all c.loop-piece.piece-index c.args.pieces.now (omega arith) in
    run_accepted c.loop-piece.context start c.args.out.now.items c.loop-piece.out.items c.finish.new.out.items
    (joined c.args.pieces.now)
    (all_fed c.loop-piece.context start c.args.out.now.items c.loop-piece.out.items _ (joined c.args.pieces.now)
    (ap joined none) c.loop-piece.invariant)
    c.finish.ensures.appends c.in-Ok-finish.ensures.accepted

pub returns-in-Err-finish : goal.returns-in-Err-finish
returns-in-Err-finish c =
    let start : Work = begun c.args.code c.args.inner c.args.params.now in
    let none = drop_all c.loop-piece.piece-index c.args.pieces.now (omega arith) in
    rw c.not_finished.ensures
    (end_refused c.loop-piece.context start c.args.out.now.items c.loop-piece.out.items c.finish.new.out.items
    (joined c.args.pieces.now) c.in-Err-finish.refusal
    (all_fed c.loop-piece.context start c.args.out.now.items c.loop-piece.out.items _ (joined c.args.pieces.now)
    (ap joined none) c.loop-piece.invariant)
    c.in-Err-finish.ensures.unchanged c.in-Err-finish.ensures.refused c.in-Err-finish.ensures.beginning)
