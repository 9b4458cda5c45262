use Rattle.std.proofs.Common.{◌≡◌, ◌+◌, ◌<◌, ℕ, List, [], ◌∷◌, ◌++◌, take, length, get_or, refl, sym, ap, ◌∙◌, subst}
use Rattle.std.proofs.lemmas.Grind.{flat_map-append}
use Rattle.std.proofs.lemmas.List.{append-nil, take_more}
use Rattle.ossl_commands.specs.declared.command.Argument.{Argument}
use Rattle.ossl_commands.specs.declared.command.Argument.TheVariants.{Piece}
use Rattle.ossl_commands.specs.declared.command.Data.{Data}
use Rattle.ossl_op.specs.declared.context.OpCtx.{OpCtx}
use Rattle.ossl_script.specs.Feeding.{Fed}
use Rattle.ossl_script.specs.Given.{Content, content_by, data_bytes, fed_by, piece_bytes}
use Rattle.ossl_script.proofs.FeedingLaws.{fed_as, fed_nothing, fed_twice}
use Rattle.ossl_script.proofs.feeding.feed_all.Goals as goal
use Rattle.ossl_script.proofs.feeding.feed_all.Goals.{in-Piece+in_ok-feed_data, in_default}

-- the pieces of one argument more
one_more : (content : Content) (arguments : List Argument) (i : ℕ) (d : Argument) → i < length arguments
    → fed_by content (take (i + 1) arguments) ≡ fed_by content (take i arguments) ++ piece_bytes content (get_or arguments i d)
one_more content arguments i d h =
    ap (fed_by content) (take_more arguments i d h)
    ∙ flat_map-append (piece_bytes content) (take i arguments) (get_or arguments i d ∷ [])
    ∙ ap (λ (bytes : List ℕ). fed_by content (take i arguments) ++ bytes) (append-nil (piece_bytes content (get_or arguments i d)))

-- an argument that is no piece has no bytes
no_piece : (content : Content) (argument : Argument) → ((piece : Data) → argument ≡ Piece piece → ⊥) → piece_bytes content argument ≡ []
no_piece content (Piece piece) none = absurd (none piece refl)
no_piece content argument none = refl

pub loop-argument-init : goal.loop-argument-init
loop-argument-init c = fed_nothing c.args.context.now c.args.given.now.items

pub loop-argument-preserved : goal.loop-argument-preserved
loop-argument-preserved c =
    let content = content_by c.args.contents.now in
    let arguments = c.args.arguments.now in
    let i = c.loop-argument.argument-index in
    let one = c.argument-item.result in
    let same : one ≡ get_or arguments i one = c.argument-item.is in
    let bytes : fed_by content (take i arguments) ++ piece_bytes content one ≡ fed_by content (take (i + 1) arguments) =
    ap (λ (argument : Argument). fed_by content (take i arguments) ++ piece_bytes content argument) same
    ∙ sym (one_more content arguments i one c.loop-argument-test.true) in
    elim c.match-argument.branch [
      | in-Piece+in_ok-feed_data w ↦
          let piece : data_bytes content w.in-Piece.piece ≡ piece_bytes content one = sym (ap (piece_bytes content) w.in-Piece.is) in
          subst (λ (context : OpCtx). Fed c.args.context.now context (fed_by content (take (i + 1) arguments)) c.args.given.now.items c.match-argument.given.items)
          (sym w.context-is)
          (subst (λ (given : List ℕ). Fed c.args.context.now w.feed_data.new.context (fed_by content (take (i + 1) arguments)) c.args.given.now.items given)
          (sym (ap (λ v. v.items) w.given-is))
          (fed_as _ _ _ _ _ _ (ap (λ (b : List ℕ). fed_by content (take i arguments) ++ b) piece ∙ bytes)
          (fed_twice _ _ _ _ _ _ _ _ c.loop-argument.invariant w.in_ok-feed_data.ensures)))
      | in_default w ↦
          subst (λ (context : OpCtx). Fed c.args.context.now context (fed_by content (take (i + 1) arguments)) c.args.given.now.items c.match-argument.given.items)
          (sym w.context-is)
          (subst (λ (given : List ℕ). Fed c.args.context.now c.loop-argument.context (fed_by content (take (i + 1) arguments)) c.args.given.now.items given)
          (sym (ap (λ v. v.items) w.given-is))
          (fed_as _ _ _ _ _ _
          (sym (append-nil (fed_by content (take i arguments)))
          ∙ ap (λ (b : List ℕ). fed_by content (take i arguments) ++ b) (sym (no_piece content one w.in_default.not-Piece)) ∙ bytes)
          c.loop-argument.invariant))
    ]
