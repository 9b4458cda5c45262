use Rattle.std.proofs.Common.{take, ◌∙◌, ap, sym, arith, length}
use Rattle.std.proofs.lemmas.List.{length-take-le}
use Rattle.ossl_speed.proofs.Pieces.{length-message, take-message}
use Rattle.ossl_speed.proofs.message.front.Goals as goal

pub slice_bounds-result-end : goal.slice_bounds-result-end
slice_bounds-result-end c =
    sym (length-take-le c.args.size c.args.piece.now (omega (arith, c.requires.within, ap length c.requires.piece, length-message 16384)))

pub returns-clause-value : goal.returns-clause-value
returns-clause-value c = ap (take c.args.size) c.requires.piece ∙ take-message c.args.size 16384 c.requires.within

pub returns-clause-size : goal.returns-clause-size
returns-clause-size c = length-take-le c.args.size c.args.piece.now (omega (arith, c.requires.within, ap length c.requires.piece, length-message 16384))
