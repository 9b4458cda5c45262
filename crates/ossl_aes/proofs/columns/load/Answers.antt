use Rattle.std.proofs.Common.{arith}
use Rattle.ossl_aes.proofs.BlockFacts.{loaded, upper, lower, word_fits}
use Rattle.ossl_aes.proofs.columns.load.Goals as goal

pub returns : goal.returns
returns c =
    let fits = c.type_inv.block in
    let small = word_fits _ _ _ _ (fits 12).fits (fits 13).fits (fits 14).fits (fits 15).fits in
    loaded c.args.block.now _ _ _ _ (omega arith)
    (fits 0).fits (fits 1).fits (fits 2).fits (fits 3).fits (fits 4).fits (fits 5).fits (fits 6).fits (fits 7).fits (fits 8).fits (fits 9).fits (fits 10).fits (fits 11).fits (fits 12).fits (fits 13).fits (fits 14).fits (fits 15).fits
    c.word.ensures c.word-2.ensures (upper _ _ _ c.two_words-last.ensures small) (lower _ _ _ c.two_words-last.ensures small)
