use Rattle.std.proofs.Common.{◌∷◌, [], get_or}
use Rattle.ossl_aes.proofs.columns.store.Goals as goal

pub returns : goal.returns
returns c = λ i. get_or (c.word_bytes.ensures i) 0 0 ∷ get_or (c.word_bytes.ensures i) 1 0 ∷ get_or (c.word_bytes.ensures i) 2 0 ∷ get_or (c.word_bytes.ensures i) 3 0 ∷ get_or (c.word_bytes-2.ensures i) 0 0 ∷ get_or (c.word_bytes-2.ensures i) 1 0 ∷ get_or (c.word_bytes-2.ensures i) 2 0 ∷ get_or (c.word_bytes-2.ensures i) 3 0 ∷ get_or (c.two_words_bytes.ensures i) 0 0 ∷ get_or (c.two_words_bytes.ensures i) 1 0 ∷ get_or (c.two_words_bytes.ensures i) 2 0 ∷ get_or (c.two_words_bytes.ensures i) 3 0 ∷ get_or (c.two_words_bytes.ensures i) 4 0 ∷ get_or (c.two_words_bytes.ensures i) 5 0 ∷ get_or (c.two_words_bytes.ensures i) 6 0 ∷ get_or (c.two_words_bytes.ensures i) 7 0 ∷ []
