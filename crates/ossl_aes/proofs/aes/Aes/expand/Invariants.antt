use Rattle.std.proofs.Common.{◌≡◌, ◌-◌, length, take}
use Rattle.ossl_aes.specs.Cipher.{key_words, schedule}
use Rattle.ossl_aes.specs.Rounds.{AreInvMixed}
use Rattle.ossl_aes.proofs.aes.Aes.expand.Given as goal

abbrev pub invariant-key : goal.invariant-key
invariant-key g l = (length l.words ≡ g.row.WORDS) × (take l.i l.words ≡ key_words l.key l.i)

abbrev pub invariant-more : goal.invariant-more
invariant-more g l = (length l.words ≡ g.row.WORDS) × (take l.i l.words ≡ schedule g.row.NK l.key (l.i - g.row.NK))

abbrev pub invariant-inverse : goal.invariant-inverse
invariant-inverse g l = (length l.inv_words ≡ g.row.WORDS) × AreInvMixed l.i l.words l.inv_words
