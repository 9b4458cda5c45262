use Rattle.std.proofs.Common.{◌≡◌, ◌<◌, ◌^◌, drop}
use Rattle.ossl_salted.specs.Words.{number_from}
use Rattle.ossl_salted.proofs.words.number.Given as goal

-- what is read so far is below the next power of ten
abbrev pub invariant-loop-byte : goal.invariant-loop-byte
invariant-loop-byte l = (number_from l.number (drop l.byte-index l.word) ≡ number_from 0 l.word) × (l.number < 10 ^ l.byte-index)
