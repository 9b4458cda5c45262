-- A law of MD4's registers that a trait asks for: no blocks change nothing.
use Rattle.std.proofs.Common.{ℕ, List, [], refl}
use Rattle.ossl_digests.specs.Md4.{registers_after}
use Rattle.ossl_digests.specs.Holds.{HasCompressed}

pub compressed_nothing : (registers : List ℕ) → HasCompressed registers [] registers
unfolding registers_after
compressed_nothing registers = refl
