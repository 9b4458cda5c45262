-- How an answer gives bytes.
use Rattle.std.specs.Prelude.{◌≡◌, ℕ, List, Ok, Err, Result}
use Rattle.std.specs.declared.vec.Vec.{Vec}
use Rattle.ossl_hkdf.specs.declared.mode.HkdfRefused.{HkdfRefused}
use Rattle.ossl_hkdf.specs.declared.mode.HkdfRefused.TheVariants.{TooLong, NoMemory}

-- the answer is these bytes, unless there is no memory for them
abbrev pub Gives : {A : Type 0} → Result (Vec ℕ A) HkdfRefused → List ℕ → Type 0
Gives (Ok bytes) text = bytes.items ≡ text
Gives (Err NoMemory) text = Unit {0}
Gives (Err (TooLong limit)) text = ⊥
