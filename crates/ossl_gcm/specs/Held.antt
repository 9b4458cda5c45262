-- The text that a decryption holds.
use Rattle.std.specs.Prelude.{ℕ, List, [], Some, None}
use Rattle.ossl_gcm.specs.declared.state.Opener.{Opener}

-- the bytes fed so far
abbrev pub text_of : {C : Type 0} → Opener C → List ℕ
text_of o = elim o.held as (λ _. List ℕ) [ None ↦ [] | Some text ↦ text.items ]
