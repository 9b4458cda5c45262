-- How a digester, an HMAC, a CMAC and a vector stand after some bytes, by what they held before.
use Rattle.std.specs.Prelude.{◌≡◌, ℕ, List, ◌++◌}
use Rattle.ossl_digests.specs.declared.hash.Hash.{Hash}
use Rattle.ossl_digests.specs.declared.digester.Digester.{Digester}
use Rattle.ossl_digests.specs.Holds as D
use Rattle.ossl_hmac.specs.declared.hmac.Hmac.{Hmac}
use Rattle.ossl_hmac.specs.Holds as M
use Rattle.ossl_aes.specs.declared.block.Block.{Ghosts}
use Rattle.ossl_cmac.specs.declared.state.Cmac.{Cmac}
use Rattle.ossl_cmac.specs.Run.{mac_of}

-- whatever the first held, the second holds that and the bytes x
abbrev pub IsDigesterFed : Digester → List ℕ → Digester → Type 0
IsDigesterFed a x b = (hash : Hash) (m : List ℕ) → D.Holds a hash m → D.Holds b hash (m ++ x)

-- whatever the first held under a key, the second holds that and the bytes x
abbrev pub IsHmacFed : Hmac → List ℕ → Hmac → Type 0
IsHmacFed a x b = (hash : Hash) (key m : List ℕ) → M.Holds a hash key m → M.Holds b hash key (m ++ x)

-- whatever bytes come yet, the second makes of them what the first makes of x and them
abbrev pub IsCmacFed : {C : Type 0} {g : Ghosts C} → Cmac C g → List ℕ → Cmac C g → Type 0
IsCmacFed a x b = (rest : List ℕ) → mac_of a (x ++ rest) ≡ mac_of b rest

-- the second list is the first with the bytes x behind it
abbrev pub IsAppended : List ℕ → List ℕ → List ℕ → Type 0
IsAppended a x b = b ≡ a ++ x
