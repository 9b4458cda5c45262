-- What a contract sees of an HMAC at work: its hash, its key, and the bytes that it was fed.
use Rattle.std.specs.Prelude.{ℕ, List, ◌++◌}
use Rattle.ossl_digests.specs.declared.hash.Hash.{Hash}
use Rattle.ossl_digests.specs.Holds as D
use Rattle.ossl_hmac.specs.declared.hmac.Hmac.{Hmac}
use Rattle.ossl_hmac.specs.Hmac.{padded_key}

-- the HMAC is one of the hash under the key, and holds the bytes m: all that it was fed, joined
pub record Holds (mac : Hmac) (hash : Hash) (key m : List ℕ) : Type 0 where
  pub inner : D.Holds mac.inner hash (padded_key 0x36 hash key ++ m)
  pub outer : D.Holds mac.outer hash (padded_key 0x5C hash key)
