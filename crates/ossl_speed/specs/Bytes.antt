-- The bytes of a value.
use Rattle.std.specs.Prelude.{ℕ, List}
use Rattle.ossl_speed.specs.declared.value.Value.{Value}
use Rattle.ossl_speed.specs.declared.value.Value.TheVariants.{Digest, Block, Text}

-- a value's bytes, whichever way they are stored
abbrev pub bytes_of : Value → List ℕ
bytes_of (Digest bytes) = bytes
bytes_of (Block block) = block
bytes_of (Text text) = text.items
