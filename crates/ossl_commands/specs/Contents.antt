-- What data stands for, by the contents of files.
use Rattle.std.specs.Prelude.{ℕ, List, [], replicate, slice_index_or}
use Rattle.ossl_commands.specs.declared.command.Data.{Data}
use Rattle.ossl_commands.specs.declared.command.Data.TheVariants.{Bytes, Copies, File}

-- what the files hold, by their places
abbrev pub Content : Type 0
Content = ℕ → List ℕ

-- the contents of files in the order of their first naming; a file without a content holds nothing
abbrev pub content_by : List (List ℕ) → Content
content_by contents place = slice_index_or contents place []

-- the bytes that data stands for
abbrev pub data_bytes : Content → Data → List ℕ
data_bytes content (Bytes bytes) = bytes
data_bytes content (Copies count byte) = replicate count byte
data_bytes content (File place) = content place
