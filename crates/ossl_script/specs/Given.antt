-- What the words behind the fixed ones give a command: the bytes of its data, and its options with their defaults.
use Rattle.std.specs.Prelude.{ℕ, true, Some, None, List, [], fold, flat_map}
use Rattle.ossl_codes.specs.declared.code.Operation.TheVariants as operations
use Rattle.ossl_codes.specs.declared.param.Direction.TheVariants.{Encrypt}
use Rattle.ossl_codes.specs.declared.param.KdfMode.TheVariants.{Both}
use Rattle.ossl_commands.specs.declared.command.Argument.{Argument}
use Rattle.ossl_commands.specs.declared.command.Argument.TheVariants.{Piece, Retain, Lib, Digest, Cipher, Inner, Key}
use Rattle.ossl_commands.specs.declared.command.Argument.TheVariants.{Iv, Direction as Way, Pad, Salt, Info, Mode, Len}
pub use Rattle.ossl_commands.specs.Contents.{Content, content_by, data_bytes}
pub use Rattle.ossl_script.specs.declared.options.Options.{Options}

abbrev pub piece_bytes : Content → Argument → List ℕ
piece_bytes content (Piece given) = data_bytes content given
piece_bytes content argument = []

-- the bytes of all pieces, joined
abbrev pub fed_by : Content → List Argument → List ℕ
fed_by content arguments = flat_map (piece_bytes content) arguments

-- without options: library context 0, no inner algorithm, encryption with padding, both steps of a derivation, and no
-- other parameter
abbrev pub default_options : Options
default_options = record {
  lib = 0;
  algorithm = None;
  method = None;
  params = record {
    direction = Encrypt;
    pad = true;
    key = None;
    iv = None;
    salt = None;
    info = None;
    mode = Both;
    len = None;
  };
}

-- one more option
abbrev pub with_argument : Content → Options → Argument → Options
with_argument content options (Piece given) = options
with_argument content options Retain = options
with_argument content options (Lib n) = record options { lib = n }
with_argument content options (Digest name) = record options { algorithm = Some (operations.Digest, name) }
with_argument content options (Cipher name) = record options { algorithm = Some (operations.Cipher, name) }
with_argument content options (Inner name) = record options { method = Some name }
with_argument content options (Key given) =
    record options { params = record (options.params) { key = Some (data_bytes content given) } }
with_argument content options (Iv given) =
    record options { params = record (options.params) { iv = Some (data_bytes content given) } }
with_argument content options (Way way) = record options { params = record (options.params) { direction = way } }
with_argument content options (Pad padded) = record options { params = record (options.params) { pad = padded } }
with_argument content options (Salt given) =
    record options { params = record (options.params) { salt = Some (data_bytes content given) } }
with_argument content options (Info given) =
    record options { params = record (options.params) { info = Some (data_bytes content given) } }
with_argument content options (Mode mode) = record options { params = record (options.params) { mode = mode } }
with_argument content options (Len n) = record options { params = record (options.params) { len = Some n } }

-- the options that stand among these words
abbrev pub options_of : Content → List Argument → Options
options_of content arguments = fold (with_argument content) default_options arguments
