-- Worked batches as commands, by computation.
use Rattle.std.proofs.Common.{◌≡◌, ℕ, true, false, List, [], ◌∷◌, refl}
use Rattle.std.specs.Prelude.{codes, Ok}
use Rattle.hex.specs.Hex.{decode_pairs}
use Rattle.ossl_codes.specs.declared.code.Operation.TheVariants as operations
use Rattle.ossl_codes.specs.declared.param.Direction.TheVariants.{Decrypt}
use Rattle.ossl_codes.specs.declared.param.KdfMode.TheVariants.{Expand}
use Rattle.ossl_commands.specs.declared.command.Argument.{Argument}
use Rattle.ossl_commands.specs.declared.command.Argument.TheVariants.{Piece, Lib, Digest, Cipher, Inner, Key, Iv, Direction as Way, Pad, Salt, Info, Mode, Len}
use Rattle.ossl_commands.specs.declared.command.Data.TheVariants.{Bytes, Copies, File}
use Rattle.ossl_commands.specs.declared.command.Command.{Command}
use Rattle.ossl_commands.specs.declared.command.Command.TheVariants.{Load, Unload, Default, Fetch, UpRef, Free, Open, Feed, Finish, Close, CloseLib, Perform}
use Rattle.ossl_commands.specs.declared.command.Line.{Line}
use Rattle.ossl_commands.specs.Judging.{commands_of}

abbrev line : ℕ → ℕ → Command → Line
line number caller command = record { number = number; caller = caller; command = command }

-- a text says these commands and names these files
abbrev says_with : List ℕ → List (List ℕ) → List Line → Type 0
says_with text files lines = commands_of text ≡ Ok (record { lines = lines; files = files })

abbrev says : List ℕ → List Line → Type 0
says text lines = says_with text [] lines

abbrev dgst : List ℕ → List Argument → List ℕ → Command
dgst algorithm arguments query = Perform operations.Digest algorithm arguments query

-- the message `abc`
abbrev abc : Argument
abc = Piece (Bytes (codes "abc"))

-- one digest; an empty batch
pub one_digest : says (codes "1 dgst SHA2-256 hex:616263") (line 1 1 (dgst (codes "SHA2-256") (abc ∷ []) []) ∷ [])
unfolding decode_pairs
one_digest = refl

pub no_commands : says [] []
no_commands = refl

-- a provider is loaded between two digests
pub load_between : says (codes "1 dgst MD5\n1 load 0 legacy L\n1 dgst MD4") (
    line 1 1 (dgst (codes "MD5") [] [])
    ∷ line 2 1 (Load 0 (codes "legacy") (codes "L") false)
    ∷ line 3 1 (dgst (codes "MD4") [] [])
    ∷ []
    )
load_between = refl

-- two providers, a query behind data
pub optional_fips : says (codes "1 load 0 default A\n1 load 0 fips B\n1 dgst SHA2-256 hex:616263 : ?fips=yes\n") (
    line 1 1 (Load 0 (codes "default") (codes "A") false)
    ∷ line 2 1 (Load 0 (codes "fips") (codes "B") false)
    ∷ line 3 1 (dgst (codes "SHA2-256") (abc ∷ []) (codes " ?fips=yes"))
    ∷ []
    )
unfolding decode_pairs
optional_fips = refl

-- a default query, and queries that change it
pub default_query : says (codes "1 default 0 : fips=yes\r\n1 dgst SHA2-256 hex:616263 : -fips\r\n1 dgst SHA2-256 hex:616263 : fips=no\r\n") (
    line 1 1 (Default 0 (codes " fips=yes"))
    ∷ line 2 1 (dgst (codes "SHA2-256") (abc ∷ []) (codes " -fips"))
    ∷ line 3 1 (dgst (codes "SHA2-256") (abc ∷ []) (codes " fips=no"))
    ∷ []
    )
unfolding decode_pairs
default_query = refl

-- two callers load and unload
pub two_loaders : says (codes "1 load 0 A X\n2 load 0 B Y\n2 load 0 A Z\n1 unload X\n1 dgst SHA2-256 hex:616263") (
    line 1 1 (Load 0 (codes "A") (codes "X") false)
    ∷ line 2 2 (Load 0 (codes "B") (codes "Y") false)
    ∷ line 3 2 (Load 0 (codes "A") (codes "Z") false)
    ∷ line 4 1 (Unload (codes "X"))
    ∷ line 5 1 (dgst (codes "SHA2-256") (abc ∷ []) [])
    ∷ []
    )
unfolding decode_pairs
two_loaders = refl

-- an operation in steps, whose method and provider are given back while it runs
pub steps : says (codes "1 load 0 default A\n1 fetch 0 digest SHA2-256 M\n1 open M X\n1 free M\n1 unload A\n1 load 0 default B\n1 feed X hex:616263\n1 finish X\n1 close X") (
    line 1 1 (Load 0 (codes "default") (codes "A") false)
    ∷ line 2 1 (Fetch 0 operations.Digest (codes "SHA2-256") (codes "M") [])
    ∷ line 3 1 (Open (codes "M") (codes "X") [])
    ∷ line 4 1 (Free (codes "M"))
    ∷ line 5 1 (Unload (codes "A"))
    ∷ line 6 1 (Load 0 (codes "default") (codes "B") false)
    ∷ line 7 1 (Feed (codes "X") (abc ∷ []))
    ∷ line 8 1 (Finish (codes "X"))
    ∷ line 9 1 (Close (codes "X"))
    ∷ []
    )
unfolding decode_pairs
steps = refl

-- a library context is closed by another caller
pub closed_between : says (codes "1 fetch 0 digest SHA2-256 M\n2 closelib 0\n1 fetch 0 digest SHA2-256 N\n1 free M") (
    line 1 1 (Fetch 0 operations.Digest (codes "SHA2-256") (codes "M") [])
    ∷ line 2 2 (CloseLib 0)
    ∷ line 3 1 (Fetch 0 operations.Digest (codes "SHA2-256") (codes "N") [])
    ∷ line 4 1 (Free (codes "M"))
    ∷ []
    )
closed_between = refl

-- a message authentication code, over text and over digits
pub hmac : says (codes "1 load 0 fips F\n1 mac HMAC digest=SHA2-256 key=text:Jefe hex:776861\n1 mac HMAC digest=SHA2-256 key=rep:13:0b hex:00") (
    line 1 1 (Load 0 (codes "fips") (codes "F") false)
    ∷ line 2 1 (Perform operations.Mac (codes "HMAC") (Digest (codes "SHA2-256") ∷ Key (Bytes (codes "Jefe")) ∷ Piece (Bytes (codes "wha")) ∷ []) [])
    ∷ line 3 1 (Perform operations.Mac (codes "HMAC") (Digest (codes "SHA2-256") ∷ Key (Copies 13 11) ∷ Piece (Bytes (0 ∷ [])) ∷ []) [])
    ∷ []
    )
unfolding decode_pairs
hmac = refl

-- each of two callers has a line
pub two_callers : says (codes "1 dgst SHA2-256 hex:616263\n2 dgst MD5") (
    line 1 1 (dgst (codes "SHA2-256") (abc ∷ []) [])
    ∷ line 2 2 (dgst (codes "MD5") [] [])
    ∷ []
    )
unfolding decode_pairs
two_callers = refl

-- a cipher, a code with an inner cipher, and a digest of a file
pub other_operations : says_with (codes "1 load 0 legacy L\n1 enc RC4 key=text:Key text:Plaintext\n1 mac CMAC cipher=AES-128-CBC key=hex:2b7e\n1 dgst SHA2-256 file:abc.txt") (codes "abc.txt" ∷ []) (
    line 1 1 (Load 0 (codes "legacy") (codes "L") false)
    ∷ line 2 1 (Perform operations.Cipher (codes "RC4") (Key (Bytes (codes "Key")) ∷ Piece (Bytes (codes "Plaintext")) ∷ []) [])
    ∷ line 3 1 (Perform operations.Mac (codes "CMAC") (Cipher (codes "AES-128-CBC") ∷ Key (Bytes (43 ∷ 126 ∷ [])) ∷ []) [])
    ∷ line 4 1 (dgst (codes "SHA2-256") (Piece (File 0) ∷ []) [])
    ∷ []
    )
unfolding decode_pairs
other_operations = refl

-- all lines are counted, and the skipped ones say nothing; tabs separate words
pub skipped_between : says (codes "# a batch\n\n \t\r\n\t# \u{1}\n\t12\tunload  A\t\r\n") (line 5 12 (Unload (codes "A")) ∷ [])
skipped_between = refl

-- options and data stand in any order behind the fixed words, and the order of the data is kept
pub options_anywhere : says (codes "3 enc AES-128-CTR text:a key=rep:16:00 text:b dir=decrypt iv=rep:16:01 lib=2 pad=no text:c :") (
    line 1 3 (
    Perform operations.Cipher (codes "AES-128-CTR") (
    Piece (Bytes (codes "a"))
    ∷ Key (Copies 16 0)
    ∷ Piece (Bytes (codes "b"))
    ∷ Way Decrypt
    ∷ Iv (Copies 16 1)
    ∷ Lib 2
    ∷ Pad false
    ∷ Piece (Bytes (codes "c"))
    ∷ []
    ) []
    )
    ∷ []
    )
unfolding decode_pairs
options_anywhere = refl

-- a key derivation, and an operation context with an inner method
pub derivation : says_with (codes "1 kdf HKDF digest=MD5 mode=expand key=hex: salt=text:s info=file:i len=0\n1 open M_1 X inner=D key=hex:") (codes "i" ∷ []) (
    line 1 1 (
    Perform operations.Kdf (codes "HKDF") (
    Digest (codes "MD5")
    ∷ Mode Expand
    ∷ Key (Bytes [])
    ∷ Salt (Bytes (codes "s"))
    ∷ Info (File 0)
    ∷ Len 0
    ∷ []
    ) []
    )
    ∷ line 2 1 (Open (codes "M_1") (codes "X") (Inner (codes "D") ∷ Key (Bytes []) ∷ []))
    ∷ []
    )
unfolding decode_pairs
derivation = refl

-- `retain`; a second method
pub others : says (codes "1 load 7 null A retain\n1 upref A B") (
    line 1 1 (Load 7 (codes "null") (codes "A") true)
    ∷ line 2 1 (UpRef (codes "A") (codes "B"))
    ∷ []
    )
others = refl

-- an algorithm may be any word, also one that looks like an option or like data
pub any_word : says (codes "1 dgst lib=1\n1 dgst hex:0 lib=1") (
    line 1 1 (dgst (codes "lib=1") [] [])
    ∷ line 2 1 (dgst (codes "hex:0") (Lib 1 ∷ []) [])
    ∷ []
    )
any_word = refl
