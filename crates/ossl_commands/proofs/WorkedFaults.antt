-- Worked faulty lines, by computation, at least three of each kind.
use Rattle.std.proofs.Common.{◌≡◌, ℕ, List, [], ◌∷◌, ◌++◌, refl}
use Rattle.std.specs.Prelude.{codes, Err}
use Rattle.hex.specs.Hex.{decode_pairs}
use Rattle.ossl_commands.specs.declared.kind.LineKind.{LineKind}
use Rattle.ossl_commands.specs.declared.kind.LineKind.TheVariants.{Byte, Caller, Command, Arguments, Option, Data}
use Rattle.ossl_commands.specs.Judging.{commands_of}

-- the first faulty line of a text
abbrev faulty : List ℕ → ℕ → LineKind → Type 0
faulty text number kind = commands_of text ≡ Err (record { number = number; kind = kind })

-- a control byte
pub control_byte : faulty (codes "1 dgst MD5 text:\u{1}") 1 Byte
control_byte = refl

-- a byte is judged before the caller
pub byte_alone : faulty (codes "\u{1}") 1 Byte
byte_alone = refl

-- a carriage return before no line feed
pub bare_return : faulty (codes "1 dgst MD5\r") 1 Byte
bare_return = refl

-- a byte above 126, in a query
pub high_byte : faulty (codes "1 dgst MD5 : " ++ 127 ∷ []) 1 Byte
high_byte = refl

-- no caller
pub no_caller : faulty (codes "dgst MD5") 1 Caller
no_caller = refl

-- callers are counted from 1
pub caller_zero : faulty (codes "0 dgst MD5") 1 Caller
caller_zero = refl

pub caller_leading_zero : faulty (codes "01 dgst MD5") 1 Caller
caller_leading_zero = refl

-- a caller has at most nine digits
pub caller_ten_digits : faulty (codes "1000000000 dgst MD5") 1 Caller
caller_ten_digits = refl

pub query_alone : faulty (codes "  : 1") 1 Caller
query_alone = refl

-- an unknown command
pub unknown_command : faulty (codes "1 frob") 1 Command
unknown_command = refl

pub command_in_capitals : faulty (codes "1 DGST MD5") 1 Command
command_in_capitals = refl

-- a caller alone
pub caller_alone : faulty (codes "1") 1 Command
caller_alone = refl

pub caller_and_query : faulty (codes "1 :") 1 Command
caller_and_query = refl

-- all lines are counted, and the first faulty one is told
pub fault_behind : faulty (codes "# a\n1 dgst MD5\n1 x\n0 y") 3 Command
fault_behind = refl

-- no algorithm
pub no_algorithm : faulty (codes "1 dgst :") 1 Arguments
no_algorithm = refl

pub load_short : faulty (codes "1 load 0 legacy") 1 Arguments
load_short = refl

-- a name that is none
pub load_name : faulty (codes "1 load 0 legacy 1L") 1 Arguments
load_name = refl

pub lib_leading_zero : faulty (codes "1 closelib 00") 1 Arguments
lib_leading_zero = refl

pub unknown_operation : faulty (codes "1 fetch 0 hash MD5 M") 1 Arguments
unknown_operation = refl

-- a query where there may be none
pub query_on_free : faulty (codes "1 free M : a=1") 1 Arguments
query_on_free = refl

-- none where there must be one
pub default_without_query : faulty (codes "1 default 0") 1 Arguments
default_without_query = refl

-- nothing to feed
pub feed_nothing : faulty (codes "1 feed X") 1 Arguments
feed_nothing = refl

-- a surplus word
pub surplus : faulty (codes "1 free M N") 1 Arguments
surplus = refl

-- `retain` twice
pub retained_twice : faulty (codes "1 load 0 legacy L retain retain") 1 Arguments
retained_twice = refl

pub not_retain : faulty (codes "1 load 0 legacy L keep") 1 Arguments
not_retain = refl

-- a command that takes no data
pub kdf_data : faulty (codes "1 kdf HKDF hex:00") 1 Arguments
kdf_data = refl

-- a fixed word that is an option
pub option_as_name : faulty (codes "1 open M key=hex:00") 1 Arguments
option_as_name = refl

-- an option that the command has not
pub unknown_option : faulty (codes "1 dgst MD5 key=hex:00") 1 Option
unknown_option = refl

pub nobodys_option : faulty (codes "1 dgst MD5 foo=1") 1 Option
nobodys_option = refl

-- also where it has none
pub option_without_options : faulty (codes "1 free M a=") 1 Option
option_without_options = refl

pub option_on_load : faulty (codes "1 load 0 legacy L lib=0") 1 Option
option_on_load = refl

-- an option twice
pub repeated : faulty (codes "1 dgst MD5 lib=0 lib=0") 1 Option
repeated = refl

-- an inner cipher beside an inner digest
pub excluded : faulty (codes "1 mac HMAC digest=MD5 cipher=AES-128-CBC") 1 Option
excluded = refl

pub excluded_first : faulty (codes "1 mac CMAC cipher=AES-128-CBC digest=MD5") 1 Option
excluded_first = refl

-- a bad value
pub bad_data : faulty (codes "1 enc RC4 key=00") 1 Option
bad_data = refl

pub bad_direction : faulty (codes "1 enc RC4 dir=up") 1 Option
bad_direction = refl

pub bad_pad : faulty (codes "1 enc RC4 pad=") 1 Option
bad_pad = refl

pub bad_mode : faulty (codes "1 kdf HKDF mode=Both") 1 Option
bad_mode = refl

pub bad_length : faulty (codes "1 kdf HKDF len=-1") 1 Option
bad_length = refl

pub bad_inner : faulty (codes "1 open M X inner=0") 1 Option
bad_inner = refl

pub empty_digest : faulty (codes "1 mac HMAC digest=") 1 Option
empty_digest = refl

pub fed_option : faulty (codes "1 feed X key=hex:00") 1 Option
fed_option = refl

-- an odd number of digits
pub odd_digits : faulty (codes "1 dgst MD5 hex:0") 1 Data
odd_digits = refl

-- a word that is no data
pub no_data : faulty (codes "1 dgst MD5 abc") 1 Data
no_data = refl

pub no_file : faulty (codes "1 feed X hex: file:") 1 Data
unfolding decode_pairs
no_file = refl

pub no_copies : faulty (codes "1 mac HMAC rep:5") 1 Data
no_copies = refl

pub data_in_capitals : faulty (codes "1 enc RC4 Key=hex:00") 1 Data
data_in_capitals = refl

-- the first faulty word from the left gives the kind
pub data_before_option : faulty (codes "1 dgst MD5 abc foo=1") 1 Data
data_before_option = refl

pub option_before_data : faulty (codes "1 dgst MD5 foo=1 abc") 1 Option
option_before_data = refl

pub retain_as_data : faulty (codes "1 dgst MD5 retain") 1 Data
retain_as_data = refl
