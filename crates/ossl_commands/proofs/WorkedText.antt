-- Worked lines and words, by computation: what is skipped, where words and queries end, and what a word says.
use Rattle.std.proofs.Common.{◌≡◌, true, false, [], ◌∷◌, refl}
use Rattle.std.specs.Prelude.{codes, None, Some, replicate}
use Rattle.std.specs.Str.Lines.{lines}
use Rattle.hex.specs.Hex.{decode_pairs}
use Rattle.ossl_commands.specs.declared.command.Data.TheVariants.{Bytes, Copies, File}
use Rattle.ossl_commands.specs.Lines.{is_skipped, before_query, query_text, words_of}
use Rattle.ossl_commands.specs.Words.{number_of, caller_of, is_name, data_of, option_word}

-- a carriage return before a line feed goes, and the last line may lack its line feed
pub line_ends : lines (codes "a\r\n\n# b\nc") ≡ codes "a" ∷ [] ∷ codes "# b" ∷ codes "c" ∷ []
line_ends = refl

pub no_line_behind : lines (codes "a\n") ≡ codes "a" ∷ []
no_line_behind = refl

pub no_lines : lines [] ≡ []
no_lines = refl

-- a carriage return before no line feed is a byte of its line
pub bare_return : lines (codes "a\rb\nc\r") ≡ codes "a\rb" ∷ codes "c\r" ∷ []
bare_return = refl

pub blank_skipped : is_skipped (codes " \t ") ≡ true
blank_skipped = refl

pub empty_skipped : is_skipped [] ≡ true
empty_skipped = refl

-- a comment may hold any bytes
pub comment_skipped : is_skipped (9 ∷ 35 ∷ 0 ∷ 255 ∷ 13 ∷ []) ≡ true
comment_skipped = refl

pub command_kept : is_skipped (codes "1 # x") ≡ false
command_kept = refl

pub words_apart : words_of (codes " \tload  0\tdefault ") ≡ codes "load" ∷ codes "0" ∷ codes "default" ∷ []
words_apart = refl

-- the first word that is `:` ends the words, and all behind it is the query, spaces included
pub query_found : query_text true (codes "1 dgst MD5 :  a=1 : b ") ≡ Some (codes "  a=1 : b ")
query_found = refl

pub query_words : before_query true (codes "1 dgst MD5 :  a=1 : b ") ≡ codes "1 dgst MD5 "
query_words = refl

-- a word that only holds a `:` is none
pub colon_within : query_text true (codes "1 dgst : MD5 :x") ≡ Some (codes " MD5 :x")
colon_within = refl

pub no_colon : query_text true (codes "1 dgst MD5 hex:00 text:: :x x: ::") ≡ None
no_colon = refl

pub empty_query : query_text true (codes "1 default 0\t:") ≡ Some []
empty_query = refl

pub zero : number_of (codes "0") ≡ Some 0
zero = refl

pub nine_digits : number_of (codes "999999999") ≡ Some 999999999
nine_digits = refl

pub ten_digits : number_of (codes "1000000000") ≡ None
ten_digits = refl

pub leading_zero : number_of (codes "07") ≡ None
leading_zero = refl

pub no_digits : number_of [] ≡ None
no_digits = refl

pub signed : number_of (codes "+7") ≡ None
signed = refl

pub caller_zero : caller_of (codes "0") ≡ None
caller_zero = refl

pub caller_16 : caller_of (codes "16") ≡ Some 16
caller_16 = refl

pub name_32 : is_name (97 ∷ replicate 31 95) ≡ true
name_32 = refl

pub name_33 : is_name (97 ∷ replicate 32 95) ≡ false
name_33 = refl

pub name_digit_first : is_name (codes "1a") ≡ false
name_digit_first = refl

pub name_dash : is_name (codes "a-b") ≡ false
name_dash = refl

pub hex_data : data_of [] (codes "hex:00fF") ≡ Some (Bytes (0 ∷ 255 ∷ []), [])
unfolding decode_pairs
hex_data = refl

pub hex_none : data_of [] (codes "hex:") ≡ Some (Bytes [], [])
unfolding decode_pairs
hex_none = refl

pub hex_odd : data_of [] (codes "hex:0") ≡ None
hex_odd = refl

pub hex_bad : data_of [] (codes "hex:0g") ≡ None
unfolding decode_pairs
hex_bad = refl

pub text_data : data_of [] (codes "text:a=b:c") ≡ Some (Bytes (codes "a=b:c"), [])
text_data = refl

-- the digits of the byte may be of either case, and there are two of them
pub copies_data : data_of [] (codes "rep:131:aA") ≡ Some (Copies 131 170, [])
unfolding decode_pairs
copies_data = refl

pub copies_of_none : data_of [] (codes "rep:0:00") ≡ Some (Copies 0 0, [])
unfolding decode_pairs
copies_of_none = refl

pub copies_leading_zero : data_of [] (codes "rep:01:00") ≡ None
unfolding decode_pairs
copies_leading_zero = refl

pub copies_two_bytes : data_of [] (codes "rep:1:0000") ≡ None
unfolding decode_pairs
copies_two_bytes = refl

pub copies_without_byte : data_of [] (codes "rep:1") ≡ None
copies_without_byte = refl

pub file_data : data_of (codes "a" ∷ []) (codes "file:abc.txt") ≡ Some (File 1, codes "a" ∷ codes "abc.txt" ∷ [])
file_data = refl

-- a file that is named already keeps its place
pub file_again : data_of (codes "a" ∷ codes "b" ∷ []) (codes "file:a") ≡ Some (File 0, codes "a" ∷ codes "b" ∷ [])
file_again = refl

pub file_without_name : data_of [] (codes "file:") ≡ None
file_without_name = refl

-- the forms are in lower case
pub form_in_capitals : data_of [] (codes "HEX:00") ≡ None
form_in_capitals = refl

pub option_cut : option_word (codes "key=text:a=b") ≡ Some (codes "key", codes "text:a=b")
option_cut = refl

-- a word is an option where lower-case letters stand before its first `=`, and at least one
pub no_option : option_word (codes "text:a=b") ≡ None
no_option = refl

pub no_option_name : option_word (codes "=a") ≡ None
no_option_name = refl

pub option_in_capitals : option_word (codes "Key=a") ≡ None
option_in_capitals = refl
