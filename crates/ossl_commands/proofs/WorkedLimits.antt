-- Worked amounts and limits, by computation.
use Rattle.std.proofs.Common.{◌≡◌, ℕ, List, [], ◌∷◌, ◌++◌, refl}
use Rattle.std.specs.Prelude.{codes, Some, None, Ok, Result, Option, flat_map, replicate}
use Rattle.hex.specs.Hex.{decode_pairs}
use Rattle.ossl_commands.specs.declared.limit.Limit.{Limit}
use Rattle.ossl_commands.specs.declared.limit.Limit.TheVariants.{Lines, Callers, Contexts, Line, Total, File}
use Rattle.ossl_commands.specs.Judging.{Commands, Fault, ◌>>=◌, commands_of}
use Rattle.ossl_commands.specs.Counts.{line_count, callers_of, contexts_of}
use Rattle.ossl_commands.specs.Fits.{passed_limit}

-- what a batch amounts to: its lines, callers, library contexts and files
abbrev amounts_to : List ℕ → ℕ → ℕ → ℕ → List (List ℕ) → Type 0
amounts_to text all callers contexts files =
    let amounts : Commands → Result (ℕ × ℕ × ℕ × List (List ℕ)) Fault =
    λ commands. Ok (line_count text, callers_of commands.lines, contexts_of commands.lines, commands.files)
    in
    (commands_of text >>= amounts) ≡ Ok (all, callers, contexts, files)

-- the first limit that a batch passes with these lengths of its files
abbrev passes : List ℕ → List ℕ → Option Limit → Type 0
passes text lengths limit = (commands_of text >>= λ commands. Ok (passed_limit (line_count text) commands.lines lengths)) ≡ Ok limit

pub nothing : amounts_to [] 0 0 1 []
nothing = refl

-- skipped lines are counted, callers by their greatest number, and contexts from 0
pub counted : amounts_to (codes "# a\n\n3 closelib 2\n1 dgst MD5 lib=4\n") 4 3 5 []
counted = refl

-- each file once, where it is named first; options and data count alike, from the left
pub named_files : amounts_to (codes "1 enc RC4 file:b key=file:a file:b\n1 kdf HKDF info=file:c salt=file:a key=file:d") 2 1 1 (codes "b" ∷ codes "a" ∷ codes "c" ∷ codes "d" ∷ [])
named_files = refl

pub caller_16 : passes (codes "16 dgst MD5") [] None
caller_16 = refl

pub caller_17 : passes (codes "17 dgst MD5") [] (Some Callers)
caller_17 = refl

pub context_7 : passes (codes "1 fetch 7 digest MD5 M") [] None
context_7 = refl

pub context_8 : passes (codes "1 fetch 8 digest MD5 M") [] (Some Contexts)
context_8 = refl

pub option_context_8 : passes (codes "1 dgst MD5 lib=8") [] (Some Contexts)
option_context_8 = refl

pub line_full : passes (codes "1 dgst MD5 rep:4194304:00") [] None
unfolding decode_pairs
line_full = refl

pub line_over : passes (codes "1 dgst MD5 rep:4194305:00") [] (Some Line)
unfolding decode_pairs
line_over = refl

-- all that a line declares is added up, `len` too
pub line_sum : passes (codes "1 kdf HKDF mode=extract key=rep:4194300:00 salt=text:ab info=hex:00 len=2") [] (Some Line)
unfolding decode_pairs
line_sum = refl

abbrev full_lines : ℕ → List ℕ
full_lines n = flat_map (λ text. text) (replicate n (codes "1 dgst MD5 rep:4194304:00\n"))

pub total_full : passes (full_lines 16) [] None
unfolding decode_pairs
total_full = refl

pub total_over : passes (full_lines 16 ++ codes "1 dgst MD5 hex:00") [] (Some Total)
unfolding decode_pairs
total_over = refl

-- the lines are judged before all else
pub lines_full : passed_limit 65536 [] [] ≡ None
lines_full = refl

pub lines_over : passed_limit 65537 [] [] ≡ Some Lines
lines_over = refl

-- of several limits the first is named
pub callers_first : passes (codes "17 dgst MD5 rep:4194305:00 lib=9") [] (Some Callers)
unfolding decode_pairs
callers_first = refl

-- a file without a length counts 0
pub file_unknown : passes (codes "1 dgst MD5 file:a") [] None
file_unknown = refl

pub file_full : passes (codes "1 dgst MD5 file:a") (4194304 ∷ []) None
file_full = refl

-- a file that is too long is told before it is added up
pub file_over : passes (codes "1 dgst MD5 file:a") (4194305 ∷ []) (Some File)
file_over = refl

-- what the text alone shows comes before the files
pub text_before_file : passes (codes "1 dgst MD5 file:a rep:4194305:00") (4194305 ∷ []) (Some Line)
unfolding decode_pairs
text_before_file = refl

-- a file counts each time that it is named
pub file_twice : passes (codes "1 dgst MD5 file:a file:b file:a") (2097152 ∷ 1 ∷ []) (Some Line)
file_twice = refl
