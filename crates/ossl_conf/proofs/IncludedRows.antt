-- Included files by computation: what they change, and why they are refused.
use Rattle.std.proofs.Common.{◌≡◌, ℕ, Option, Some, None, Result, Ok, Err, List, [], ◌∷◌, codes, refl}
use Rattle.ossl_base.specs.Files.{Entries}
use Rattle.ossl_base.specs.declared.files.FileRefusal.TheVariants.{Failed, TooLong}
use Rattle.ossl_conf.specs.declared.kind.ConfKind.TheVariants.{Directive, Equals, Name, Depth}
use Rattle.ossl_conf.specs.declared.refusal.ConfRefused.TheVariants.{Line, NoVariable, File}
use Rattle.ossl_conf.specs.Reading.{Conf, ◌>>=◌, including, sections_of}
use Rattle.ossl_conf.specs.Answers.{told}
use Rattle.ossl_conf.specs.Settings.{Asked, asked_in}
use Rattle.ossl_conf.proofs.Examples.{x_with}

-- some files
abbrev files : Entries
files =
    (codes "init", codes "openssl_conf = i")
    ∷ (codes "section", codes "[s]\nx = 1")
    ∷ (codes "both", codes "x = 2\n.include section\ny = $x")
    ∷ (codes "faulty", codes "x = 1\n\\\n\ny")
    ∷ (codes "itself", codes ".include itself")
    ∷ (codes "3", codes "x = 3")
    ∷ (codes "2", codes ".include 3")
    ∷ (codes "1", codes ".include 2")
    ∷ (codes "0", codes ".include 1")
    ∷ []

-- the lines of a file stand in place of the line
in_place : (sections_of (told files) (codes ".include init\n[i]\nproviders = p\n[p]\nlegacy = l\n[l]\nactivate = 1") >>= asked_in)
    ≡ Ok (record { activations = codes "legacy" ∷ []; properties = None })
in_place = refl

-- the current section stays so at a file's start, and is current again behind it
section_kept : x_with files (codes ".include section\nx = $s::x$x") ≡ Err (NoVariable 2 (codes "x"))
section_kept = refl

section_at_start : x_with files (codes "[s]\n.include both\n[default]\nx = $s::y") ≡ Ok (Some (codes "1"))
section_at_start = refl

section_again : x_with files (codes ".include both\nx = $x$y") ≡ Ok (Some (codes "22"))
section_again = refl

-- a name is a value, and what it names is read each time
by_a_variable : x_with files (codes "f = 3\n.include = $f # y\nx = 4\n.include '3'") ≡ Ok (Some (codes "3"))
by_a_variable = refl

-- four files within each other, and one more
four_deep : x_with files (codes ".include 0") ≡ Ok (Some (codes "3"))
four_deep = refl

too_deep : x_with files (codes ".include itself") ≡ Err (Line 1 Depth)
too_deep = refl

-- a name is judged before the depth, and the depth before the file
empty_name : including (told files) 0 (record { current = codes "s"; sections = []; total = 0; left = 9 }) 7 (codes "nosuch") ≡ Err (Line 7 Depth)
empty_name = refl

no_name : x_with files (codes "\n.include ''") ≡ Err (Line 2 Name)
no_name = refl

no_variable : x_with files (codes ".include $f") ≡ Err (NoVariable 1 (codes "f"))
no_variable = refl

no_directive : x_with files (codes ".pragma = x") ≡ Err (Line 1 Directive)
no_directive = refl

not_there : x_with files (codes "x = 1\n.include nosuch\n[") ≡ Err (File (codes "nosuch") Failed)
not_there = refl

-- a refused line has its number in the file that holds it
in_the_file : x_with files (codes "x = 1\n\n\n\n\n.include faulty") ≡ Err (Line 4 Equals)
in_the_file = refl

-- a file may have as many bytes as are left
fits : told files (codes "3") 5 ≡ Ok (codes "x = 3")
fits = refl

too_long : including (told files) 1 (record { current = codes "s"; sections = []; total = 0; left = 4 }) 7 (codes "3") ≡ Err (File (codes "3") TooLong)
too_long = refl
