-- What the worked examples ask of a text.
use Rattle.std.specs.Prelude.{ℕ, Option, Result, Ok, List, [], codes}
use Rattle.ossl_base.specs.Files.{Entries}
use Rattle.ossl_conf.specs.declared.refusal.ConfRefused.{ConfRefused}
use Rattle.ossl_conf.specs.Sections.{value_in, default_section}
use Rattle.ossl_conf.specs.Reading.{◌>>=◌, sections_of}
use Rattle.ossl_conf.specs.Answers.{told}
use Rattle.ossl_conf.specs.Settings.{Asked, asked_in}

-- the value of x in the section `default`, or why the text is refused, with these files
abbrev pub x_with : Entries → List ℕ → Result (Option (List ℕ)) ConfRefused
x_with files text = sections_of (told files) text >>= λ sections. Ok (value_in sections default_section (codes "x"))

-- the same without files
abbrev pub x_of : List ℕ → Result (Option (List ℕ)) ConfRefused
x_of text = x_with [] text

-- what a text asks for, or why it is refused before its default query is read
abbrev pub asked_of : List ℕ → Result Asked ConfRefused
asked_of text = sections_of (told []) text >>= asked_in
