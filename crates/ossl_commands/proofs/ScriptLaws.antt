-- A text read line by line.
use Rattle.std.proofs.Common.{◌≡◌, ℕ, ◌+◌, true, false, List, [], ◌∷◌, ◌++◌, refl, sym, ap, ◌∙◌, append_assoc}
use Rattle.std.specs.Prelude.{if◌then◌else◌, Result, Ok, Err}
use Rattle.std.proofs.lemmas.List.{append-nil}
use Rattle.ossl_commands.specs.declared.command.Line.{Line}
use Rattle.ossl_commands.specs.declared.kind.LineKind.{LineKind}
use Rattle.ossl_commands.specs.Judging.{Commands, Fault, Said, ◌>>=◌, commands_from, continued, judged, numbered}
use Rattle.ossl_commands.specs.Lines.{is_skipped}
use Rattle.ossl_commands.specs.Words.{Files}

-- no line is left
pub all_said : (done : List Line) (number : ℕ) (files : Files) → continued done (commands_from number files []) ≡ Ok (record { lines = done; files = files })
all_said done number files = ap (λ (lines : List Line). let said : Commands = record { lines = lines; files = files } in let good : Result Commands Fault = Ok said in good) (append-nil done)

-- a skipped line
pub line_skipped : (done : List Line) (number : ℕ) (files : Files) (text : List ℕ) (behind : List (List ℕ)) → is_skipped text ≡ true
    → continued done (commands_from number files (text ∷ behind)) ≡ continued done (commands_from (number + 1) files behind)
line_skipped done number files text behind skipped =
    ap (λ b. continued done (if b then commands_from (number + 1) files behind else numbered number (judged files text) (λ named. commands_from (number + 1) named behind))) skipped

-- a line that is judged
line_judged : (done : List Line) (number : ℕ) (files : Files) (text : List ℕ) (behind : List (List ℕ)) (judging : Result Said LineKind)
    → is_skipped text ≡ false → judged files text ≡ judging
    → continued done (commands_from number files (text ∷ behind)) ≡ continued done (numbered number judging (λ named. commands_from (number + 1) named behind))
line_judged done number files text behind judging other is =
    ap (λ b. continued done (if b then commands_from (number + 1) files behind else numbered number (judged files text) (λ named. commands_from (number + 1) named behind))) other
    ∙ ap (λ j. continued done (numbered number j (λ named. commands_from (number + 1) named behind))) is

-- a command
pub line_said : (done : List Line) (number : ℕ) (files : Files) (text : List ℕ) (behind : List (List ℕ)) (said : Said)
    → is_skipped text ≡ false → judged files text ≡ Ok said
    → continued done (commands_from number files (text ∷ behind))
    ≡ continued (done ++ record { number = number; caller = said.caller; command = said.command } ∷ []) (commands_from (number + 1) said.files behind)
line_said done number files text behind said other is =
    line_judged done number files text behind (Ok said) other is ∙ at (commands_from (number + 1) said.files behind)
  where
    at : (later : Result Commands Fault) → continued done (later >>= λ more. Ok (record { lines = record { number = number; caller = said.caller; command = said.command } ∷ more.lines; files = more.files }))
        ≡ continued (done ++ record { number = number; caller = said.caller; command = said.command } ∷ []) later
    at (Err fault) = refl
    at (Ok more) =
        ap (λ (lines : List Line). let said : Commands = record { lines = lines; files = more.files } in let good : Result Commands Fault = Ok said in good)
        (sym (append_assoc done (record { number = number; caller = said.caller; command = said.command } ∷ []) more.lines))

-- a faulty line
pub line_faulty : (done : List Line) (number : ℕ) (files : Files) (text : List ℕ) (behind : List (List ℕ)) (kind : LineKind)
    → is_skipped text ≡ false → judged files text ≡ Err kind
    → continued done (commands_from number files (text ∷ behind)) ≡ Err (record { number = number; kind = kind })
line_faulty done number files text behind kind other is = line_judged done number files text behind (Err kind) other is

-- before any line
pub nothing_said : (said : Result Commands Fault) → said ≡ continued [] said
nothing_said (Ok more) = refl
nothing_said (Err fault) = refl
