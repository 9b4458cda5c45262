-- The lines of a text: each has a number of its own, and a caller from 1 up to the greatest.
use Rattle.std.proofs.Common.{◌≡◌, ℕ, ◌+◌, ◌<◌, ◌≤◌, max, true, false, ◌&&◌, nat_eq, nat_lt, nat_le, List, [], ◌∷◌, map, refl, subst, arith, inl, inr}
use Rattle.std.specs.Prelude.{Result, Ok, Err, fold}
use Rattle.std.specs.List.{list_all}
use Rattle.std.specs.Str.Lines.{lines}
use Rattle.std.proofs.lemmas.Bool.{cases_Bool, eqb-false, le-leb, lt-ltb, ne_eqb}
use Rattle.ossl_commands.specs.declared.command.Line.{Line}
use Rattle.ossl_commands.specs.declared.kind.LineKind.{LineKind}
use Rattle.ossl_commands.specs.Counts.{callers_of, lines_of}
use Rattle.ossl_commands.specs.Judging.{Commands, Fault, Said, ◌>>=◌, commands_from, commands_of, judged, numbered}
use Rattle.ossl_commands.specs.Lines.{is_skipped}
use Rattle.ossl_commands.specs.Words.{Files}
use Rattle.ossl_provider.specs.Members.{is_distinct, is_in}
use Rattle.ossl_ordered.proofs.DoneLaws.{none_by_program}

abbrev numbers_of : Commands → List ℕ
numbers_of said = map (λ line. line.number) said.lines

-- no number is less than that of the first line, and none stands twice
record AreApart (first : ℕ) (numbers : List ℕ) : Type 0 where
  from : (n : ℕ) → n < first → is_in n numbers ≡ false
  distinct : is_distinct numbers ≡ true

apart_more : (first : ℕ) (numbers : List ℕ) → AreApart (first + 1) numbers → AreApart first (first ∷ numbers)
apart_more first numbers apart = record {
  from = λ n below. rw (ne_eqb first n (λ same. absurd (omega (arith, below, same))), apart.from n (omega (arith, below))) refl;
  distinct = rw (apart.from first (omega arith), apart.distinct) refl;
}

numbers_apart : (number : ℕ) (files : Files) (texts : List (List ℕ)) (said : Commands) → commands_from number files texts ≡ Ok said → AreApart number (numbers_of said)
numbers_apart number files [] said is =
    let none : Commands = record { lines = []; files = files } in
    let same : none ≡ said = cc in
    subst (λ (c : Commands). AreApart number (numbers_of c)) same (record { from = λ n below. refl; distinct = refl })
numbers_apart number files (text ∷ texts) said is = elim (cases_Bool (is_skipped text)) [
  | inl skipped ↦
      let later = numbers_apart (number + 1) files texts said (rw skipped at is) in
      record { from = λ n below. later.from n (omega (arith, below)); distinct = later.distinct }
  | inr told ↦ of (judged files text) refl (λ named more was. numbers_apart (number + 1) named texts more was) (rw told at is)
]
  where
    step : (told : Said)
        → ((more : Commands) → commands_from (number + 1) told.files texts ≡ Ok more → AreApart (number + 1) (numbers_of more))
        → (r : Result Commands Fault) → commands_from (number + 1) told.files texts ≡ r
        → r >>= (λ more. Ok (record { lines = record { number = number; caller = told.caller; command = told.command } ∷ more.lines; files = more.files })) ≡ Ok said
        → AreApart number (numbers_of said)
    step told behind (Err fault) was is = cc
    step told behind (Ok more) was is =
        let line : Line = record { number = number; caller = told.caller; command = told.command } in
        let whole : Commands = record { lines = line ∷ more.lines; files = more.files } in
        let same : whole ≡ said = cc in
        subst (λ (c : Commands). AreApart number (numbers_of c)) same (apart_more number (numbers_of more) (behind more was))

    of : (judging : Result Said LineKind) → judged files text ≡ judging
        → ((named : Files) (more : Commands) → commands_from (number + 1) named texts ≡ Ok more → AreApart (number + 1) (numbers_of more))
        → numbered number judging (λ named. commands_from (number + 1) named texts) ≡ Ok said → AreApart number (numbers_of said)
    of (Err kind) judging behind is = cc
    of (Ok told) judging behind is = step told (behind told.files) (commands_from (number + 1) told.files texts) refl is

-- lines of which none is the program's have callers from 1 up to the greatest
callers_within : (n first : ℕ) (lines : List Line) → lines_of 0 lines ≡ [] → fold max first (map (λ line. line.caller) lines) ≤ n
    → (first ≤ n) × (list_all (λ (l : Line). nat_lt 0 l.caller && nat_le l.caller n) lines ≡ true)
callers_within n first [] none few = (few, refl)
callers_within n first (line ∷ lines) none few = elim (cases_Bool (nat_eq line.caller 0)) [
  | inl zero ↦ let bad : line ∷ lines_of 0 lines ≡ [] = rw zero at none in absurd cc
  | inr some ↦
      let later = callers_within n (max first line.caller) lines (rw some at none) few in
      let here : max first line.caller ≤ n = later.0 in
      let positive : 0 < line.caller = omega (arith, eqb-false line.caller 0 some) in
      let low : first ≤ n = omega (arith, here) in
      let high : line.caller ≤ n = omega (arith, here) in
      (low, rw (lt-ltb 0 line.caller positive, le-leb line.caller n high, later.1) refl)
]

module _ (text : List ℕ) (said : Commands) (is : commands_of text ≡ Ok said) where
  pub no_program_line : lines_of 0 said.lines ≡ []
  no_program_line = none_by_program 1 [] (lines text) said is

  pub numbers_distinct : is_distinct (map (λ (line : Line). line.number) said.lines) ≡ true
  numbers_distinct = (numbers_apart 1 [] (lines text) said is).distinct

  pub callers_counted : (n : ℕ) → callers_of said.lines ≡ n → list_all (λ (l : Line). nat_lt 0 l.caller && nat_le l.caller n) said.lines ≡ true
  callers_counted n same = (callers_within n 0 said.lines no_program_line (omega (arith, same))).1
