-- How an operation goes on and ends, by what its algorithm's state gives of the bytes that come yet.
use Rattle.std.proofs.Common.{◌≡◌, ℕ, List, [], ◌++◌, Result, Ok, Err, OnOk, OnErr, sym, ap, ◌∙◌, append_assoc}
use Rattle.std.proofs.lemmas.List.{append_cancel_left, append-nil}
use Rattle.ossl_modes.specs.declared.kinds.FinishRefused.{FinishRefused}
use Rattle.ossl_modes.specs.Modes.{before}
use Rattle.ossl_op.specs.Standard.{standard_result, unchecked_text}
use Rattle.ossl_op.specs.Work.{Work, Appends, IsBeginning, carried_on, result_of, result_with, unchecked_of}
use Rattle.ossl_op.specs.Work.{unchecked_with}
use Rattle.ossl_op.specs.Running.{GivesAtEnd}

-- what was appended, whichever way it is told
pub same_text : (old new x y : List ℕ) → new ≡ old ++ x → new ≡ old ++ y → x ≡ y
same_text old new x y a b = append_cancel_left old x y (sym a ∙ b)

-- nothing was appended
pub no_text : (old text : List ℕ) → old ≡ old ++ text → [] ≡ text
no_text old text same = append_cancel_left old [] text (append-nil old ∙ same)

pub appends_nothing : (old new : List ℕ) → new ≡ old → Appends old new
appends_nothing old new same = ([], same ∙ sym (append-nil old))

-- a call that appends a text, or refuses and appends nothing
pub appends_or_not : {T E : Type 0} (r : Result T E) (P : Type 0) (old new : List ℕ) → OnOk r (Appends old new)
    → OnErr r (P × (new ≡ old)) → Appends old new
appends_or_not (Ok x) P old new given kept = given
appends_or_not (Err x) P old new given kept = appends_nothing old new kept.1

-- what holds anyway holds of a refused call
pub on_err : {T E Q : Type 0} (r : Result T E) → Q → OnErr r Q
on_err (Ok x) holds = tt
on_err (Err x) holds = holds

-- the bytes fed, and the rest
pub result-fed : (work : Work) (bytes text rest : List ℕ)
    → result_with (carried_on work bytes text) rest ≡ result_with work (bytes ++ rest)
result-fed work bytes text rest =
    ap (λ (fed : List ℕ). standard_result work.code work.inner work.params fed) (append_assoc work.fed bytes rest)

pub unchecked-fed : (work : Work) (bytes text rest : List ℕ)
    → unchecked_with (carried_on work bytes text) rest ≡ unchecked_with work (bytes ++ rest)
unchecked-fed work bytes text rest =
    ap (λ (fed : List ℕ). unchecked_text work.code work.params fed) (append_assoc work.fed bytes rest)

-- nothing comes yet
pub result-whole : (work : Work) → result_of work ≡ result_with work []
result-whole work =
    ap (λ (fed : List ℕ). standard_result work.code work.inner work.params fed) (sym (append-nil work.fed))

pub unchecked-whole : (work : Work) → unchecked_of work ≡ unchecked_with work []
unchecked-whole work = ap (λ (fed : List ℕ). unchecked_text work.code work.params fed) (sym (append-nil work.fed))

-- an operation that gives nothing before its end goes on
pub at_end_fed : (work : Work) (bytes text old : List ℕ) (f g : List ℕ → List ℕ) → old ≡ old ++ text
    → ((rest : List ℕ) → f (bytes ++ rest) ≡ g rest) → GivesAtEnd work f → GivesAtEnd (carried_on work bytes text) g
at_end_fed work bytes text old f g same goes_on was = record {
  nothing = ap (λ (t : List ℕ). work.given ++ t) (sym (no_text old text same)) ∙ append-nil work.given ∙ was.nothing;
  text_is = λ rest. result-fed work bytes text rest ∙ was.text_is (bytes ++ rest) ∙ ap Ok (goes_on rest);
}

-- and ends
pub at_end_finished : (work : Work) (f : List ℕ → List ℕ) (bytes text : List ℕ) → GivesAtEnd work f → bytes ≡ f []
    → bytes ≡ text
    → result_of work ≡ Ok (work.given ++ text)
at_end_finished work f bytes text was all given =
    result-whole work ∙ was.text_is [] ∙ ap Ok (sym all ∙ given ∙ ap (λ (t : List ℕ). t ++ text) (sym was.nothing))

pub at_end_beginning : (work : Work) (f : List ℕ → List ℕ) → GivesAtEnd work f
    → IsBeginning work.given (unchecked_of work)
at_end_beginning work f was = (unchecked_of work, ap (λ (t : List ℕ). t ++ unchecked_of work) was.nothing)

-- the text before an outcome is told once
pub before_cancel : (old text : List ℕ) (x y : Result (List ℕ) FinishRefused) → before old x ≡ before (old ++ text) y
    → x ≡ before text y
before_cancel old text (Ok x) (Ok y) same =
    let joined : old ++ x ≡ old ++ text ++ y = cc in
    ap Ok (append_cancel_left old x (text ++ y) (joined ∙ append_assoc old text y))
before_cancel old text (Ok x) (Err y) same = absurd (cc)
before_cancel old text (Err x) (Ok y) same = absurd (cc)
before_cancel old text (Err x) (Err y) same = same

pub before_finished : (old new text : List ℕ) (x : Result (List ℕ) FinishRefused) → before old x ≡ Ok new
    → new ≡ old ++ text → x ≡ Ok text
before_finished old new text (Ok x) ends given =
    let joined : old ++ x ≡ new = cc in ap Ok (append_cancel_left old x text (joined ∙ given))
before_finished old new text (Err x) ends given = absurd (cc)
