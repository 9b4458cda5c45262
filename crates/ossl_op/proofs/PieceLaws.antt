-- How a text that is given in pieces goes on and ends.
use Rattle.std.proofs.Common.{◌≡◌, ℕ, List, [], ◌++◌, Result, Ok, Err, OnOk, refl, sym, ap, ◌∙◌, append_assoc}
use Rattle.std.proofs.lemmas.List.{append_cancel_left}
use Rattle.std.proofs.Math.Seq.{take-nil}
use Rattle.ossl_aes.specs.declared.block.Block.{Ghosts}
use Rattle.ossl_modes.specs.declared.kinds.FinishRefused.{FinishRefused}
use Rattle.ossl_modes.specs.declared.kinds.FinishRefused.TheVariants.{StreamEnd}
use Rattle.ossl_modes.specs.declared.state.Mode.{Mode}
use Rattle.ossl_modes.specs.Modes.{before}
use Rattle.ossl_modes.specs.Run.{outcome_of, whole_blocks_of, Finishes}
use Rattle.ossl_modes.proofs.Steps.{before-append}
use Rattle.ossl_chacha.specs.declared.chacha.StreamEnd.{StreamEnd as TheEnd}
use Rattle.ossl_chacha.specs.KeyStream.{ChaChaState, text_from, text_of}
use Rattle.ossl_chacha.specs.Ends.{end_of}
use Rattle.ossl_legacy.specs.Rc4State.{Rc4State, text_of as rc4_text}
use Rattle.ossl_op.specs.Work.{Work, carried_on, result_of}
use Rattle.ossl_op.specs.Running.{RunsMode, RunsChaCha, RunsRc4, streamed}
use Rattle.ossl_op.proofs.WorkLaws.{same_text, result-fed, unchecked-fed, result-whole, before_cancel, before_finished}

-- two facts of an accepted call make a third
pub on_ok_both : {T E P Q R : Type 0} (r : Result T E) → (P → Q → R) → OnOk r P → OnOk r Q → OnOk r R
on_ok_both (Ok x) f p q = f p q
on_ok_both (Err x) f p q = tt

pub on_ok_three : {T E P Q R S : Type 0} (r : Result T E) → (P → Q → R → S) → OnOk r P → OnOk r Q → OnOk r R → OnOk r S
on_ok_three (Ok x) f p q t = f p q t
on_ok_three (Err x) f p q t = tt

pub mode_fed : {C : Type 0} {g : Ghosts C} (m n : Mode C g) (work : Work) (bytes text old new : List ℕ)
    → new ≡ old ++ text
    → ((rest : List ℕ) → before old (outcome_of m (bytes ++ rest)) ≡ before new (outcome_of n rest))
    → ((rest : List ℕ) → old ++ whole_blocks_of m (bytes ++ rest) ≡ new ++ whole_blocks_of n rest)
    → RunsMode m work → RunsMode n (carried_on work bytes text)
mode_fed m n work bytes text old new given gives unchecked was = record {
  text_is = λ rest.
      result-fed work bytes text rest ∙ was.text_is (bytes ++ rest)
      ∙ ap (before work.given) (before_cancel old text _ _ (gives rest
      ∙ ap (λ (t : List ℕ). before t (outcome_of n rest)) given))
      ∙ before-append work.given text (outcome_of n rest);
  unchecked_is = λ rest.
      unchecked-fed work bytes text rest ∙ was.unchecked_is (bytes ++ rest)
      ∙ ap (λ (t : List ℕ). work.given ++ t) (append_cancel_left old _ _
      (unchecked rest ∙ ap (λ (t : List ℕ). t ++ whole_blocks_of n rest) given
      ∙ append_assoc old text (whole_blocks_of n rest)))
      ∙ sym (append_assoc work.given text (whole_blocks_of n rest));
}

pub mode_finished : {C : Type 0} {g : Ghosts C} (m : Mode C g) (work : Work) (old new text : List ℕ)
    → before old (outcome_of m []) ≡ Ok new → new ≡ old ++ text → RunsMode m work
    → result_of work ≡ Ok (work.given ++ text)
mode_finished m work old new text ends given was =
    result-whole work ∙ was.text_is []
    ∙ ap (before work.given) (before_finished old new text (outcome_of m []) ends given)

-- an accepted end of a mode
pub mode_ends : {U C : Type 0} {g : Ghosts C} (r : Result U FinishRefused) (m : Mode C g) (old new : List ℕ)
    → Finishes old new r (outcome_of m [])
    → OnOk r ((work : Work) (text : List ℕ) → new ≡ old ++ text → RunsMode m work
    → result_of work ≡ Ok (work.given ++ text))
mode_ends (Ok x) m old new ends = λ work text given was. mode_finished m work old new text ends given was
mode_ends (Err x) m old new ends = tt

pub chacha_fed : (s t : ChaChaState) (work : Work) (bytes text old new : List ℕ) → new ≡ old ++ text
    → new ≡ old ++ text_of s bytes
    → ((rest : List ℕ) → text_of s (bytes ++ rest) ≡ text_of s bytes ++ text_of t rest)
    → ((rest : List ℕ) → end_of s (bytes ++ rest) ≡ end_of t rest)
    → RunsChaCha s work → RunsChaCha t (carried_on work bytes text)
chacha_fed s t work bytes text old new given appended goes_on end was =
    let joined : (rest : List ℕ) → work.given ++ text_of s (bytes ++ rest) ≡ work.given ++ text ++ text_of t rest =
    λ rest.
    ap (λ (x : List ℕ). work.given ++ x) (goes_on rest
    ∙ ap (λ (x : List ℕ). x ++ text_of t rest) (same_text old new _ text appended given))
    ∙ sym (append_assoc work.given text (text_of t rest)) in
    record {
      text_is = λ rest.
          result-fed work bytes text rest ∙ was.text_is (bytes ++ rest) ∙ (λ i. streamed (joined rest i) (end rest i));
      unchecked_is = λ rest. unchecked-fed work bytes text rest ∙ was.unchecked_is (bytes ++ rest) ∙ joined rest;
    }

no_stream : (s : ChaChaState) → text_of s [] ≡ []
unfolding text_from
no_stream s = ap (λ (b : List ℕ). text_from s.key s.iv s.used b) (take-nil {A = ℕ} _)

pub chacha_finished : (s : ChaChaState) (work : Work) (text : List ℕ) → end_of s [] ≡ Ok tt → [] ≡ text
    → RunsChaCha s work
    → result_of work ≡ Ok (work.given ++ text)
chacha_finished s work text ends nothing was =
    result-whole work ∙ was.text_is [] ∙ (λ i. streamed (work.given ++ (no_stream s ∙ nothing) i) (ends i))

pub chacha_refused : (s : ChaChaState) (work : Work) (end : TheEnd) → end_of s [] ≡ Err end → RunsChaCha s work
    → result_of work ≡ Err (StreamEnd end.blocks)
chacha_refused s work end ends was =
    result-whole work ∙ was.text_is [] ∙ ap (streamed (work.given ++ text_of s [])) ends

pub rc4_fed : (s t : Rc4State) (work : Work) (bytes text old new : List ℕ) → new ≡ old ++ text
    → new ≡ old ++ rc4_text s bytes
    → ((rest : List ℕ) → rc4_text s (bytes ++ rest) ≡ rc4_text s bytes ++ rc4_text t rest)
    → RunsRc4 s work → RunsRc4 t (carried_on work bytes text)
rc4_fed s t work bytes text old new given appended goes_on was = λ rest.
    result-fed work bytes text rest ∙ was (bytes ++ rest)
    ∙ ap (λ (x : List ℕ). Ok (work.given ++ x)) (goes_on rest
    ∙ ap (λ (x : List ℕ). x ++ rc4_text t rest) (same_text old new _ text appended given))
    ∙ ap Ok (sym (append_assoc work.given text (rc4_text t rest)))

no_key_stream : (s : Rc4State) → rc4_text s [] ≡ []
unfolding rc4_text
no_key_stream s = refl

pub rc4_finished : (s : Rc4State) (work : Work) (text : List ℕ) → [] ≡ text → RunsRc4 s work
    → result_of work ≡ Ok (work.given ++ text)
rc4_finished s work text nothing was =
    result-whole work ∙ was [] ∙ ap (λ (x : List ℕ). Ok (work.given ++ x)) (no_key_stream s ∙ nothing)
