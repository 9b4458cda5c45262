-- A whole run, piece by piece.
use Rattle.std.proofs.Common.{◌≡◌, ℕ, List, ◌++◌, Result, Ok, Err, sym, ap, ◌∙◌, append_assoc}
use Rattle.std.proofs.lemmas.List.{append_cancel_left}
use Rattle.ossl_gcm.specs.declared.kinds.GcmRefused.{GcmRefused}
use Rattle.ossl_gcm.specs.declared.kinds.GcmRefused.TheVariants.{BadTag, StreamEnd, NoMemory}
use Rattle.ossl_gcm.specs.Run.{before, Finishes, IsBeginning, RunsTo}

-- a refused outcome, whatever text is put before it
before_refused : (t : List ℕ) (o : Result (List ℕ) GcmRefused) (x : GcmRefused) → before t o ≡ Err x → o ≡ Err x
before_refused t (Ok y) x h = absurd (cc)
before_refused t (Err y) x h = h

-- what was appended to a text to which something was appended
pub appended_twice : (start now new : List ℕ) → (given : List ℕ) × (now ≡ start ++ given) → (given : List ℕ) × (new ≡ now ++ given)
    → (given : List ℕ) × (new ≡ start ++ given)
appended_twice start now new first then =
    (first.0 ++ then.0, then.1 ∙ ap (λ (x : List ℕ). x ++ then.0) first.1 ∙ append_assoc start first.0 then.0)

-- what was appended so far is a beginning of the text w, of which left is yet to come
pub begins : (start now new w left : List ℕ) → (given : List ℕ) × (now ≡ start ++ given) → start ++ w ≡ now ++ left → new ≡ now
    → IsBeginning start new w
begins start now new w left grown el same = (
  grown.0,
  left,
  same ∙ grown.1,
  sym (append_cancel_left start w (grown.0 ++ left) (el ∙ ap (λ (x : List ℕ). x ++ left) grown.1 ∙ append_assoc start grown.0 left)),
)

-- the end of a run whose outcome so far is o, with t yet to come
pub run_ends : {U : Type 0} (r : Result U GcmRefused) (start now new w left : List ℕ) (o t : Result (List ℕ) GcmRefused)
    → before start o ≡ before now t → start ++ w ≡ now ++ left → (given : List ℕ) × (now ≡ start ++ given) → Finishes now new r t
    → RunsTo start new r o w
run_ends (Ok u) start now new w left o t e el grown h = e ∙ h
run_ends (Err NoMemory) start now new w left o t e el grown h = begins start now new w left grown el h
run_ends (Err BadTag) start now new w left o t e el grown h =
    (before_refused start o BadTag (e ∙ ap (before now) h.0), begins start now new w left grown el h.1)
run_ends (Err (StreamEnd n)) start now new w left o t e el grown h =
    (before_refused start o (StreamEnd n) (e ∙ ap (before now) h.0), begins start now new w left grown el h.1)
