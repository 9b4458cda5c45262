-- A list of which each entry may come next is a legal history, and the other way.
use Rattle.std.proofs.Common.{◌≡◌, List, [], ◌∷◌, ◌++◌, refl, ap, append_assoc}
use Rattle.std.proofs.lemmas.List.{append-nil}
use Rattle.ossl_base.specs.declared.entry.Entry.{Entry}
use Rattle.ossl_state.specs.declared.call.Call.{Call}
use Rattle.ossl_state.specs.declared.call.Reply.{Reply}
use Rattle.ossl_state.specs.declared.state.State.{State}
use Rattle.ossl_state.specs.History.{Fixed, IsStep, IsRun, after_entry, state_from}
use Rattle.ossl_state.specs.Next.{LegalIsEachNext}
use Rattle.ossl_state.specs.State.{opening_state}

-- each entry of a list is a step after those before it, from a state and some past on
abbrev EachIsStep : Fixed → State → List (Entry Call Reply) → List (Entry Call Reply) → Type 0
EachIsStep fixed s past es =
    (before after : List (Entry Call Reply)) (e : Entry Call Reply) → es ≡ before ++ e ∷ after →
    IsStep fixed (state_from fixed.facts s before) (past ++ before) e

each-run : (fixed : Fixed) (s : State) (past es : List (Entry Call Reply)) → EachIsStep fixed s past es → IsRun fixed s past es
each-run fixed s past [] each = tt
each-run fixed s past (x ∷ es) each = (
  rw append-nil at (each [] es x refl),
  each-run fixed (after_entry fixed.facts s x) (past ++ x ∷ []) es (λ before after e is.
      rw (append_assoc past (x ∷ []) before) (each (x ∷ before) after e (ap (λ l. x ∷ l) is))),
)

run-each : (fixed : Fixed) (s : State) (past es : List (Entry Call Reply)) → IsRun fixed s past es → EachIsStep fixed s past es
run-each fixed s past [] run [] after e is = cc
run-each fixed s past [] run (y ∷ before) after e is = cc
run-each fixed s past (x ∷ es) run [] after e is =
    let same : x ≡ e = cc in
    rw (append-nil, ← same) run.0
run-each fixed s past (x ∷ es) run (y ∷ before) after e is =
    let same : x ≡ y = cc in
    let rest : es ≡ before ++ e ∷ after = cc in
    let later = run-each fixed (after_entry fixed.facts s x) (past ++ x ∷ []) es run.1 before after e rest in
    rw (← same) (rw (append_assoc past (x ∷ []) before) at later)

pub legal-each : LegalIsEachNext
legal-each fixed entries = (
  λ each. each-run fixed (opening_state fixed.contexts) [] entries each,
  λ legal. run-each fixed (opening_state fixed.contexts) [] entries legal,
)
