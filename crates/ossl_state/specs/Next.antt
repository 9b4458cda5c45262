-- A legal history, told entry by entry.
use Rattle.std.specs.Prelude.{◌≡◌, List, ◌∷◌, ◌++◌}
use Rattle.ossl_base.specs.declared.entry.Entry.{Entry}
use Rattle.ossl_state.specs.declared.call.Call.{Call}
use Rattle.ossl_state.specs.declared.call.Reply.{Reply}
use Rattle.ossl_state.specs.History.{Fixed, IsLegal, IsNext}

-- each entry of a list may come next after those before it
abbrev pub EachIsNext : Fixed → List (Entry Call Reply) → Type 0
EachIsNext fixed entries =
    (before after : List (Entry Call Reply)) (e : Entry Call Reply) → entries ≡ before ++ e ∷ after
    → IsNext fixed before e

-- such a list is a legal history, and each legal history is such a list
abbrev pub LegalIsEachNext : Type 0
LegalIsEachNext =
    (fixed : Fixed) (entries : List (Entry Call Reply)) →
    (EachIsNext fixed entries → IsLegal fixed entries) × (IsLegal fixed entries → EachIsNext fixed entries)
