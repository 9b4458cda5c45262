-- Library contexts that are closed, and what is up then.
use Rattle.std.proofs.Common.{◌≡◌, ℕ, Bool, false, List, [], ◌∷◌, refl, ap, ◌∙◌, arith, inl, inr}
use Rattle.std.specs.List.{filter}
use Rattle.std.specs.Prelude.{All}
use Rattle.std.proofs.lemmas.Bool.{cases_lt}
use Rattle.std.proofs.lemmas.List.Elements.{All-from_get_or}
use Rattle.std.proofs.lemmas.List.{get_or_past}
use Rattle.ossl_base.specs.declared.entry.Entry.{Entry}
use Rattle.ossl_provider.specs.Sheet.{Sheet}
use Rattle.ossl_state.specs.declared.call.Call.{Call}
use Rattle.ossl_state.specs.declared.call.Reply.{Reply}
use Rattle.ossl_state.specs.declared.state.State.{State}
use Rattle.ossl_state.specs.Boxes.{no_sheet}
use Rattle.ossl_calls.specs.Registry.{HasSheets, IsDown}
use Rattle.ossl_state.specs.History.{Fixed, IsLegal, state_after}
use Rattle.ossl_state.specs.State.{is_up, lib_at, no_lib, up_instances}
use Rattle.ossl_state.proofs.LegalLaws.{sound_after}
use Rattle.ossl_state.proofs.OrderedLaws.{legal_ordered}
use Rattle.ossl_ordered.specs.Owned.{AreClosed}
use Rattle.ossl_ordered.proofs.LiveLaws.{nothing_live, owns_element}
use Rattle.ossl_state.specs.Tokens.{entries_of}

filter_none : {X : Type 0} (p : X → Bool) (xs : List X) → ((x : X) → p x ≡ false) → filter p xs ≡ []
filter_none p [] none = refl
filter_none p (x ∷ xs) none = rw (none x, filter_none p xs none) refl

-- nothing is up where nothing is active and nothing is live
none_up : (s : State) → s.live ≡ [] → ((l : ℕ) → (lib_at s l).order ≡ []) → up_instances s ≡ []
none_up s no_live no_order = filter_none (is_up s) s.born (λ b. rw (no_order b.lib, no_live) refl)

-- each box has nothing up, where its sheet is that of a state in which nothing is
pub sheets_down : (fixed : Fixed) (sheets : List Sheet) (entries : List (Entry Call Reply)) → HasSheets fixed sheets entries →
    up_instances (state_after fixed entries) ≡ [] → All IsDown sheets
sheets_down fixed sheets entries kept none =
    All-from_get_or IsDown sheets no_sheet (λ k below. ap (λ s. s.up) (kept k below) ∙ rw none refl)

-- nothing is up where all library contexts are closed and nobody owns a method or an operation context
pub closed_down : (fixed : Fixed) (entries : List (Entry Call Reply)) → IsLegal fixed entries → AreClosed fixed.contexts fixed entries →
    ((c t : ℕ) → owns_element (entries_of c entries) t ≡ false) → up_instances (state_after fixed entries) ≡ []
closed_down fixed entries legal closed none = none_up s (nothing_live fixed entries legal none) no_order
  where
    s : State
    s = state_after fixed entries

    no_order : (l : ℕ) → (lib_at (state_after fixed entries) l).order ≡ []
    no_order l = elim (cases_lt l fixed.contexts) [
      | inl there ↦ (((legal_ordered fixed entries legal).libs l).closed (closed l there)).0
      | inr past ↦
          let out : lib_at (state_after fixed entries) l ≡ no_lib = get_or_past (state_after fixed entries).libs l no_lib (omega (arith, past, (sound_after fixed entries legal).instances.contexts)) in
          ap (λ lib. lib.order) out
    ]
