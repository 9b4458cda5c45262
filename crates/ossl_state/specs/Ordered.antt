-- What a registry that counts relies on after every legal history: how orders, activations, the fallback (provider(7))
-- and live elements belong together.
use Rattle.std.specs.Prelude.{ℕ, ◌≡◌, Bool, false, ◌&&◌, nat_eq, IsTrue, IsFalse, List, [], ◌∷◌, map, None, Some}
use Rattle.std.specs.List.{list_any, list_all}
use Rattle.std.specs.declared.option.Option.{Option}
use Rattle.ossl_base.specs.declared.entry.Entry.{Entry}
use Rattle.ossl_provider.specs.Members.{is_distinct}
use Rattle.ossl_provider.specs.Sheet.{Facts}
use Rattle.ossl_state.specs.declared.call.Call.{Call}
use Rattle.ossl_state.specs.declared.call.Reply.{Reply}
use Rattle.ossl_state.specs.declared.state.Active.{Active}
use Rattle.ossl_state.specs.declared.state.Born.{Born}
use Rattle.ossl_state.specs.declared.state.LibCtx.{LibCtx}
use Rattle.ossl_state.specs.declared.state.State.{State}
use Rattle.ossl_state.specs.Boxes.{place_of, default_name}
use Rattle.ossl_state.specs.History.{Fixed, IsLegal, state_after}
use Rattle.ossl_state.specs.State.{lib_at, is_active_box}
use Rattle.ossl_state.specs.Step.{is_used, kept_of, stays_active}

abbrev pub place_of_active : Active → ℕ
place_of_active a = a.place

-- the box at a place is active, where there is such a place
abbrev pub is_active_at : Option ℕ → List Active → Bool
is_active_at None order = false
is_active_at (Some k) order = is_active_box k order

-- what holds of each library context
pub record IsOrderedLib (facts : List Facts) (lib : LibCtx) : Type 0 where
  -- no provider stands twice in the order
  pub distinct : IsTrue (is_distinct (map place_of_active lib.order))
  -- the provider of each activation that was given stands in the order
  pub given : IsTrue (list_all (λ g. is_active_box g.place lib.order) lib.given)
  -- each provider of the order has an activation, or the fallback keeps it
  pub kept : IsTrue (list_all (stays_active (kept_of facts lib) lib.given) lib.order)
  -- while the context is open and its fallback is used, `default` is active
  pub fallback :
      IsTrue lib.is_open → IsTrue (is_used lib.fallback) → IsTrue (is_active_at (place_of default_name facts) lib.order)
  -- a closed context has no active provider and no activation
  pub closed : IsFalse lib.is_open → (lib.order ≡ []) × (lib.given ≡ [])

-- an instance of this number was started
abbrev pub is_born : List Born → ℕ → Bool
is_born born n = list_any (λ b. nat_eq b.number n) born

-- the first of these instances is one of the box at a place
abbrev pub is_first_of : List Born → ℕ → List ℕ → Bool
is_first_of born k [] = false
is_first_of born k (n ∷ ns) = list_any (λ b. nat_eq b.number n && nat_eq b.place k) born

-- what holds of a state
pub record IsOrdered (facts : List Facts) (s : State) : Type 0 where
  pub libs : (l : ℕ) → IsOrderedLib facts (lib_at s l)
  -- each instance that a live element holds was started
  pub held : IsTrue (list_all (λ x. list_all (is_born s.born) x.held) s.live)
  -- a live element holds an instance, and its provider is that of the first one
  pub placed : IsTrue (list_all (λ x. is_first_of s.born x.place x.held) s.live)

-- every legal history leaves such a state
abbrev pub LegalIsOrdered : Type 0
LegalIsOrdered =
    (fixed : Fixed) (entries : List (Entry Call Reply)) → IsLegal fixed entries →
    IsOrdered fixed.facts (state_after fixed entries)
