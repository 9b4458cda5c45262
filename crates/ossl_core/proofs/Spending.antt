-- A token that was handed out and given back leaves what is owned as it was: what a caller of the typed calls shows.
use Rattle.std.proofs.Common.{◌≡◌, ℕ, true, List, ◌∙◌, inl, inr}
use Rattle.std.proofs.lemmas.Bool.{cases_Bool, eqb-true, true≢false}
use Rattle.std.proofs.Common.{sym, ap}
use Rattle.ossl_base.specs.declared.entry.Entry.{Entry}
use Rattle.ossl_state.specs.declared.call.Call.{Call}
use Rattle.ossl_state.specs.declared.call.Reply.{Reply}
use Rattle.ossl_state.specs.Tokens.{Token, activation_token, method_token, context_token, owns}
use Rattle.ossl_core.specs.Owned.{is_token, HasGained, HasGivenBack, HasKept, IsFresh, OwnsNothing}

-- one token is the other: what is owned of the one is owned of the other
same_owned : (mine : List (Entry Call Reply)) (n : ℕ) (kind : Token) (t : ℕ) (kind' : Token) →
    is_token n kind t kind' ≡ true → owns mine t kind' ≡ owns mine n kind
same_owned mine n activation_token t activation_token is =
    ap (λ (m : ℕ). owns mine m activation_token) (sym (eqb-true n t is))
same_owned mine n method_token t method_token is = ap (λ (m : ℕ). owns mine m method_token) (sym (eqb-true n t is))
same_owned mine n context_token t context_token is = ap (λ (m : ℕ). owns mine m context_token) (sym (eqb-true n t is))
same_owned mine n kind t kind' is = absurd (true≢false (sym is))

-- handed out, held while nothing else changes, and given back
pub spent_again : (before mid later after : List (Entry Call Reply)) (n : ℕ) (kind : Token) →
    IsFresh before n → HasGained before n kind mid → HasKept mid later → HasGivenBack later n kind after →
    HasKept before after
spent_again before mid later after n kind fresh gained kept gone t kind' = elim (cases_Bool (is_token n kind t kind')) [
  | inl is ↦
      (rw is at (gone t kind')) ∙ sym (same_owned before n kind t kind' is ∙ fresh kind)
  | inr other ↦ (rw other at (gone t kind')) ∙ (kept t kind' ∙ (rw other at (gained t kind')))
]

-- who owned nothing owns nothing
pub nothing_kept : (before after : List (Entry Call Reply)) →
    OwnsNothing before → HasKept before after → OwnsNothing after
nothing_kept before after nothing kept t kind = kept t kind ∙ nothing t kind
