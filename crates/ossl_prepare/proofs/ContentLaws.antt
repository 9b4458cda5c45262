-- Files that are read one after the other.
use Rattle.std.proofs.Common.{◌≡◌, ℕ, ◌+◌, ◌<◌, List, [], ◌∷◌, ◌++◌, Ok, Err, Result, drop, get_or, length, refl, sym, ap, subst, add-one, drop-cons}
use Rattle.ossl_commands.specs.declared.limit.Limit.TheVariants as limits
use Rattle.ossl_conf.specs.View.{SettingsView}
use Rattle.ossl_prepare.specs.declared.error_line.ErrorLine.{ErrorLine}
use Rattle.ossl_prepare.specs.declared.refused.Refused.{Refused}
use Rattle.ossl_prepare.specs.declared.refused.Refused.TheVariants.{Error, NoMemory}
use Rattle.ossl_prepare.specs.Answered.{AreContents, AreSettings, ButForMemory, IsContent, Told}
use Rattle.std.specs.Prelude.{Some}
use Rattle.std.specs.Result.{IsErr, IsErrAnd}

drop_at : (names : List (List ℕ)) (i : ℕ) (name : List ℕ) → i < length names → name ≡ get_or names i name → drop i names ≡ name ∷ drop (i + 1) names
drop_at names i name here is =
    let P : List ℕ → Type 0 = λ n. drop i names ≡ n ∷ drop (i + 1) names in
    subst P (sym is) (rw (add-one, drop-cons names i name) refl)

module _ (files : Told) (names : List (List ℕ)) (i : ℕ) (name : List ℕ) (here : i < length names) (is : name ≡ get_or names i name) where
  -- the next file is refused
  pub next_refused : (done : List (List ℕ)) (e : Refused) → ButForMemory {A = List ℕ} (Err e) (IsContent files name limits.File) →
      ButForMemory {A = List (List ℕ)} (Err e) (AreContents files done (drop i names))
  next_refused done (Error error) content = rw (drop_at names i name here is) (Err error, content, refl)
  next_refused done NoMemory content = tt

  -- the next file is read
  pub next_read : (done : List (List ℕ)) (content : List ℕ) (result : Result (List (List ℕ)) ErrorLine) → IsContent files name limits.File (Ok content) →
      AreContents files (done ++ content ∷ []) (drop (i + 1) names) result → AreContents files done (drop i names) result
  next_read done content result read rest = rw (drop_at names i name here is) (Ok content, read, rest)

-- an error of the rest is one of all
pub all_refused : (P Q : Result (List (List ℕ)) ErrorLine → Type 0) (e : Refused) → ((result : Result (List (List ℕ)) ErrorLine) → P result → Q result) →
    ButForMemory {A = List (List ℕ)} (Err e) P → ButForMemory {A = List (List ℕ)} (Err e) Q
all_refused P Q (Error error) go h = go (Err error) h
all_refused P Q NoMemory go h = tt

-- the configuration is not read
pub configuration_unread : (files : Told) (name : List ℕ) (e : Refused) → ButForMemory {A = List ℕ} (Err e) (IsContent files name limits.Configuration) →
    ButForMemory {A = SettingsView} (Err e) (AreSettings files (Some name))
configuration_unread files name (Error error) content = (Err error, content, refl)
configuration_unread files name NoMemory content = tt

-- what `?` hands over is the error itself
pub handed : {T E : Type 0} (result : Result T E) (e : E) → IsErr result × IsErrAnd result (λ given. given ≡ e) → result ≡ Err e
handed (Ok x) e h = absurd h.1
handed (Err given) e h = ap Err h.1
