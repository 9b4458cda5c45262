-- What a table of tokens holds once a token is put in or taken out.
use Rattle.std.proofs.Common.{◌≡◌, ℕ, ◌<◌, Bool, true, false, nat_eq, nat_lt, List, [], ◌∷◌, refl, sym, ◌∙◌, ap, arith, cond, inl, inr}
use Rattle.std.specs.Prelude.{None, Some}
use Rattle.std.specs.BTreeMap.{is_at, insert_entry}
use Rattle.std.specs.Map.{lookup, remove_entry}
use Rattle.std.specs.Ordering.{nat_cmp, is_eq, match_ordering}
use Rattle.std.specs.declared.cmp.Ordering.{Ordering}
use Rattle.std.specs.declared.cmp.Ordering.TheVariants.{Less, Equal, Greater}
use Rattle.std.proofs.lemmas.Bool.{cases_Bool, eqb-true, eq-eqb, ne_eqb, ltb-true}
use Rattle.ossl_watch.specs.declared.token.Token.{Token}
use Rattle.ossl_watch.specs.Watched.{token_at, with_token, without_token}

-- a number is found by its equal alone
pub is_at-nat : (k q : ℕ) → is_at (nat_cmp k) q ≡ nat_eq k q
is_at-nat k q = by (nat_lt k q) (nat_eq k q) refl refl
  where
    by : (l e : Bool) → nat_lt k q ≡ l → nat_eq k q ≡ e → is_eq (cond l Less (cond e Equal Greater)) ≡ e
    by true true less same = let a : k < q = ltb-true k q less in let b : k ≡ q = eqb-true k q same in absurd (omega arith)
    by true false less same = refl
    by false true less same = refl
    by false false less same = refl

-- the token that was put in
pub token_at-same : (tokens : List (ℕ × Token)) (t : ℕ) (token : Token) → token_at (with_token tokens t token) t ≡ Some token
token_at-same [] t token = rw (is_at-nat t t, eq-eqb t t refl) refl
token_at-same (e ∷ es) t token = by (nat_lt t e.0) (nat_eq t e.0) refl (token_at-same es t token)
  where
    by : (l same : Bool) → nat_eq t e.0 ≡ same → token_at (with_token es t token) t ≡ Some token →
        token_at (match_ordering (cond l Less (cond same Equal Greater)) ((t, token) ∷ e ∷ es) ((e.0, token) ∷ es) (e ∷ insert_entry nat_cmp es t token)) t ≡ Some token
    by true same is rest = rw (is_at-nat t t, eq-eqb t t refl) refl
    by false true is rest = rw (is_at-nat t e.0, is) refl
    by false false is rest = rw (is_at-nat t e.0, is) rest

-- and every other one
pub token_at-other : (tokens : List (ℕ × Token)) (t q : ℕ) (token : Token) → nat_eq q t ≡ false → token_at (with_token tokens t token) q ≡ token_at tokens q
token_at-other [] t q token other = rw (is_at-nat q t, other) refl
token_at-other (e ∷ es) t q token other = by (nat_lt t e.0) (nat_eq t e.0) refl (token_at-other es t q token other)
  where
    by : (l same : Bool) → nat_eq t e.0 ≡ same → token_at (with_token es t token) q ≡ token_at es q →
        token_at (match_ordering (cond l Less (cond same Equal Greater)) ((t, token) ∷ e ∷ es) ((e.0, token) ∷ es) (e ∷ insert_entry nat_cmp es t token)) q ≡ token_at (e ∷ es) q
    by true same is rest = rw (is_at-nat q t, other) refl
    by false true is rest =
        let key : t ≡ e.0 = eqb-true t e.0 is in
        let apart : nat_eq q e.0 ≡ false = rw (← key) other in
        rw (is_at-nat q e.0, apart) refl
    by false false is rest = rw rest refl

-- a token that was taken out leaves the others
pub token_at-without : (tokens : List (ℕ × Token)) (t q : ℕ) → nat_eq q t ≡ false → token_at (without_token tokens t) q ≡ token_at tokens q
token_at-without [] t q other = refl
token_at-without (e ∷ es) t q other = elim (cases_Bool (nat_eq t e.0)) [
  | inl same ↦
      let key : t ≡ e.0 = eqb-true t e.0 same in
      let apart : nat_eq q e.0 ≡ false = rw (← key) other in
      rw (is_at-nat t e.0, same, is_at-nat q e.0, apart) refl
  | inr more ↦ rw (is_at-nat t e.0, more, token_at-without es t q other) refl
]
