-- What places show once some are emptied, and what a look-up by the places finds.
use Rattle.std.proofs.Common.{◌≡◌, ◌∙◌, ℕ, refl, sym, ap, ap₂, Bool, true, false, List, [], ◌∷◌, map, Option, Some, None, nat_eq, find, subst, cond, true≢false}
use Rattle.std.specs.Prelude.{option_map}
use Rattle.std.specs.Map.{lookup, lookup_entry, remove_entry}
use Rattle.lru.specs.LruCache.{promoted}
use Rattle.std.proofs.lemmas.Bool.{eq-eqb, ne_eqb}
use Rattle.ossl_cache.specs.declared.key.Key.{Key}
use Rattle.std.proofs.Math.ListN.{get_or-map}
use Rattle.ossl_cache.specs.Recent.{Answer, without}
use Rattle.ossl_cache.specs.Places.{Order, held_at, and_shown, shown, emptied, holds_at, holds_in}

module _ (test : Answer → Bool) where
  one_kept : (o : Option Answer) (ps : List Answer) → and_shown (emptied test o) (without test ps) ≡ without test (and_shown o ps)
  one_kept None ps = refl
  one_kept (Some p) ps = (elim (test p) as (λ b. test p ≡ b → and_shown (emptied test (Some p)) (without test ps) ≡ without test (p ∷ ps)) [
    | true ↦ λ e. rw (e) refl
    | false ↦ λ e. rw (e) refl
  ]) refl

  pub shown_kept : (slots : List (Option Answer)) (es : Order) → shown (map (emptied test) slots) es ≡ without test (shown slots es)
  shown_kept slots [] = refl
  shown_kept slots (e ∷ es) = ap₂ and_shown (get_or-map (emptied test) slots e.0 None) (shown_kept slots es) ∙ one_kept (held_at slots e.0) (shown slots es)

-- ---- a look-up by the places

module _ (test : Key → Bool) (slots : List (Option Answer)) where
  abbrev at : ℕ → Option Answer
  at i = held_at slots i

  abbrev places : Order → List ℕ
  places = map (λ e. e.0)

  skipped : (i : ℕ) (ps : List Answer) → holds_at test slots i ≡ false
      → (lookup_entry test (and_shown (at i) ps) ≡ lookup_entry test ps) × (remove_entry test (and_shown (at i) ps) ≡ and_shown (at i) (remove_entry test ps))
  skipped i ps e = go (at i) refl
    where
      go : (o : Option Answer) → at i ≡ o → (lookup_entry test (and_shown (at i) ps) ≡ lookup_entry test ps) × (remove_entry test (and_shown (at i) ps) ≡ and_shown (at i) (remove_entry test ps))
      go None is = rw (is) (refl, refl)
      go (Some p) is = let no : test p.0 ≡ false = rw (is) at e in rw (is, no) (refl, refl)

  met : (i : ℕ) (ps : List Answer) → holds_at test slots i ≡ true → (lookup_entry test (and_shown (at i) ps) ≡ at i) × (remove_entry test (and_shown (at i) ps) ≡ ps)
  met i ps e = go (at i) refl
    where
      go : (o : Option Answer) → at i ≡ o → (lookup_entry test (and_shown (at i) ps) ≡ at i) × (remove_entry test (and_shown (at i) ps) ≡ ps)
      go None is = let no : false ≡ true = rw (is) at e in absurd (true≢false (sym no))
      go (Some p) is = let yes : test p.0 ≡ true = rw (is) at e in rw (is, yes) (refl, refl)

  pub record IsFound (es : Order) (i : ℕ) : Type 0 where
    pub holds : holds_at test slots i ≡ true
    pub entry : lookup_entry (nat_eq i) es ≡ Some (i, tt)
    pub rest : shown slots (remove_entry (nat_eq i) es) ≡ remove_entry test (shown slots es)
    pub pair : lookup_entry test (shown slots es) ≡ at i

  pub found : (es : Order) (i : ℕ) → find (holds_at test slots) (places es) ≡ Some i → IsFound es i
  found [] i f = cc
  found (e ∷ es) i f = (elim (holds_at test slots e.0) as (λ b. holds_at test slots e.0 ≡ b → IsFound (e ∷ es) i) [
    | true ↦ λ yes.
        let here : Some e.0 ≡ Some i = rw (yes) at f in
        let same : e.0 ≡ i = cc in
        let m = met e.0 (shown slots es) yes in
        subst (IsFound (e ∷ es)) same (record {
          holds = yes;
          entry = rw (eq-eqb e.0 e.0 refl) refl;
          rest = rw (eq-eqb e.0 e.0 refl) (sym m.1);
          pair = m.0;
        })
    | false ↦ λ no.
        let later : find (holds_at test slots) (places es) ≡ Some i = rw (no) at f in
        let on = found es i later in
        let other : nat_eq i e.0 ≡ false = ne_eqb i e.0 (λ q. true≢false (sym on.holds ∙ ap (holds_at test slots) q ∙ no)) in
        let s = skipped e.0 (shown slots es) no in
        record {
          holds = on.holds;
          entry = rw (other) on.entry;
          rest = rw (other) (ap (and_shown (at e.0)) on.rest ∙ sym s.1);
          pair = s.0 ∙ on.pair;
        }
  ]) refl

  lookup-entry : (ps : List Answer) → lookup test ps ≡ option_map (λ p. p.1) (lookup_entry test ps)
  lookup-entry [] = refl
  lookup-entry (p ∷ ps) = (elim (test p.0) as (λ b. cond b (Some p.1) (lookup test ps) ≡ option_map (λ q. q.1) (cond b (Some p) (lookup_entry test ps))) [
    | true ↦ refl
    | false ↦ lookup-entry ps
  ])

  pub found_value : (es : Order) (i : ℕ) → find (holds_at test slots) (places es) ≡ Some i → option_map (λ p. p.1) (at i) ≡ lookup test (shown slots es)
  found_value es i f = sym (lookup-entry (shown slots es) ∙ ap (option_map (λ p. p.1)) (found es i f).pair)

  pub found_front : (es : Order) (i : ℕ) → find (holds_at test slots) (places es) ≡ Some i
      → shown slots (promoted (nat_eq i) es) ≡ promoted test (shown slots es)
  found_front es i f = go (at i) refl
    where
      is : IsFound es i
      is = found es i f

      go : (o : Option Answer) → at i ≡ o → shown slots (promoted (nat_eq i) es) ≡ promoted test (shown slots es)
      go None e = let no : false ≡ true = ap (holds_in test) (sym e) ∙ is.holds in absurd (true≢false (sym no))
      go (Some p) e = let pair : lookup_entry test (shown slots es) ≡ Some p = is.pair ∙ e in
          rw (is.entry, pair, e) (ap (λ ps. p ∷ ps) is.rest)

  missing : (es : Order) → None ≡ find (holds_at test slots) (places es) → lookup_entry test (shown slots es) ≡ None
  missing [] f = refl
  missing (e ∷ es) f = (elim (holds_at test slots e.0) as (λ b. holds_at test slots e.0 ≡ b → lookup_entry test (shown slots (e ∷ es)) ≡ None) [
    | true ↦ λ yes. let bad : None ≡ Some e.0 = rw (yes) at f in cc
    | false ↦ λ no. let later : None ≡ find (holds_at test slots) (places es) = rw (no) at f in (skipped e.0 (shown slots es) no).0 ∙ missing es later
  ]) refl

  pub missing_value : (es : Order) → None ≡ find (holds_at test slots) (places es) → None ≡ lookup test (shown slots es)
  missing_value es f = sym (lookup-entry (shown slots es) ∙ ap (option_map (λ p. p.1)) (missing es f))

  pub missing_front : (es : Order) → None ≡ find (holds_at test slots) (places es) → shown slots es ≡ promoted test (shown slots es)
  missing_front es f = rw (missing es f) refl
