-- What an index finds after a name came in or went out.
use Rattle.std.proofs.Common.{◌≡◌, ℕ, ◌+◌, ◌<◌, ◌≤◌, Bool, true, false, ◌||◌, cond, Vec, List, [], ◌∷◌, ◌++◌, length, take, map, fold, Option, None, Some, is_some, Ordering, Bor, refl, sym, ap, ◌∙◌, subst, ◌⊎◌, inl, inr, ⊎_elim, get_or, arith}
use Rattle.std.specs.declared.alloc.Global.{Global}
use Rattle.std.specs.BTreeMap.{UpdatesBy}
use Rattle.std.specs.Map.{lookup, IsKeyTest, AreApart, KeepsOthers}
use Rattle.std.specs.Cmp.{eq_by_cmp_equiv}
use Rattle.std.specs.Cmp.Lexicographic.{slice_cmp, bytes_decides, nat_list_cmp_total, nat_list_eq_equiv}
use Rattle.std.specs.Ordering.{is_eq, nat_cmp}
use Rattle.std.specs.List.{list_any}
use Rattle.std.specs.Str.{bytes_eq}
use Rattle.std.specs.Char.{to_ascii_lowercase}
use Rattle.std.proofs.lemmas.Bool.{cases_Bool, cond-true, cond-false, false≢true}
use Rattle.std.proofs.lemmas.List.{length-map, take_all}
use Rattle.std.proofs.Math.ListN.{get_or-map}
use Rattle.std.proofs.lemmas.List.Sums.{fold_more}
use Rattle.std.proofs.lemmas.Map.Text.{is_eq-slice_cmp}
use Rattle.ossl_names.specs.Name.{folded}
use Rattle.ossl_names.specs.Groups.{Group, has_name}
use Rattle.ossl_names.specs.Index.{Index, found, is_found, with_new, FindsAlso, FindsNot, FindsSame, AreNew}

-- how the keys of an index compare
abbrev pub key_cmp : Vec ℕ Global → Vec ℕ Global → Ordering
key_cmp x y = slice_cmp nat_cmp x.items y.items

apart : (bs cs ks : List ℕ) → bytes_eq bs cs ≡ false → bytes_eq bs ks ≡ true → bytes_eq cs ks ≡ false
apart bs cs ks n y = nat_list_eq_equiv.symm cs ks ∙ sym (nat_list_eq_equiv.congr bs ks cs y) ∙ n

apart_in_order : (bs cs ks : List ℕ) → bytes_eq bs cs ≡ false → is_eq (slice_cmp nat_cmp bs ks) ≡ true → is_eq (slice_cmp nat_cmp cs ks) ≡ false
apart_in_order bs cs ks n y = is_eq-slice_cmp cs ks ∙ apart bs cs ks n (sym (is_eq-slice_cmp bs ks) ∙ y)

others_kept : {K X : Type 0} (eq : K → K → Bool) (test : K → Bool) (old new : List (K × X)) → KeepsOthers eq test old new → (other : K → Bool) → IsKeyTest eq other → AreApart test other → lookup other new ≡ lookup other old
unfolding KeepsOthers
others_kept eq test old new h = h

-- g is w at bs, and f at other bytes
by_bytes : {W : Type 0} (f g : List ℕ → W) (bs : List ℕ) (w : W) → g bs ≡ w → ((cs : List ℕ) → bytes_eq bs cs ≡ false → g cs ≡ f cs) → (cs : List ℕ) → g cs ≡ cond (bytes_eq cs bs) w (f cs)
by_bytes f g bs w here other cs =
    ⊎_elim
    (λ y. subst (λ l. g l ≡ w) ((bytes_decides bs cs).0 y) here ∙ sym (cond-true (bytes_eq cs bs) w (f cs) (nat_list_eq_equiv.symm cs bs ∙ y)))
    (λ n. other cs n ∙ sym (cond-false (bytes_eq cs bs) w (f cs) (nat_list_eq_equiv.symm cs bs ∙ n)))
    (cases_Bool (bytes_eq bs cs))

-- a change of the index at one name changes what is found at that name, and nowhere else
pub found-update : (bs : List ℕ) (m n : Index) (w : Option ℕ) → UpdatesBy key_cmp (λ key. slice_cmp nat_cmp bs key.items) m n w → (cs : List ℕ) → found n cs ≡ cond (bytes_eq cs bs) w (found m cs)
found-update bs m n w h =
    by_bytes (found m) (found n) bs w h.1 (λ cs e. others_kept _ _ _ _ h.3 _ (λ x y. (eq_by_cmp_equiv nat_list_cmp_total).congr cs x.items y.items) (λ key. apart_in_order bs cs key.items e))

-- one more name to look for
with_more : {W : Type 0} (p q : Bool) (w v : W) → cond q w (cond p w v) ≡ cond (p || q) w v
with_more true true w v = refl
with_more true false w v = refl
with_more false true w v = refl
with_more false false w v = refl

list_any-push : {X : Type 0} (p : X → Bool) (xs : List X) (y : X) → list_any p (xs ++ y ∷ []) ≡ (list_any p xs || p y)
list_any-push p [] y = by (p y)
  where
    by : (b : Bool) → (b || false) ≡ b
    by true = refl
    by false = refl
list_any-push p (x ∷ xs) y = ap (λ b. p x || b) (list_any-push p xs y) ∙ by (p x) (list_any p xs) (p y)
  where
    by : (a b c : Bool) → (a || (b || c)) ≡ ((a || b) || c)
    by true b c = refl
    by false b c = refl

pub FindsNot-none : (m : Index) → FindsNot m m []
FindsNot-none m = record { at = λ name. refl }

pub FindsNot-more : (old mid new : Index) (names : Group) (bs : List ℕ) → FindsNot old mid names → UpdatesBy key_cmp (λ key. slice_cmp nat_cmp bs key.items) mid new None → FindsNot old new (names ++ bs ∷ [])
FindsNot-more old mid new names bs h u = record {
  at = λ name. found-update bs mid new None u name
      ∙ ap (λ v. cond (bytes_eq name bs) None v) (h.at name)
      ∙ with_more (list_any (bytes_eq name) names) (bytes_eq name bs) None (found old name)
      ∙ sym (ap (λ b. cond b None (found old name)) (list_any-push (bytes_eq name) names bs));
}

pub FindsAlso-none : (m : Index) (number : ℕ) → FindsAlso m m [] number
FindsAlso-none m number = record { at = λ name. refl }

pub FindsAlso-more : (old mid new : Index) (names : Group) (bs : List ℕ) (number : ℕ) → FindsAlso old mid names number → UpdatesBy key_cmp (λ key. slice_cmp nat_cmp bs key.items) mid new (Some number) → FindsAlso old new (names ++ bs ∷ []) number
FindsAlso-more old mid new names bs number h u = record {
  at = λ name. found-update bs mid new (Some number) u name
      ∙ ap (λ v. cond (bytes_eq name bs) (Some number) v) (h.at name)
      ∙ with_more (list_any (bytes_eq name) names) (bytes_eq name bs) (Some number) (found old name)
      ∙ sym (ap (λ b. cond b (Some number) (found old name)) (list_any-push (bytes_eq name) names bs));
}

pub AreNew-none : (m : Index) → AreNew m []
AreNew-none m = record { unknown = λ name e. absurd (false≢true e); short = λ name e. absurd (false≢true e) }

pub length-folded : (name : List ℕ) → length (folded name) ≡ length name
length-folded name = length-map name to_ascii_lowercase

-- one of the names, or the one that came after them
pub push_cases : (name bs : List ℕ) (names : Group) → list_any (bytes_eq name) (names ++ bs ∷ []) ≡ true → (list_any (bytes_eq name) names ≡ true) ⊎ (name ≡ bs)
push_cases name bs names e =
    ⊎_elim
    (λ y. inl y)
    (λ n. inr ((bytes_decides name bs).0 (sym (ap (λ b. b || bytes_eq name bs) n) ∙ sym (list_any-push (bytes_eq name) names bs) ∙ e)))
    (cases_Bool (list_any (bytes_eq name) names))

pub AreNew-more : (m : Index) (names : Group) (bs : List ℕ) → AreNew m names → found m bs ≡ None → length bs ≤ 99 → AreNew m (names ++ bs ∷ [])
AreNew-more m names bs h n s = record {
  unknown = λ name e. ⊎_elim (h.unknown name) (λ same. ap (found m) same ∙ n) (push_cases name bs names e);
  short = λ name e. ⊎_elim (h.short name) (λ same. omega (arith, ap length same)) (push_cases name bs names e);
}

-- what is found at a name after others joined: nothing, where the name is neither among these nor was there
missing : (p : Bool) (w v : Option ℕ) → is_some w ≡ true → cond p w v ≡ None → (p ≡ false) × (v ≡ None)
missing true None v s e = absurd (false≢true s)
missing true (Some x) v s e = cc
missing false w v s e = (refl, e)

there : (p : Bool) (w v : Option ℕ) → is_some w ≡ true → is_some (cond p w v) ≡ true → (is_some v || p) ≡ true
there true w None s e = refl
there true w (Some x) s e = refl
there false w (Some x) s e = refl
there false w None s e = e

pub with_new-missing : (old mid : Index) (fresh : Group) (number : ℕ) (name : List ℕ) → FindsAlso old mid fresh number → found mid (folded name) ≡ None → (with_new (is_found old) fresh name ≡ fresh ++ folded name ∷ []) × (found old (folded name) ≡ None)
with_new-missing old mid fresh number name h n =
    let m = missing (has_name fresh name) (Some number) (found old (folded name)) refl (sym (h.at (folded name)) ∙ n) in
    (ap (λ v. cond (is_some v || has_name fresh name) fresh (fresh ++ folded name ∷ [])) m.1 ∙ ap (λ b. cond b fresh (fresh ++ folded name ∷ [])) m.0, m.1)

pub with_new-there : (old mid : Index) (fresh : Group) (number : ℕ) (name : List ℕ) → FindsAlso old mid fresh number → is_some (found mid (folded name)) ≡ true → with_new (is_found old) fresh name ≡ fresh
with_new-there old mid fresh number name h y =
    ap (λ b. cond b fresh (fresh ++ folded name ∷ [])) (there (has_name fresh name) (Some number) (found old (folded name)) refl (ap is_some (sym (h.at (folded name))) ∙ y))

-- names as the code holds them
abbrev pub values : List (Bor (List ℕ)) → List (List ℕ)
values names = map (λ name. name.now) names

pub fold_names-more : {Y : Type 0} (f : Y → List ℕ → Y) (a : Y) (names : List (Bor (List ℕ))) (i : ℕ) (d : Bor (List ℕ)) → i < length names → fold f a (take (i + 1) (values names)) ≡ f (fold f a (take i (values names))) (get_or names i d).now
fold_names-more f a names i d lt =
    fold_more f a (values names) i d.now (omega (arith, length-map names (λ (n : Bor (List ℕ)). n.now)))
    ∙ ap (f (fold f a (take i (values names)))) (get_or-map (λ (n : Bor (List ℕ)). n.now) names i d)

pub fold_names-all : {Y : Type 0} (f : Y → List ℕ → Y) (a : Y) (names : List (Bor (List ℕ))) (i : ℕ) → length names ≤ i → fold f a (take i (values names)) ≡ fold f a (values names)
fold_names-all f a names i le = ap (fold f a) (take_all i (values names) (omega (arith, length-map names (λ (n : Bor (List ℕ)). n.now))))

pub none_from : {X : Type 0} (o : Option X) → is_some o ≡ false → o ≡ None
none_from None e = refl
none_from (Some x) e = absurd (false≢true (sym e))

undone : (p : Bool) (w v : Option ℕ) → (p ≡ true → v ≡ None) → cond p None (cond p w v) ≡ v
undone true w v h = sym (h refl)
undone false w v h = refl

-- names that joined and left again leave no trace
pub FindsSame-undone : (old mid new : Index) (fresh : Group) (number : ℕ) → FindsAlso old mid fresh number → AreNew old fresh → FindsNot mid new fresh → FindsSame old new
FindsSame-undone old mid new fresh number also n not_there = record {
  at = λ name. not_there.at name
      ∙ ap (λ v. cond (list_any (bytes_eq name) fresh) None v) (also.at name)
      ∙ undone (list_any (bytes_eq name) fresh) (Some number) (found old name) (n.unknown name);
}
