-- Files that are found by their names, when one more is named.
use Rattle.std.proofs.Common.{◌≡◌, ℕ, zero, suc, ◌+◌, Bool, true, false, ◌||◌, Option, Some, None, Vec, List, [], ◌∷◌, ◌++◌, length, Ordering, refl, sym, ap, ◌∙◌, subst, ⊎_elim, arith}
use Rattle.std.specs.Prelude.{cond, not, if◌then◌else◌}
use Rattle.std.specs.declared.alloc.Global.{Global}
use Rattle.std.specs.BTreeMap.{BTreeMap, UpdatesBy}
use Rattle.std.specs.Map.{lookup, IsKeyTest, AreApart, KeepsOthers}
use Rattle.std.specs.Cmp.{eq_by_cmp_equiv}
use Rattle.std.specs.Cmp.Lexicographic.{slice_cmp, bytes_decides, nat_list_cmp_total, nat_list_eq_equiv}
use Rattle.std.specs.Ordering.{is_eq, nat_cmp}
use Rattle.std.specs.List.{list_any, position_or_len}
use Rattle.std.specs.Str.{bytes_eq}
use Rattle.std.proofs.lemmas.Bool.{cases_Bool}
use Rattle.std.proofs.lemmas.Map.Text.{is_eq-slice_cmp}
use Rattle.ossl_commands.specs.Words.{Files, place_of, with_file}
use Rattle.ossl_commands.specs.Named.{found, found_among}

-- the first place that passes a test, if one does
abbrev first : {A : Type 0} → (A → Bool) → List A → Option ℕ
first p xs = if list_any p xs then Some (position_or_len p xs) else None

abbrev up : Option ℕ → Option ℕ
up None = None
up (Some n) = Some (1 + n)

first-push : {A : Type 0} (p : A → Bool) (xs : List A) (y : A)
    → first p (xs ++ y ∷ []) ≡ (if list_any p xs then Some (position_or_len p xs) else if p y then Some (length xs) else None)
first-push p [] y = by (p y)
  where
    by : (b : Bool) → (if b || false then Some (cond (not b) (1 + 0) 0) else None) ≡ (if b then Some zero else None)
    by true = refl
    by false = refl
first-push p (x ∷ xs) y = by (p x) (first-push p xs y)
  where
    shifted : (b : Bool) (n : ℕ) → (if b then Some (1 + n) else None) ≡ up (if b then Some n else None)
    shifted true n = refl
    shifted false n = refl

    chosen : (b c : Bool) (n m : ℕ) → up (if b then Some n else if c then Some m else None) ≡ (if b then Some (1 + n) else if c then Some (suc m) else None)
    chosen true c n m = refl
    chosen false true n m = ap Some (let e : 1 + m ≡ suc m = omega arith in e)
    chosen false false n m = refl

    by : (b : Bool)
        → first p (xs ++ y ∷ []) ≡ (if list_any p xs then Some (position_or_len p xs) else if p y then Some (length xs) else None)
        → (if b || list_any p (xs ++ y ∷ []) then Some (cond (not b) (1 + position_or_len p (xs ++ y ∷ [])) 0) else None)
        ≡ (if b || list_any p xs then Some (cond (not b) (1 + position_or_len p xs) 0) else if p y then Some (suc (length xs)) else None)
    by true behind = refl
    by false behind =
        shifted (list_any p (xs ++ y ∷ [])) (position_or_len p (xs ++ y ∷ []))
        ∙ ap up behind
        ∙ chosen (list_any p xs) (p y) (position_or_len p xs) (length xs)

-- a file that is not among these comes behind them
lacking : {A : Type 0} (p : A → Bool) (xs : List A) → list_any p xs ≡ false → position_or_len p xs ≡ length xs
lacking p [] none = refl
lacking p (x ∷ xs) none = by (p x) none (lacking p xs)
  where
    by : (b : Bool) → (b || list_any p xs) ≡ false → (list_any p xs ≡ false → position_or_len p xs ≡ length xs)
        → cond (not b) (1 + position_or_len p xs) 0 ≡ suc (length xs)
    by true none behind = absurd (let e : true ≡ false = none in cc)
    by false none behind = let e = behind none in omega (arith, e)

none_found : (b : Bool) (n : ℕ) → (if b then Some n else None) ≡ None → b ≡ false
none_found true n none = absurd (let e : Some n ≡ None = none in cc)
none_found false n none = refl

some_found : (b : Bool) (n place : ℕ) → (if b then Some n else None) ≡ Some place → (place ≡ n) × (b ≡ true)
some_found true n place there = let e : Some n ≡ Some place = there in (cc, refl)
some_found false n place there = absurd (let e : None ≡ Some place = there in cc)

-- a file is found: where it stands, and the files stay
pub is_there : (files : Files) (name : List ℕ) (place : ℕ) → found_among files name ≡ Some place
    → (place ≡ place_of files name) × (files ≡ with_file files name)
is_there files name place there =
    let found = some_found (list_any (bytes_eq name) files) (place_of files name) place there in
    (found.0, sym (ap (λ b. if b then files else files ++ name ∷ []) found.1))

-- a file is not found: it comes behind the others
pub is_new : (files : Files) (name : List ℕ) → found_among files name ≡ None
    → (length files ≡ place_of files name) × (files ++ name ∷ [] ≡ with_file files name)
is_new files name none =
    let is_none = none_found (list_any (bytes_eq name) files) (place_of files name) none in
    (sym (lacking (bytes_eq name) files is_none), sym (ap (λ b. if b then files else files ++ name ∷ []) is_none))

-- how names compare
abbrev pub key_cmp : Vec ℕ Global → Vec ℕ Global → Ordering
key_cmp x y = slice_cmp nat_cmp x.items y.items

apart : (bs cs ks : List ℕ) → bytes_eq bs cs ≡ false → is_eq (slice_cmp nat_cmp bs ks) ≡ true → is_eq (slice_cmp nat_cmp cs ks) ≡ false
apart bs cs ks n y =
    is_eq-slice_cmp cs ks ∙ nat_list_eq_equiv.symm cs ks
    ∙ sym (nat_list_eq_equiv.congr bs ks cs (sym (is_eq-slice_cmp bs ks) ∙ y)) ∙ n

others_kept : {K X : Type 0} (eq : K → K → Bool) (test : K → Bool) (old new : List (K × X)) → KeepsOthers eq test old new
    → (other : K → Bool) → IsKeyTest eq other → AreApart test other → lookup other new ≡ lookup other old
unfolding KeepsOthers
others_kept eq test old new h = h

-- a new name is found behind the others, which are found where they were
pub found-more : (files : Files) (old new : BTreeMap (Vec ℕ Global) ℕ) (name : List ℕ) (place : ℕ)
    → ((q : List ℕ) → found old q ≡ found_among files q) → found_among files name ≡ None
    → place ≡ length files → UpdatesBy key_cmp (λ key. slice_cmp nat_cmp name key.items) old new (Some place)
    → (q : List ℕ) → found new q ≡ found_among (files ++ name ∷ []) q
found-more files old new name place before none last updates q =
    ⊎_elim
    (λ same. subst (λ q. found new q ≡ found_among (files ++ name ∷ []) q) ((bytes_decides name q).0 same) at_name)
    (λ other. kept other ∙ before q ∙ sym (first-push (bytes_eq q) files name ∙ ap (λ b. if list_any (bytes_eq q) files then Some (place_of files q) else if b then Some (length files) else None) (nat_list_eq_equiv.symm q name ∙ other)))
    (cases_Bool (bytes_eq name q))
  where
    kept : bytes_eq name q ≡ false → found new q ≡ found old q
    kept other = others_kept _ _ _ _ updates.3 _ (λ x y. (eq_by_cmp_equiv nat_list_cmp_total).congr q x.items y.items) (λ key. apart name q key.items other)

    at_name : found new name ≡ found_among (files ++ name ∷ []) name
    at_name =
        updates.1 ∙ ap Some last
        ∙ sym (first-push (bytes_eq name) files name
        ∙ ap (λ b. if b then Some (place_of files name) else if bytes_eq name name then Some (length files) else None) (none_found (list_any (bytes_eq name) files) (place_of files name) none)
        ∙ ap (λ b. if b then Some (length files) else None) (nat_list_eq_equiv.refl name))
