-- What names keep after one of them is bound or freed.
use Rattle.std.proofs.Common.{◌≡◌, ℕ, Bool, true, false, cond, Vec, List, Option, None, Some, Ordering, refl, sym, ap, ◌∙◌, subst, ⊎_elim}
use Rattle.std.specs.declared.alloc.Global.{Global}
use Rattle.std.specs.BTreeMap.{UpdatesBy}
use Rattle.std.specs.Map.{lookup, IsKeyTest, AreApart, KeepsOthers}
use Rattle.std.specs.Cmp.{eq_by_cmp_equiv}
use Rattle.std.specs.Cmp.Lexicographic.{slice_cmp, bytes_decides, nat_list_cmp_total, nat_list_eq_equiv}
use Rattle.std.specs.Ordering.{is_eq, nat_cmp}
use Rattle.std.specs.Str.{bytes_eq}
use Rattle.std.proofs.lemmas.Bool.{cases_Bool, cond-true, cond-false}
use Rattle.std.proofs.lemmas.Map.Text.{is_eq-slice_cmp}
use Rattle.std.specs.Prelude.{if◌then◌else◌}
use Rattle.ossl_op.specs.Running.{Runs}
use Rattle.ossl_script.specs.declared.bound.Bound.{Bound}
use Rattle.ossl_script.specs.declared.bound.Bound.TheVariants as kept
use Rattle.ossl_script.specs.declared.bound.Running.{Running}
use Rattle.ossl_script.specs.Bindings.{Binding, Bindings, Operating, bind, unbind}
use Rattle.ossl_script.specs.Bindings.Binding.{activation, method, running, finished}
use Rattle.ossl_script.specs.Names.{Agree, Names, Rebinds, StandsFor, bound_at, work_of}

-- how the names compare
abbrev pub key_cmp : Vec ℕ Global → Vec ℕ Global → Ordering
key_cmp x y = slice_cmp nat_cmp x.items y.items

apart : (bs cs ks : List ℕ) → bytes_eq bs cs ≡ false → bytes_eq bs ks ≡ true → bytes_eq cs ks ≡ false
apart bs cs ks n y = nat_list_eq_equiv.symm cs ks ∙ sym (nat_list_eq_equiv.congr bs ks cs y) ∙ n

apart_in_order : (bs cs ks : List ℕ) → bytes_eq bs cs ≡ false → is_eq (slice_cmp nat_cmp bs ks) ≡ true
    → is_eq (slice_cmp nat_cmp cs ks) ≡ false
apart_in_order bs cs ks n y = is_eq-slice_cmp cs ks ∙ apart bs cs ks n (sym (is_eq-slice_cmp bs ks) ∙ y)

others_kept : {K X : Type 0} (eq : K → K → Bool) (test : K → Bool) (old new : List (K × X)) → KeepsOthers eq test old new
    → (other : K → Bool) → IsKeyTest eq other → AreApart test other → lookup other new ≡ lookup other old
unfolding KeepsOthers
others_kept eq test old new h = h

-- g is w at bs, and f at other bytes
by_bytes : {W : Type 0} (f g : List ℕ → W) (bs : List ℕ) (w : W) → g bs ≡ w
    → ((cs : List ℕ) → bytes_eq bs cs ≡ false → g cs ≡ f cs) → (cs : List ℕ) → g cs ≡ cond (bytes_eq bs cs) w (f cs)
by_bytes f g bs w here other cs =
    ⊎_elim
    (λ y. subst (λ l. g l ≡ w) ((bytes_decides bs cs).0 y) here ∙ sym (cond-true (bytes_eq bs cs) w (f cs) y))
    (λ n. other cs n ∙ sym (cond-false (bytes_eq bs cs) w (f cs) n))
    (cases_Bool (bytes_eq bs cs))

-- a change of the map at one name rebinds that name
pub rebinds : (bs : List ℕ) (old new : Names) (bound : Option Bound)
    → UpdatesBy key_cmp (λ key. slice_cmp nat_cmp bs key.items) old new bound → Rebinds old new bs bound
rebinds bs old new bound h =
    by_bytes (bound_at old) (bound_at new) bs bound h.1
    (λ cs e. others_kept _ _ _ _ h.3 _ (λ x y. (eq_by_cmp_equiv nat_list_cmp_total).congr cs x.items y.items)
    (λ key. apart_in_order bs cs key.items e))

-- 2. What is kept still stands for what is bound.

bound_here : (b : Bool) (one : Bound) (binding : Binding) (before : Option Bound) (was : Option Binding)
    → StandsFor (Some one) (Some binding) → StandsFor before was → StandsFor (if b then Some one else before) (if b then Some binding else was)
bound_here true one binding before was stands stood = stands
bound_here false one binding before was stands stood = stood

freed_here : (b : Bool) (before : Option Bound) (was : Option Binding) → StandsFor before was
    → StandsFor (if b then None else before) (if b then None else was)
freed_here true before was stood = tt
freed_here false before was stood = stood

pub agree_bound : (old new : Names) (name : List ℕ) (one : Bound) (binding : Binding) → Rebinds old new name (Some one)
    → StandsFor (Some one) (Some binding) → (bindings : Bindings) → Agree old bindings → Agree new (bind name binding bindings)
agree_bound old new name one binding rebinds stands bindings agree = record {
  at = λ other. subst (λ (o : Option Bound). StandsFor o (bind name binding bindings other)) (sym (rebinds other))
      (bound_here (bytes_eq name other) one binding (bound_at old other) (bindings other) stands (agree.at other));
}

pub agree_freed : (old new : Names) (name : List ℕ) → Rebinds old new name None
    → (bindings : Bindings) → Agree old bindings → Agree new (unbind name bindings)
agree_freed old new name rebinds bindings agree = record {
  at = λ other. subst (λ (o : Option Bound). StandsFor o (unbind name bindings other)) (sym (rebinds other))
      (freed_here (bytes_eq name other) (bound_at old other) (bindings other) (agree.at other));
}

-- a name that is freed and bound again is bound
twice : (b : Bool) (one : Option Bound) (before : Option Bound) → (if b then one else (if b then None else before)) ≡ (if b then one else before)
twice true one before = refl
twice false one before = refl

pub rebinds_twice : (old mid new : Names) (name : List ℕ) (one : Option Bound) → Rebinds old mid name None → Rebinds mid new name one
    → Rebinds old new name one
rebinds_twice old mid new name one first second other =
    second other ∙ ap (λ (o : Option Bound). if bytes_eq name other then one else o) (first other) ∙ twice (bytes_eq name other) one (bound_at old other)

-- what was freed and comes back was never gone
back : (b : Bool) (one before : Option Bound) (was : Option Binding) → (b ≡ true → one ≡ before) → StandsFor before was
    → StandsFor (if b then one else before) was
back true one before was same stood = subst (λ (o : Option Bound). StandsFor o was) (sym (same refl)) stood
back false one before was same stood = stood

pub agree_back : (old mid new : Names) (name : List ℕ) (one : Option Bound) → bound_at old name ≡ one → Rebinds old mid name None
    → Rebinds mid new name one → (bindings : Bindings) → Agree old bindings → Agree new bindings
agree_back old mid new name one kept first second bindings agree = record {
  at = λ other. subst (λ (o : Option Bound). StandsFor o (bindings other)) (sym (rebinds_twice old mid new name one first second other))
      (back (bytes_eq name other) one (bound_at old other) (bindings other)
      (λ same. sym kept ∙ ap (bound_at old) ((bytes_decides name other).0 same)) (agree.at other));
}

-- nothing that was freed was there
pub agree_missing : (old new : Names) (name : List ℕ) → bound_at old name ≡ None → Rebinds old new name None
    → (bindings : Bindings) → Agree old bindings → Agree new bindings
agree_missing old new name kept first bindings agree = record {
  at = λ other. subst (λ (o : Option Bound). StandsFor o (bindings other)) (sym (first other))
      (back (bytes_eq name other) None (bound_at old other) (bindings other)
      (λ same. sym kept ∙ ap (bound_at old) ((bytes_decides name other).0 same)) (agree.at other));
}

-- an operation that is kept stands for one that is bound
pub running_at : (one : Running) (binding : Option Binding) → StandsFor (Some (kept.Running one)) binding
    → (operating : Operating) × (binding ≡ Some (running operating)) × (one.token ≡ operating.token) × Runs one.context (work_of operating one.given.items)
running_at one (Some (running operating)) stands = (operating, refl, stands.0, stands.1)
running_at one (Some (activation bound)) stands = absurd stands
running_at one (Some (method bound)) stands = absurd stands
running_at one (Some (finished bound)) stands = absurd stands
running_at one None stands = absurd stands

-- the operation that is bound where this one is kept
pub stood_at : (names : Names) (name : List ℕ) (one : Running) → bound_at names name ≡ Some (kept.Running one) → (bindings : Bindings) → Agree names bindings
    → (operating : Operating) × (bindings name ≡ Some (running operating)) × (one.token ≡ operating.token) × Runs one.context (work_of operating one.given.items)
stood_at names name one same bindings agree =
    running_at one (bindings name) (subst (λ (o : Option Bound). StandsFor o (bindings name)) same (agree.at name))
