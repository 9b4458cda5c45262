-- What is put into a state is taken back by its mark.
use Rattle.std.proofs.Common.{◌≡◌, ℕ, ◌+◌, ◌<◌, ◌≤◌, Bool, List, [], ◌∷◌, ◌++◌, length, take, get_or, refl, sym, ◌∙◌, ap, arith, suc, zero}
use Rattle.std.proofs.Math.ListN.{set, length-set}
use Rattle.std.specs.Prelude.{None, Some}
use Rattle.std.specs.declared.option.Option.{Option}
use Rattle.std.proofs.lemmas.List.{get_or-set_same, length_push, take-append-le, take_all}
use Rattle.ossl_names.specs.Groups.{Groups}
use Rattle.ossl_state.specs.declared.mark.Mark.{Mark}
use Rattle.ossl_state.specs.declared.state.Born.{Born}
use Rattle.ossl_state.specs.declared.state.Choice.{Choice}
use Rattle.ossl_state.specs.declared.state.Given.{Given}
use Rattle.ossl_state.specs.declared.state.LibCtx.{LibCtx}
use Rattle.ossl_state.specs.declared.state.Live.{Live}
use Rattle.ossl_state.specs.declared.state.State.{State}
use Rattle.ossl_state.specs.Mark.{marked, lib_before, taken_back, LeadsBack, with_started}
use Rattle.ossl_state.specs.State.{lib_at, no_lib, with_lib}
use Rattle.ossl_state.specs.Step.{with_active, joined_of, grouped_of, used_of, with_fallback_used, loaded_of, with_given, with_element, with_method, new_method}
use Rattle.ossl_state.proofs.ListLaws.{set_twice}

set_itself : {X : Type 0} (xs : List X) (i : ℕ) (d : X) → set xs i (get_or xs i d) ≡ xs
set_itself [] i d = refl
set_itself (x ∷ xs) zero d = refl
set_itself (x ∷ xs) (suc i) d = ap (λ l. x ∷ l) (set_itself xs i d)

take_whole : {X : Type 0} (xs : List X) → take (length xs) xs ≡ xs
take_whole xs = take_all (length xs) xs (omega arith)

take_front : {X : Type 0} (xs : List X) (x : X) (n : ℕ) → n ≤ length xs → take n (xs ++ x ∷ []) ≡ take n xs
take_front xs x n h = take-append-le n xs (x ∷ []) h

-- a library context that changes, and is as it was once it is taken back
lib_back : (m : Mark) (l : ℕ) (before s : State) (lib : LibCtx) → LeadsBack m l before s → lib_before m lib ≡ lib_before m (lib_at s l) → m.given ≤ length lib.given →
    LeadsBack m l before (with_lib s l lib)
lib_back m l before s lib h same more =
    let here : lib_at (with_lib s l lib) l ≡ lib = get_or-set_same s.libs l lib no_lib h.there in
    record {
      lib = h.lib;
      there = omega (arith, h.there, length-set s.libs l lib);
      given = rw here more;
      live = h.live;
      back = rw (h.lib, here, set_twice s.libs l lib (lib_before m lib), same) (rw h.lib at h.back);
    }

-- nothing was put in
pub mark-itself : (s : State) (l : ℕ) → l < length s.libs → LeadsBack (marked s l) l s s
mark-itself s l there = record {
  lib = refl;
  there = there;
  given = omega arith;
  live = omega arith;
  back = rw (take_whole s.born, take_whole s.live, take_whole (lib_at s l).order, take_whole (lib_at s l).given, set_itself s.libs l no_lib) refl;
}

-- a provider became active
pub mark-joined : (s : State) (l k n : ℕ) → l < length s.libs → LeadsBack (marked s l) l s (with_active s l k n)
mark-joined s l k n there =
    lib_back (marked s l) l s s (joined_of (lib_at s l) k n) (mark-itself s l there)
    (rw (take_front (lib_at s l).order (record { place = k; instance = n }) (length (lib_at s l).order) (omega arith)) refl) (omega arith)

-- an instance was started
pub mark-started : (s : State) (b : Born) (groups : Groups) → b.lib < length s.libs →
    LeadsBack (record (marked s b.lib) { groups = Some (lib_at s b.lib).groups }) b.lib s (with_started s b groups)
mark-started s b groups there =
    let l = b.lib in
    let was = lib_at s l in
    let m = record (marked s l) { groups = Some was.groups } in
    let lib = joined_of (grouped_of was groups) b.place b.number in
    let inner : lib_at (with_lib s l (grouped_of was groups)) l ≡ grouped_of was groups = get_or-set_same s.libs l (grouped_of was groups) no_lib there in
    let here : lib_at (with_lib s l lib) l ≡ lib = get_or-set_same s.libs l lib no_lib there in
    let is : with_started s b groups ≡ record (with_lib s l lib) { born = s.born ++ b ∷ [] } = rw (inner, set_twice s.libs l (grouped_of was groups) lib) refl in
    rw is (record {
      lib = refl;
      there = omega (arith, there, length-set s.libs l lib);
      given = rw here (omega arith);
      live = omega arith;
      back = rw (
        here,
        set_twice s.libs l lib (lib_before m lib),
        take_front was.order (record { place = b.place; instance = b.number }) (length was.order) (omega arith),
        take_front s.born b (length s.born) (omega arith),
        take_whole s.born,
        take_whole s.live,
        take_whole was.order,
        take_whole was.given,
        set_itself s.libs l no_lib,
      ) refl;
    })

-- a fallback was used
pub mark-used : (m : Mark) (l : ℕ) (before s : State) → LeadsBack m l before s → LeadsBack m l before (with_fallback_used s l)
mark-used m l before s h = lib_back m l before s (used_of (lib_at s l)) h refl h.given

-- an activation was given
pub mark-given : (m : Mark) (l : ℕ) (before s : State) (retain : Bool) (g : Given) → LeadsBack m l before s → LeadsBack m l before (with_given s l retain g)
mark-given m l before s retain g h =
    lib_back m l before s (loaded_of retain g (lib_at s l)) h (rw (take_front (lib_at s l).given g m.given h.given) refl) (omega (arith, h.given, length_push (lib_at s l).given g))

-- a live element was made
pub mark-element : (m : Mark) (l : ℕ) (before s : State) (x : Live) → LeadsBack m l before s → LeadsBack m l before (with_element s x)
mark-element m l before s x h = record {
  lib = h.lib;
  there = h.there;
  given = h.given;
  live = omega (arith, h.live, length_push s.live x);
  back = rw (take_front s.live x m.live h.live) h.back;
}

-- a method was made, or none
pub mark-method : (m : Mark) (l : ℕ) (before s : State) (c : ℕ) (o : Option Choice) → LeadsBack m l before s → LeadsBack m l before (with_method s c o)
mark-method m l before s c None h = h
mark-method m l before s c (Some chosen) h = mark-element m l before s (new_method s.next c chosen) h
