-- Groups as the map holds them, and as contracts see them.
use Rattle.std.proofs.Common.{◌≡◌, ℕ, ◌<◌, List, [], ◌∷◌, Vec, length, set, get_or, map, Some, cond, refl, sym, ap, ◌∙◌}
use Rattle.std.specs.declared.alloc.Global.{Global}
use Rattle.std.specs.List.{AllZip}
use Rattle.std.specs.Map.{lookup}
use Rattle.std.specs.BTreeMap.{is_at}
use Rattle.std.specs.Cmp.Lexicographic.{slice_cmp}
use Rattle.std.specs.Ordering.{nat_cmp, is_eq}
use Rattle.std.proofs.lemmas.List.{get_or-map, map-set, set-get_or}
use Rattle.ossl_names.specs.Groups.{Group, Groups}
use Rattle.ossl_names.specs.Index.{Index, FindsSame}

abbrev pub Held : Type 0
Held = List (Vec (List ℕ) Global)

abbrev pub seen : Held → Groups
seen held = map (λ group. group.items) held

pub seen-at : (held : Held) (i : ℕ) (group : Vec (List ℕ) Global) → i < length held → group ≡ get_or held i group → group.items ≡ get_or (seen held) i []
seen-at held i group lt e = ap (λ (g : Vec (List ℕ) Global). g.items) e ∙ sym (get_or-map (λ (g : Vec (List ℕ) Global). g.items) held i group [] lt)

pub seen-set : (held : Held) (i : ℕ) (group : Vec (List ℕ) Global) (after : Group) → group.items ≡ after → seen (set held i group) ≡ set (seen held) i after
seen-set held i group after e = map-set (λ (g : Vec (List ℕ) Global). g.items) held i group ∙ ap (set (seen held) i) e

pub seen-same : (held : Held) (i : ℕ) (group : Vec (List ℕ) Global) → group.items ≡ get_or (seen held) i [] → seen (set held i group) ≡ seen held
seen-same held i group e = seen-set held i group (get_or (seen held) i []) e ∙ set-get_or (seen held) i []

-- an index finds what its clone finds
clone_finds : (C : Vec ℕ Global → Vec ℕ Global → Type 0) (D : ℕ → ℕ → Type 0) → ((x y : Vec ℕ Global) → C x y → y.items ≡ x.items) → ((v w : ℕ) → D v w → w ≡ v) → (name : List ℕ) (es fs : List (Vec ℕ Global × ℕ)) → AllZip (λ p q. C p.0 q.0 × D p.1 q.1) es fs → lookup (is_at (λ key. slice_cmp nat_cmp name key.items)) fs ≡ lookup (is_at (λ key. slice_cmp nat_cmp name key.items)) es
clone_finds C D keys numbers name [] [] h = refl
clone_finds C D keys numbers name [] (y ∷ ys) h = absurd h
clone_finds C D keys numbers name (x ∷ xs) [] h = absurd h
clone_finds C D keys numbers name (x ∷ xs) (y ∷ ys) h =
    let rest = clone_finds C D keys numbers name xs ys h.1 in
    ap (λ k. cond (is_eq (slice_cmp nat_cmp name k)) (Some y.1) (lookup (is_at (λ key. slice_cmp nat_cmp name key.items)) ys)) (keys x.0 y.0 h.0.0)
    ∙ ap (λ n. cond (is_eq (slice_cmp nat_cmp name x.0.items)) (Some n) (lookup (is_at (λ key. slice_cmp nat_cmp name key.items)) ys)) (numbers x.1 y.1 h.0.1)
    ∙ ap (cond (is_eq (slice_cmp nat_cmp name x.0.items)) (Some x.1)) rest

pub FindsSame-clone : (C : Vec ℕ Global → Vec ℕ Global → Type 0) (D : ℕ → ℕ → Type 0) → ((x y : Vec ℕ Global) → C x y → y.items ≡ x.items) → ((v w : ℕ) → D v w → w ≡ v) → (old new : Index) → AllZip (λ p q. C p.0 q.0 × D p.1 q.1) old.entries new.entries → FindsSame old new
FindsSame-clone C D keys numbers old new h = record { at = λ name. clone_finds C D keys numbers name old.entries new.entries h }
