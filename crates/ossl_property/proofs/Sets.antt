-- A sorted set of texts, after an insertion.
use Rattle.std.proofs.Common.{◌≡◌, ℕ, Bool, true, false, ◌||◌, List, [], ◌∷◌, refl, sym, ap, ◌∙◌}
use Rattle.std.specs.declared.cmp.Ordering.{Ordering}
use Rattle.std.specs.declared.cmp.Ordering.TheVariants.{Less, Equal, Greater}
use Rattle.std.specs.BTreeMap.{is_at}
use Rattle.std.specs.BTreeSet.{insert_key}
use Rattle.std.specs.Cmp.Lexicographic.{slice_cmp}
use Rattle.std.specs.List.{list_any}
use Rattle.std.specs.Ordering.{nat_cmp, match_ordering}
use Rattle.std.specs.Str.{bytes_eq}
use Rattle.std.proofs.lemmas.Bool.Decides.{same_from_decides, Decides-like}
use Rattle.std.proofs.lemmas.Map.Lookups.{exact_bytes}
use Rattle.std.proofs.lemmas.Map.Text.{is_eq-slice_cmp}
use Rattle.std.proofs.lemmas.Slice.Eq.{bytes_eq-Decides}

pub bytes_eq_sym : (s t : List ℕ) → bytes_eq s t ≡ bytes_eq t s
bytes_eq_sym s t = same_from_decides _ _ (bytes_eq-Decides s t) (Decides-like {P = t ≡ s} _ sym sym (bytes_eq-Decides t s))

or_first : (a b : Bool) → (a || b) ≡ (b || a)
or_first true true = refl
or_first true false = refl
or_first false true = refl
or_first false false = refl

or_again : (a b : Bool) → (a || b) ≡ ((a || b) || a)
or_again true b = refl
or_again false true = refl
or_again false false = refl

or_assoc : (a b c : Bool) → (a || (b || c)) ≡ ((a || b) || c)
or_assoc true b c = refl
or_assoc false b c = refl

-- whether a text is among the keys
abbrev pub is_among : {K : Type 0} → (K → List ℕ) → List K → List ℕ → Bool
is_among items keys text = list_any (is_at (λ key. slice_cmp nat_cmp text (items key))) keys

is_key : (s t : List ℕ) → is_at (slice_cmp nat_cmp s) t ≡ bytes_eq t s
is_key s t = is_eq-slice_cmp s t ∙ bytes_eq_sym s t

placed : {K : Type 0} (items : K → List ℕ) (x : K) (xs ys : List K) (key : K) (text : List ℕ) (order : Ordering)
    → slice_cmp nat_cmp (items key) (items x) ≡ order
    → is_among items ys text ≡ (is_among items xs text || bytes_eq (items key) text)
    → is_among items (match_ordering order (key ∷ x ∷ xs) (x ∷ xs) (x ∷ ys)) text ≡ (is_among items (x ∷ xs) text || bytes_eq (items key) text)
placed items x xs ys key text Less e h = ap (λ b. b || is_among items (x ∷ xs) text) (is_key text (items key)) ∙ or_first (bytes_eq (items key) text) (is_among items (x ∷ xs) text)
placed items x xs ys key text Equal e h =
    let here = is_key text (items x) ∙ ap (λ k. bytes_eq k text) (sym (exact_bytes (items key) (items x) e)) in
    ap (λ b. b || is_among items xs text) here ∙ or_again (bytes_eq (items key) text) (is_among items xs text) ∙ ap (λ b. (b || is_among items xs text) || bytes_eq (items key) text) (sym here)
placed items x xs ys key text Greater e h = ap (λ b. is_at (slice_cmp nat_cmp text) (items x) || b) h ∙ or_assoc (is_at (slice_cmp nat_cmp text) (items x)) (is_among items xs text) (bytes_eq (items key) text)

-- the keys after an insertion are those before and the new one
pub is_among_inserted : {K : Type 0} (items : K → List ℕ) (keys : List K) (key : K) (text : List ℕ)
    → is_among items (insert_key (λ x y. slice_cmp nat_cmp (items x) (items y)) keys key) text ≡ (is_among items keys text || bytes_eq (items key) text)
is_among_inserted items [] key text = ap (λ b. b || false) (is_key text (items key)) ∙ or_first (bytes_eq (items key) text) false
is_among_inserted items (x ∷ xs) key text = placed items x xs (insert_key (λ x y. slice_cmp nat_cmp (items x) (items y)) xs key) key text (slice_cmp nat_cmp (items key) (items x)) refl (is_among_inserted items xs key text)
