-- Reading a list, clause by clause, as the loop does.
use Rattle.std.proofs.Common.{◌≡◌, ℕ, zero, suc, ◌+◌, ◌<◌, Bool, true, false, ◌||◌, List, [], ◌∷◌, length, Result, Ok, refl, sym, ap, subst, ◌∙◌, arith}
use Rattle.ossl_property.specs.declared.clause.Clause.{Clause}
use Rattle.ossl_property.specs.declared.reader.Language.{Language}
use Rattle.ossl_property.specs.declared.reader.Refusal.{Refusal}
use Rattle.ossl_property.specs.declared.reader.Refusal.TheVariants as refusals
use Rattle.ossl_property.specs.Bytes.{is_space, past}
use Rattle.std.specs.Str.{bytes_eq}
use Rattle.ossl_property.specs.Grammar.{mentions}
use Rattle.ossl_property.specs.Reading.{◌>>=◌, Fails, clause_at, more_at, list_at}

-- functions that agree are one
pub same_function : (f g : List ℕ → Bool) → ((name : List ℕ) → f name ≡ g name) → f ≡ g
same_function f g h = λ i name. h name i

fails_bind : {A B : Type 0} (e : Refusal) (rest : List ℕ) (r : Result A (List ℕ)) (f : A → Result B (List ℕ)) → Fails e rest r → Fails e rest (r >>= f)
fails_bind refusals.NoMemory rest r f h = tt
fails_bind refusals.Fault rest r f h = rw h refl

pub first_fails : (language : Language) (taken : List ℕ → Bool) (text : List ℕ) (e : Refusal) (rest : List ℕ) → taken ≡ (λ name. false) → (length text ≡ 0 → ⊥) → Fails e rest (clause_at language taken text) → Fails e rest (list_at language text)
unfolding list_at
first_fails language taken [] e rest same some h = absurd (some refl)
first_fails language taken (byte ∷ text) e rest same some h =
    fails_bind e rest (clause_at language (λ name. false) (byte ∷ text)) (λ first. more_at (suc (suc (length text))) language (first.0 ∷ []) (past is_space first.1)) (subst (λ (t : List ℕ → Bool). Fails e rest (clause_at language t (byte ∷ text))) same h)

pub first_goes_on : (language : Language) (taken : List ℕ → Bool) (text : List ℕ) (first : Clause) (behind : List ℕ) → taken ≡ (λ name. false) → (length text ≡ 0 → ⊥) → clause_at language taken text ≡ Ok (first, behind) → more_at (length text + 1) language (first ∷ []) (past is_space behind) ≡ list_at language text
unfolding list_at
first_goes_on language taken [] first behind same some h = absurd (some refl)
first_goes_on language taken (byte ∷ text) first behind same some h =
    let here : clause_at language (λ name. false) (byte ∷ text) ≡ Ok (first, behind) = subst (λ (t : List ℕ → Bool). clause_at language t (byte ∷ text) ≡ Ok (first, behind)) same h in
    let fuel : length (byte ∷ text) + 1 ≡ suc (suc (length text)) = omega arith in
    rw (fuel, here) refl

pub nothing_left : (fuel : ℕ) (language : Language) (clauses : List Clause) (text : List ℕ) → length text ≡ 0 → length text < fuel → more_at fuel language clauses text ≡ Ok clauses
unfolding more_at
nothing_left zero language clauses text none h = absurd (omega arith)
nothing_left (suc fuel) language clauses [] none h = refl
nothing_left (suc fuel) language clauses (byte ∷ text) none h = absurd (omega arith)

-- a step of the loop
pub goes_on : (fuel : ℕ) (language : Language) (clauses after : List Clause) (text rest : List ℕ) (whole : Result (List Clause) (List ℕ)) → length text < fuel → more_at fuel language clauses text ≡ whole
    → ((less : ℕ) → more_at (less + 1) language clauses text ≡ more_at less language after rest) → length rest < length text → (less : ℕ) × (length rest < less) × (more_at less language after rest ≡ whole)
goes_on zero language clauses after text rest whole h total step shorter = absurd (omega arith)
goes_on (suc less) language clauses after text rest whole h total step shorter =
    let same : suc less ≡ less + 1 = omega arith in
    let total' : more_at (less + 1) language clauses text ≡ whole = subst (λ (n : ℕ). more_at n language clauses text ≡ whole) same total in
    (less, omega arith, sym (step less) ∙ total')

pub ends : (fuel : ℕ) (language : Language) (clauses : List Clause) (text rest : List ℕ) (whole : Result (List Clause) (List ℕ)) (e : Refusal) → length text < fuel → more_at fuel language clauses text ≡ whole
    → ((less : ℕ) → Fails e rest (more_at (less + 1) language clauses text)) → Fails e rest whole
ends zero language clauses text rest whole e h total step = absurd (omega arith)
ends (suc less) language clauses text rest whole e h total step =
    let same : suc less ≡ less + 1 = omega arith in
    subst (λ (r : Result (List Clause) (List ℕ)). Fails e rest r) (subst (λ (n : ℕ). more_at n language clauses text ≡ whole) same total) (step less)

or_false : (b : Bool) → b ≡ (b || false)
or_false true = refl
or_false false = refl

-- the names behind the first clause are its own
pub first_named : (before after : List ℕ → Bool) (clause : Clause) → ((name : List ℕ) → before name ≡ false) → ((name : List ℕ) → after name ≡ (before name || bytes_eq clause.name name)) → after ≡ mentions (clause ∷ [])
first_named before after clause none h = same_function after (mentions (clause ∷ [])) (λ name. h name ∙ ap (λ b. b || bytes_eq clause.name name) (none name) ∙ or_false (bytes_eq clause.name name))
