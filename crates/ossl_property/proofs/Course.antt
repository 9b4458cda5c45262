-- How far the tokens of a list have come, token by token; tokens that come anywhere are the first of a whole list's.
use Rattle.std.proofs.Common.{◌≡◌, ℕ, Bool, true, false, cond, ◌&&◌, ◌||◌, ◌⊎◌, inl, inr, List, [], ◌∷◌, ◌++◌, map, bytes_eq, Option, Some, None, option_and_then, Result, Ok, Err, refl, sym, ap, subst, ◌∙◌, append-nil}
use Rattle.std.specs.List.{AllByRecursion}
use Rattle.std.proofs.lemmas.Bool.{and_parts, or_cases, false_from_ne_true}
use Rattle.std.proofs.lemmas.Slice.Eq.{bytes_eq-Decides}
use Rattle.ossl_property.specs.declared.clause.Value.{Value}
use Rattle.ossl_property.specs.declared.clause.Value.TheVariants.{Text}
use Rattle.ossl_property.specs.declared.clause.Relation.{Relation}
use Rattle.ossl_property.specs.declared.clause.Relation.TheVariants.{Equal, Differ, Remove}
use Rattle.ossl_property.specs.declared.clause.Property.{Property}
use Rattle.ossl_property.specs.declared.clause.Clause.{Clause}
use Rattle.ossl_property.specs.declared.reader.Language.{Language}
use Rattle.ossl_property.specs.declared.reader.Language.TheVariants.{Definitions, Queries}
use Rattle.ossl_property.specs.Bytes.{folded}
use Rattle.ossl_property.specs.Grammar.{is_name, IsValue, operator, mark, yes, no_value, IsComparison, AreTokens, asked}
use Rattle.ossl_property.specs.Reading.{value_at, is_query, property_of}
use Rattle.ossl_property.specs.Tokens.{AreListTokens, AreQueryTokens, AreDefinitionTokens}
use Rattle.ossl_property.proofs.Found.{IsAllowed, value_found, tokens_named, allowed_named}
use Rattle.ossl_property.proofs.FoundLists.{Allowed, asked_properties}
use Rattle.ossl_property.proofs.Again.{value_again}

-- what may come next
pub data State : Type 0 where
  Start Next Marked Removing Named Compared Ended : State

abbrev pub is_nothing : List ℕ → Bool
is_nothing [] = true
is_nothing (byte ∷ rest) = false

-- a word that a value's reading takes whole
abbrev pub reads_whole : Result (Value × List ℕ) (List ℕ) → Bool
reads_whole (Ok x) = is_nothing x.1
reads_whole (Err bad) = false

abbrev pub is_value : List ℕ → Bool
is_value word = reads_whole (value_at word)

abbrev pub named : State → List ℕ → Option State
named state word = cond (is_name word) (Some state) None

abbrev pub comma : List ℕ → Option State
comma word = cond (bytes_eq word (44 ∷ [])) (Some Next) None

abbrev pub opened : Language → List ℕ → Option State
opened language word = cond (bytes_eq word (63 ∷ []) && is_query language) (Some Marked) (cond (bytes_eq word (45 ∷ []) && is_query language) (Some Removing) (named Named word))

-- one token more
abbrev pub step : Language → State → List ℕ → Option State
step language Start word = opened language word
step language Next word = opened language word
step language Marked word = named Named word
step language Removing word = named Ended word
step language Named word = cond (bytes_eq word (operator Equal) || (bytes_eq word (operator Differ) && is_query language)) (Some Compared) (comma word)
step language Compared word = cond (is_value word) (Some Ended) None
step language Ended word = comma word

abbrev pub run : Language → State → List (List ℕ) → Option State
run language state [] = Some state
run language state (word ∷ words) = option_and_then (λ s. run language s words) (step language state word)

-- where a list may end
abbrev pub is_final : State → Bool
is_final Start = true
is_final Named = true
is_final Ended = true
is_final state = false

-- ---- runs over tokens that are put together

pub then_some : {A B : Type 0} (o : Option A) (f : A → Option B) (y : B) → option_and_then f o ≡ Some y → (x : A) × (o ≡ Some x) × (f x ≡ Some y)
then_some (Some x) f y e = (x, refl, e)
then_some None f y e = absurd cc

pub run_append : (language : Language) (state : State) (words more : List (List ℕ)) → run language state (words ++ more) ≡ option_and_then (λ s. run language s more) (run language state words)
run_append language state [] more = refl
run_append language state (word ∷ words) more = cases (λ s. run_append language s words more) (step language state word)
  where
    cases : ((s : State) → run language s (words ++ more) ≡ option_and_then (λ s. run language s more) (run language s words)) → (o : Option State)
        → option_and_then (λ s. run language s (words ++ more)) o ≡ option_and_then (λ s. run language s more) (option_and_then (λ s. run language s words) o)
    cases shorter None = refl
    cases shorter (Some s) = shorter s

pub runs_on : (language : Language) (state : State) (words more : List (List ℕ)) (s t : State) → run language state words ≡ Some s → run language s more ≡ Some t → run language state (words ++ more) ≡ Some t
runs_on language state words more s t h k = run_append language state words more ∙ ap (option_and_then (λ s. run language s more)) h ∙ k

-- a token in the midst
pub passes : (language : Language) (state : State) (words more : List (List ℕ)) (word : List ℕ) (t : State) → run language state (words ++ word ∷ more) ≡ Some t → (s : State) × (run language state words ≡ Some s) × (m : State) × (step language s word ≡ Some m)
passes language state words more word t k =
    let p = then_some (run language state words) (λ s. run language s (word ∷ more)) t (sym (run_append language state words (word ∷ more)) ∙ k) in
    let q = then_some (step language p.0 word) (λ m. run language m more) t p.2 in
    (p.0, p.1, q.0, q.1)

-- no token is none
pub no_step : (language : Language) (s m : State) → step language s [] ≡ Some m → ⊥
unfolding value_at
no_step language Start m e = cc
no_step language Next m e = cc
no_step language Marked m e = cc
no_step language Removing m e = cc
no_step language Named m e = cc
no_step language Compared m e = cc
no_step language Ended m e = cc

-- ---- tests of words

pub same_word : (word other : List ℕ) → bytes_eq word other ≡ true → word ≡ other
same_word word other h = (bytes_eq-Decides word other).0 h

pub same_true : (word : List ℕ) → bytes_eq word word ≡ true
same_true word = (bytes_eq-Decides word word).1 refl

-- a word that passes a test is none that does not
pub other_word : (test : List ℕ → Bool) (word other : List ℕ) → test word ≡ true → test other ≡ false → bytes_eq word other ≡ false
other_word test word other h none = false_from_ne_true _ (λ e. let same : true ≡ false = sym h ∙ ap test (same_word word other e) ∙ none in absurd cc)

pub if_then : {A : Type 0} (t : Bool) (x y : A) (o : Option A) → cond t (Some x) o ≡ Some y → ((t ≡ true) × (x ≡ y)) ⊎ ((t ≡ false) × (o ≡ Some y))
if_then true x y o e = inl (refl, cc)
if_then false x y o e = inr (refl, e)

if_then_none : {A : Type 0} (t : Bool) (x y : A) → cond t (Some x) None ≡ Some y → (t ≡ true) × (x ≡ y)
if_then_none true x y e = (refl, cc)
if_then_none false x y e = absurd cc

-- ---- the tokens that come somewhere are the first of a whole list's

-- a list of clauses that the language allows, at least one
abbrev pub SomeClauses : Language → List (List ℕ) → Type 0
SomeClauses language words = (clause : Clause) × (clauses : List Clause) × AreListTokens words (clause ∷ clauses) × AllByRecursion (Allowed language) (clause ∷ clauses)

abbrev pub AnyClauses : Language → List (List ℕ) → Type 0
AnyClauses language words = (clauses : List Clause) × AreListTokens words clauses × AllByRecursion (Allowed language) clauses

some_first : (language : Language) (clause : Clause) (words : List (List ℕ)) → AreTokens words clause.name clause.relation clause.value clause.optional → Allowed language clause → SomeClauses language words
some_first language clause words tokens allowed = (clause, [], tokens, (allowed, tt))

some_more : (language : Language) (clause : Clause) (item rest : List (List ℕ)) → AreTokens item clause.name clause.relation clause.value clause.optional → Allowed language clause → SomeClauses language rest → SomeClauses language (item ++ (44 ∷ []) ∷ rest)
some_more language clause item rest tokens allowed more = (clause, more.0 ∷ more.1, (item, rest, tokens, more.2, refl), (allowed, more.3))

some_any : (language : Language) (words : List (List ℕ)) → SomeClauses language words → AnyClauses language words
some_any language words h = (h.0 ∷ h.1, h.2, h.3)

-- how a clause is compared that is no removal
abbrev Compares : Language → Relation → Type 0
Compares language relation = (relation ≡ Equal) ⊎ ((relation ≡ Differ) × (is_query language ≡ true))

abbrev IsMarked : Language → Bool → Type 0
IsMarked language optional = optional ≡ true → is_query language ≡ true

-- what the tokens make of it that come from here on
abbrev Goes : Language → State → List (List ℕ) → Type 0
Goes language Start words = AnyClauses language words
Goes language Next words = SomeClauses language words
Goes language Marked words = is_query language ≡ true → SomeClauses language ((63 ∷ []) ∷ words)
Goes language Removing words = is_query language ≡ true → SomeClauses language ((45 ∷ []) ∷ words)
Goes language Named words = (optional : Bool) (word : List ℕ) → IsMarked language optional → is_name word ≡ true → SomeClauses language (mark optional ++ word ∷ words)
Goes language Compared words = (optional : Bool) (word : List ℕ) (relation : Relation) → IsMarked language optional → is_name word ≡ true → Compares language relation → SomeClauses language (mark optional ++ word ∷ operator relation ∷ words)
Goes language Ended words = (item : List (List ℕ)) (clause : Clause) → AreTokens item clause.name clause.relation clause.value clause.optional → Allowed language clause → SomeClauses language (item ++ words)

abbrev made : List ℕ → Relation → Value → Bool → Clause
made name relation value optional = record { name = name; relation = relation; value = value; optional = optional }

bare_tokens : (optional : Bool) (word : List ℕ) → is_name word ≡ true → AreTokens (mark optional ++ word ∷ []) (folded word) Equal yes optional
bare_tokens optional word h = (word, [], (h, refl), inl (refl, refl, refl), refl)

compared_tokens : (optional : Bool) (word value_word : List ℕ) (relation : Relation) (value : Value) → is_name word ≡ true → (relation ≡ Equal) ⊎ (relation ≡ Differ) → IsValue value_word value → AreTokens (mark optional ++ word ∷ operator relation ∷ value_word ∷ []) (folded word) relation value optional
compared_tokens optional word value_word relation value h kind is = tokens_named (mark optional ++ word ∷ operator relation ∷ value_word ∷ []) (folded word) relation value optional kind (word, operator relation ∷ value_word ∷ [], (h, refl), inr (value_word, is, refl), refl)

removed_tokens : (word : List ℕ) → is_name word ≡ true → AreTokens ((45 ∷ []) ∷ word ∷ []) (folded word) Remove no_value false
removed_tokens word h = (word, (h, refl), refl, refl, refl)

asks : (language : Language) (relation : Relation) → Compares language relation → (relation ≡ Equal) ⊎ (relation ≡ Differ)
asks language relation h = elim h [ inl e ↦ inl e | inr e ↦ inr e.0 ]

-- a value that is read whole is a value
is_value_is : (word : List ℕ) → is_value word ≡ true → (value : Value) × IsValue word value
is_value_is word h = cases (value_at word) refl h
  where
    cases : (r : Result (Value × List ℕ) (List ℕ)) → value_at word ≡ r → reads_whole r ≡ true → (value : Value) × IsValue word value
    cases (Err bad) e h = absurd cc
    cases (Ok (value, [])) e h =
        let f = value_found word (value, []) e in
        (value, subst (λ (w : List ℕ). IsValue w value) (sym (f.parts ∙ append-nil f.word)) f.is)
    cases (Ok (value, byte ∷ rest)) e h = absurd cc

pub value_is : (word : List ℕ) (value : Value) → IsValue word value → is_value word ≡ true
value_is word value h = ap reads_whole (ap value_at (sym (append-nil word)) ∙ value_again word [] value h refl)

-- the comma behind a clause
comma_goes : (language : Language) (word : List ℕ) (rest item : List (List ℕ)) (clause : Clause) → bytes_eq word (44 ∷ []) ≡ true → SomeClauses language rest → AreTokens item clause.name clause.relation clause.value clause.optional → Allowed language clause → SomeClauses language (item ++ word ∷ rest)
comma_goes language word rest item clause is goes tokens allowed =
    subst (λ (w : List ℕ). SomeClauses language (item ++ w ∷ rest)) (sym (same_word word (44 ∷ []) is)) (some_more language clause item rest tokens allowed goes)

opened_goes : (language : Language) (word : List ℕ) (m : State) (rest : List (List ℕ)) → opened language word ≡ Some m → Goes language m rest → SomeClauses language (word ∷ rest)
opened_goes language word m rest e goes = elim (if_then (bytes_eq word (63 ∷ []) && is_query language) Marked m _ e) [
  | inl p ↦
      let parts = and_parts (bytes_eq word (63 ∷ [])) (is_query language) p.0 in
      let marked : Goes language Marked rest = subst (λ (s : State). Goes language s rest) (sym p.1) goes in
      subst (λ (w : List ℕ). SomeClauses language (w ∷ rest)) (sym (same_word word (63 ∷ []) parts.0)) (marked parts.1)
  | inr p ↦ elim (if_then (bytes_eq word (45 ∷ []) && is_query language) Removing m _ p.1) [
    | inl q ↦
        let parts = and_parts (bytes_eq word (45 ∷ [])) (is_query language) q.0 in
        let removing : Goes language Removing rest = subst (λ (s : State). Goes language s rest) (sym q.1) goes in
        subst (λ (w : List ℕ). SomeClauses language (w ∷ rest)) (sym (same_word word (45 ∷ []) parts.0)) (removing parts.1)
    | inr q ↦
        let n = if_then_none (is_name word) Named m q.1 in
        let bare : Goes language Named rest = subst (λ (s : State). Goes language s rest) (sym n.1) goes in
        bare false word (λ h. absurd cc) n.0
  ]
]

operator_goes : (language : Language) (word : List ℕ) (rest : List (List ℕ)) → (bytes_eq word (operator Equal) || (bytes_eq word (operator Differ) && is_query language)) ≡ true → Goes language Compared rest → Goes language Named (word ∷ rest)
operator_goes language word rest h goes = λ optional name marked is. elim (or_cases (bytes_eq word (operator Equal)) (bytes_eq word (operator Differ) && is_query language) h) [
  | inl p ↦ subst (λ (w : List ℕ). SomeClauses language (mark optional ++ name ∷ w ∷ rest)) (sym (same_word word (operator Equal) p)) (goes optional name Equal marked is (inl refl))
  | inr p ↦
      let parts = and_parts (bytes_eq word (operator Differ)) (is_query language) p in
      subst (λ (w : List ℕ). SomeClauses language (mark optional ++ name ∷ w ∷ rest)) (sym (same_word word (operator Differ) parts.0)) (goes optional name Differ marked is (inr (refl, parts.1)))
]

bare_comma : (optional : Bool) (name word : List ℕ) (rest : List (List ℕ)) → (mark optional ++ name ∷ []) ++ word ∷ rest ≡ mark optional ++ name ∷ word ∷ rest
bare_comma true name word rest = refl
bare_comma false name word rest = refl

compared_whole : (optional : Bool) (name op word : List ℕ) (rest : List (List ℕ)) → (mark optional ++ name ∷ op ∷ word ∷ []) ++ rest ≡ mark optional ++ name ∷ op ∷ word ∷ rest
compared_whole true name op word rest = refl
compared_whole false name op word rest = refl

stepped : (language : Language) (s : State) (word : List ℕ) (m : State) (rest : List (List ℕ)) → step language s word ≡ Some m → Goes language m rest → Goes language s (word ∷ rest)
stepped language Start word m rest e goes = some_any language (word ∷ rest) (opened_goes language word m rest e goes)
stepped language Next word m rest e goes = opened_goes language word m rest e goes
stepped language Marked word m rest e goes =
    let n = if_then_none (is_name word) Named m e in
    let bare : Goes language Named rest = subst (λ (s : State). Goes language s rest) (sym n.1) goes in
    λ may. bare true word (λ h. may) n.0
stepped language Removing word m rest e goes =
    let n = if_then_none (is_name word) Ended m e in
    let ended : Goes language Ended rest = subst (λ (s : State). Goes language s rest) (sym n.1) goes in
    λ may. ended ((45 ∷ []) ∷ word ∷ []) (made (folded word) Remove no_value false) (removed_tokens word n.0) (inl may)
stepped language Named word m rest e goes = elim (if_then (bytes_eq word (operator Equal) || (bytes_eq word (operator Differ) && is_query language)) Compared m (comma word) e) [
  | inl p ↦ operator_goes language word rest p.0 (subst (λ (s : State). Goes language s rest) (sym p.1) goes)
  | inr p ↦
      let n = if_then_none (bytes_eq word (44 ∷ [])) Next m p.1 in
      let next : Goes language Next rest = subst (λ (s : State). Goes language s rest) (sym n.1) goes in
      λ optional name marked is. subst (SomeClauses language) (bare_comma optional name word rest)
      (comma_goes language word rest (mark optional ++ name ∷ []) (made (folded name) Equal yes optional) n.0 next (bare_tokens optional name is) (allowed_named language Equal optional marked (inl refl)))
]
stepped language Compared word m rest e goes =
    let n = if_then_none (is_value word) Ended m e in
    let ended : Goes language Ended rest = subst (λ (s : State). Goes language s rest) (sym n.1) goes in
    let v = is_value_is word n.0 in
    λ optional name relation marked is kind. subst (SomeClauses language) (compared_whole optional name (operator relation) word rest)
    (ended (mark optional ++ name ∷ operator relation ∷ word ∷ []) (made (folded name) relation v.0 optional) (compared_tokens optional name word relation v.0 is (asks language relation kind) v.1) (allowed_named language relation optional marked kind))
stepped language Ended word m rest e goes =
    let n = if_then_none (bytes_eq word (44 ∷ [])) Next m e in
    let next : Goes language Next rest = subst (λ (s : State). Goes language s rest) (sym n.1) goes in
    λ item clause tokens allowed. comma_goes language word rest item clause n.0 next tokens allowed

-- nothing more, or the name `a`, or the value `a`
a_value : is_value (97 ∷ []) ≡ true
a_value = value_is (97 ∷ []) (Text (97 ∷ [])) (inl (refl, refl))

ends_named : (language : Language) → Goes language Named []
ends_named language = λ optional word marked is. some_first language (made (folded word) Equal yes optional) (mark optional ++ word ∷ []) (bare_tokens optional word is) (allowed_named language Equal optional marked (inl refl))

ends_ended : (language : Language) → Goes language Ended []
ends_ended language = λ item clause tokens allowed. subst (SomeClauses language) (sym (append-nil item)) (some_first language clause item tokens allowed)

completed : (language : Language) (s : State) → (more : List (List ℕ)) × Goes language s more × (is_final s ≡ true → more ≡ [])
completed language Start = ([], ([], refl, tt), λ h. refl)
completed language Next = ((97 ∷ []) ∷ [], stepped language Next (97 ∷ []) Named [] refl (ends_named language), λ h. absurd cc)
completed language Marked = ((97 ∷ []) ∷ [], stepped language Marked (97 ∷ []) Named [] refl (ends_named language), λ h. absurd cc)
completed language Removing = ((97 ∷ []) ∷ [], stepped language Removing (97 ∷ []) Ended [] refl (ends_ended language), λ h. absurd cc)
completed language Named = ([], ends_named language, λ h. refl)
completed language Compared = ((97 ∷ []) ∷ [], stepped language Compared (97 ∷ []) Ended [] (λ i. cond (a_value i) (Some Ended) None) (ends_ended language), λ h. absurd cc)
completed language Ended = ([], ends_ended language, λ h. refl)

some_state : (s t : State) → Some s ≡ Some t → s ≡ t
some_state s t e = cc

pub goes_on : (language : Language) (words : List (List ℕ)) (s t : State) → run language s words ≡ Some t → (more : List (List ℕ)) × Goes language s (words ++ more) × (is_final t ≡ true → more ≡ [])
goes_on language [] s t e = subst (λ (u : State). (more : List (List ℕ)) × Goes language s more × (is_final u ≡ true → more ≡ [])) (some_state s t e) (completed language s)
goes_on language (word ∷ words) s t e =
    let p = then_some (step language s word) (λ m. run language m words) t e in
    let shorter = goes_on language words p.0 t p.2 in
    (shorter.0, stepped language s word p.0 (words ++ shorter.0) p.1 shorter.1, shorter.2)

-- ---- the tokens of a whole list end where a list may end

opens_name : (language : Language) (word : List ℕ) → is_name word ≡ true → opened language word ≡ Some Named
opens_name language word h = λ i. cond (other_word is_name word (63 ∷ []) h refl i && is_query language) (Some Marked) (cond (other_word is_name word (45 ∷ []) h refl i && is_query language) (Some Removing) (cond (h i) (Some Named) None))

abbrev pub Closed : State → Type 0
Closed state = (state ≡ Named) ⊎ (state ≡ Ended)

pub closed_final : (t : State) → Closed t → is_final t ≡ true
closed_final t h = elim h [ inl e ↦ ap is_final e | inr e ↦ ap is_final e ]

abbrev Ends : Language → State → List (List ℕ) → Type 0
Ends language s words = (t : State) × (run language s words ≡ Some t) × Closed t

comparison_ends : (language : Language) (words : List (List ℕ)) (relation : Relation) (value : Value) → Compares language relation → IsComparison words relation value → Ends language Named words
comparison_ends language words relation value kind h = elim h [
  | inl p ↦ (Named, ap (run language Named) p.0, inl refl)
  | inr p ↦
      let whole : is_value p.0 ≡ true = value_is p.0 value p.1 in
      let op : step language Named (operator relation) ≡ Some Compared = operator_step language relation kind in
      let last : run language Compared (p.0 ∷ []) ≡ Some Ended = λ i. option_and_then (λ s. run language s []) (cond (whole i) (Some Ended) None) in
      (Ended, ap (run language Named) p.2 ∙ ap (option_and_then (λ s. run language s (p.0 ∷ []))) op ∙ last, inr refl)
]
  where
    operator_step : (language : Language) (relation : Relation) → Compares language relation → step language Named (operator relation) ≡ Some Compared
    operator_step language Equal h = refl
    operator_step Queries Differ h = refl
    operator_step Definitions Differ h = absurd (elim h [ inl e ↦ cc | inr e ↦ cc ])
    operator_step language Remove h = absurd (elim h [ inl e ↦ cc | inr e ↦ cc ])

named_ends : (language : Language) (word : List ℕ) (comparison : List (List ℕ)) → is_name word ≡ true → Ends language Named comparison → (optional : Bool) → IsMarked language optional → Ends language Next (mark optional ++ word ∷ comparison)
named_ends language word comparison is h false marked = (h.0, ap (option_and_then (λ s. run language s comparison)) (opens_name language word is) ∙ h.1, h.2)
named_ends language word comparison is h true marked =
    let first : opened language (63 ∷ []) ≡ Some Marked = λ i. cond (marked refl i) (Some Marked) (cond false (Some Removing) (named Named (63 ∷ []))) in
    let second : step language Marked word ≡ Some Named = λ i. cond (is i) (Some Named) None in
    (h.0, ap (option_and_then (λ s. run language s (word ∷ comparison))) first ∙ ap (option_and_then (λ s. run language s comparison)) second ∙ h.1, h.2)

asking_marked : (language : Language) (relation : Relation) (optional : Bool) → IsAllowed language relation optional → IsMarked language optional
asking_marked language relation optional h = λ e. elim h [ inl q ↦ q | inr p ↦ absurd cc ]

asking_compares : (language : Language) (relation : Relation) (optional : Bool) → (relation ≡ Equal) ⊎ (relation ≡ Differ) → IsAllowed language relation optional → Compares language relation
asking_compares language relation optional kind h = elim kind [ inl e ↦ inl e | inr e ↦ elim h [ inl q ↦ inr (e, q) | inr p ↦ inl p.0 ] ]

tokens_end : (language : Language) (words : List (List ℕ)) (name : List ℕ) (relation : Relation) (value : Value) (optional : Bool) → AreTokens words name relation value optional → IsAllowed language relation optional → Ends language Next words
tokens_end language words name Equal value optional h allowed =
    subst (Ends language Next) (sym h.4) (named_ends language h.0 h.1 h.2.0 (comparison_ends language h.1 Equal value (inl refl) h.3) optional (asking_marked language Equal optional allowed))
tokens_end language words name Differ value optional h allowed =
    subst (Ends language Next) (sym h.4) (named_ends language h.0 h.1 h.2.0 (comparison_ends language h.1 Differ value (asking_compares language Differ optional (inr refl) allowed) h.3) optional (asking_marked language Differ optional allowed))
tokens_end language words name Remove value optional h allowed =
    let may : is_query language ≡ true = elim allowed [ inl q ↦ q | inr p ↦ absurd cc ] in
    let first : opened language (45 ∷ []) ≡ Some Removing = λ i. cond (may i) (Some Removing) (named Named (45 ∷ [])) in
    let second : step language Removing h.0 ≡ Some Ended = λ i. cond (h.1.0 i) (Some Ended) None in
    (Ended, ap (run language Next) h.4 ∙ ap (option_and_then (λ s. run language s (h.0 ∷ []))) first ∙ ap (option_and_then (λ s. run language s [])) second, inr refl)

pub comma_next : (language : Language) (t : State) → Closed t → step language t (44 ∷ []) ≡ Some Next
comma_next language t h = elim h [ inl e ↦ ap (λ (s : State). step language s (44 ∷ [])) e | inr e ↦ ap (λ (s : State). step language s (44 ∷ [])) e ]

list_ends : (language : Language) (words : List (List ℕ)) (clause : Clause) (clauses : List Clause) → AreListTokens words (clause ∷ clauses) → AllByRecursion (Allowed language) (clause ∷ clauses) → Ends language Next words
list_ends language words clause [] h allowed = tokens_end language words clause.name clause.relation clause.value clause.optional h allowed.0
list_ends language words clause (next ∷ clauses) h allowed =
    let first = tokens_end language h.0 clause.name clause.relation clause.value clause.optional h.2 allowed.0 in
    let others = list_ends language h.1 next clauses h.3 allowed.1 in
    let tail : run language first.0 ((44 ∷ []) ∷ h.1) ≡ Some others.0 = ap (option_and_then (λ s. run language s h.1)) (comma_next language first.0 first.2) ∙ others.1 in
    (others.0, ap (run language Next) h.4 ∙ runs_on language Next h.0 ((44 ∷ []) ∷ h.1) first.0 others.0 first.1 tail, others.2)

from_start : (language : Language) (words : List (List ℕ)) → Ends language Next words → (t : State) × (run language Start words ≡ Some t) × (is_final t ≡ true)
from_start language [] h = (Start, refl, refl)
from_start language (word ∷ words) h = (h.0, h.1, closed_final h.0 h.2)

pub any_ends : (language : Language) (words : List (List ℕ)) → AnyClauses language words → (t : State) × (run language Start words ≡ Some t) × (is_final t ≡ true)
any_ends language words h = cases h.0 h.1 h.2
  where
    cases : (clauses : List Clause) → AreListTokens words clauses → AllByRecursion (Allowed language) clauses → (t : State) × (run language Start words ≡ Some t) × (is_final t ≡ true)
    cases [] e allowed = (Start, ap (run language Start) e, refl)
    cases (clause ∷ clauses) tokens allowed = from_start language words (list_ends language words clause clauses tokens allowed)

-- ---- both languages

-- the tokens of a whole text
abbrev pub AreWhole : Language → List (List ℕ) → Type 0
AreWhole Queries = AreQueryTokens
AreWhole Definitions = AreDefinitionTokens

all_allowed : (clauses : List Clause) → AllByRecursion (Allowed Queries) clauses
all_allowed [] = tt
all_allowed (clause ∷ clauses) = (inl refl, all_allowed clauses)

asked_allowed : (properties : List Property) → AllByRecursion (Allowed Definitions) (map asked properties)
asked_allowed [] = tt
asked_allowed (property ∷ properties) = (inr (refl, refl), asked_allowed properties)

pub whole_any : (language : Language) (words : List (List ℕ)) → AreWhole language words → AnyClauses language words
whole_any Queries words h = (h.0, h.1, all_allowed h.0)
whole_any Definitions words h = (map asked h.0, h.1, asked_allowed h.0)

pub any_whole : (language : Language) (words : List (List ℕ)) → AnyClauses language words → AreWhole language words
any_whole Queries words h = (h.0, h.1)
any_whole Definitions words h = (map property_of h.0, subst (AreListTokens words) (sym (asked_properties h.0 h.2)) h.1)
