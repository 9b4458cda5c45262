-- A watch that agrees with a state agrees with the one after an entry, once it has taken the entry in.
use Rattle.std.proofs.Common.{◌≡◌, ℕ, ◌+◌, ◌<◌, Bool, true, false, not, ◌||◌, ◌&&◌, nat_eq, nat_lt, List, [], ◌∷◌, ◌++◌, length, map, get_or, refl, sym, ◌∙◌, ap, arith, cond, ◌⊎◌, inl, inr, length-append}
use Rattle.std.proofs.Math.ListN.{set, length-set}
use Rattle.std.specs.List.{list_any, list_all, filter, find, position}
use Rattle.std.specs.Prelude.{None, Some}
use Rattle.std.specs.declared.option.Option.{Option}
use Rattle.std.proofs.lemmas.Bool.{cases_Bool, cases_eq, and_parts, both_ways, eqb-true, eq-eqb, ne_eqb, ltb-true, lt-ltb, true≢false}
use Rattle.std.proofs.lemmas.List.{map-append, get_or-set_same, get_or-set_other}
use Rattle.std.proofs.lemmas.List.Folds.{list_all-append}
use Rattle.std.proofs.lemmas.List.Quantifiers.{position-Some}
use Rattle.ossl_provider.specs.Members.{is_distinct, is_in}
use Rattle.ossl_provider.specs.Sheet.{Facts}
use Rattle.ossl_provider.proofs.MembersLaws.{is_distinct-push}
use Rattle.ossl_state.specs.declared.state.Fallback.{Fallback}
use Rattle.ossl_state.specs.declared.state.Fallback.TheVariants.{Armed, Off, Used}
use Rattle.ossl_state.specs.declared.state.Given.{Given}
use Rattle.ossl_state.specs.declared.state.LibCtx.{LibCtx}
use Rattle.ossl_state.specs.declared.state.Live.{Live}
use Rattle.ossl_state.specs.declared.state.State.{State}
use Rattle.ossl_state.specs.Sound.{HasSoundElements, number_of_live}
use Rattle.ossl_state.specs.State.{lib_at, with_lib}
use Rattle.ossl_state.specs.Step.{element_of, fallback_after_load, is_armed, is_named, is_of_token, with_element, without_element}
use Rattle.ossl_state.proofs.ActiveLaws.{lib_at-other, lib_at-same}
use Rattle.ossl_state.proofs.ListLaws.{IsAmong, all_at_among, all_fewer, all_more, distinct_fewer, find_some, is_in_below, length-filter}
use Rattle.ossl_watch.specs.declared.token.Token.{Token}
use Rattle.ossl_watch.specs.declared.token.Token.TheVariants.{Activation, Method, Context}
use Rattle.ossl_watch.specs.Watched.{armed_after, token_at, with_token, without_token}
use Rattle.ossl_watch.specs.Watching.{IsTokenOf, number_of_given, token_kind}
use Rattle.ossl_watch.proofs.CountLaws.{find-gone, find-kept, find-push}
use Rattle.ossl_watch.proofs.TableLaws.{token_at-other, token_at-same, token_at-without}

-- 1. What a watch keeps of the library contexts, with numbers below n.
pub record LibsAgree (n : ℕ) (s : State) (flags : List Bool) (tokens : List (ℕ × Token)) : Type 0 where
  pub contexts : length flags ≡ length s.libs
  pub armed : (l : ℕ) → l < length s.libs → get_or flags l false ≡ is_armed (lib_at s l).fallback
  pub activations : (l t : ℕ) (g : Given) → find (is_of_token t) (lib_at s l).given ≡ Some g → token_at tokens t ≡ Some (Activation l g.place)
  pub distinct : (l : ℕ) → is_distinct (map number_of_given (lib_at s l).given) ≡ true
  pub below : (l : ℕ) → list_all (λ g. nat_lt g.number n) (lib_at s l).given ≡ true
  pub few : (l : ℕ) → length (lib_at s l).given < n

-- and of the live elements
abbrev pub ElementsAgree : State → List (ℕ × Token) → Type 0
ElementsAgree s tokens = (t : ℕ) (x : Live) → element_of s t ≡ Some x → (token : Token) × (token_at tokens t ≡ Some token) × IsTokenOf x token

abbrev is_less : ℕ → Given → Bool
is_less n g = nat_lt g.number n

-- an activation's number is below
given_below : (n t : ℕ) (given : List Given) (g : Given) → list_all (is_less n) given ≡ true → find (is_of_token t) given ≡ Some g → t < n
given_below n t given g all found =
    let parts = find_some (is_of_token t) given g found in
    let less : g.number < n = ltb-true g.number n (all_at_among (is_less n) given g all parts.1) in
    let same : g.number ≡ t = eqb-true g.number t parts.0 in
    omega arith

pub libs_more : (n : ℕ) (s : State) (armed : List Bool) (tokens : List (ℕ × Token)) → LibsAgree n s armed tokens → LibsAgree (n + 1) s armed tokens
libs_more n s armed tokens h = record {
  contexts = h.contexts;
  armed = h.armed;
  activations = h.activations;
  distinct = h.distinct;
  below = λ l. all_more (is_less n) (is_less (n + 1)) (λ g less. let small = ltb-true g.number n less in lt-ltb g.number (n + 1) (omega arith)) (lib_at s l).given (h.below l);
  few = λ l. omega (arith, h.few l);
}

-- the same activations and fallbacks
pub libs_alike : (n : ℕ) (s left : State) (armed : List Bool) (tokens : List (ℕ × Token)) → length left.libs ≡ length s.libs →
    ((m : ℕ) → ((lib_at left m).given ≡ (lib_at s m).given) × (is_armed (lib_at left m).fallback ≡ is_armed (lib_at s m).fallback)) →
    LibsAgree n s armed tokens → LibsAgree n left armed tokens
libs_alike n s left armed tokens long libs h = record {
  contexts = h.contexts ∙ sym long;
  armed = λ l within. h.armed l (omega (arith, within, long)) ∙ sym (libs l).1;
  activations = λ l t g found. h.activations l t g (ap (find (is_of_token t)) (sym (libs l).0) ∙ found);
  distinct = λ l. ap (λ gs. is_distinct (map number_of_given gs)) (libs l).0 ∙ h.distinct l;
  below = λ l. ap (list_all (is_less n)) (libs l).0 ∙ h.below l;
  few = λ l. omega (arith, h.few l, ap length (libs l).0);
}

-- other tokens, in which those of activations stay
pub libs_tokens : (n : ℕ) (s : State) (armed : List Bool) (tokens others : List (ℕ × Token)) →
    ((l t : ℕ) (g : Given) → find (is_of_token t) (lib_at s l).given ≡ Some g → token_at others t ≡ token_at tokens t) →
    LibsAgree n s armed tokens → LibsAgree n s armed others
libs_tokens n s armed tokens others same h = record {
  contexts = h.contexts;
  armed = h.armed;
  activations = λ l t g found. same l t g found ∙ h.activations l t g found;
  distinct = h.distinct;
  below = h.below;
  few = h.few;
}

-- a new token
pub libs_handed : (n : ℕ) (s : State) (armed : List Bool) (tokens : List (ℕ × Token)) (token : Token) → LibsAgree n s armed tokens → LibsAgree n s armed (with_token tokens n token)
libs_handed n s armed tokens token h =
    libs_tokens n s armed tokens (with_token tokens n token)
    (λ l t g found. let less = given_below n t (lib_at s l).given g (h.below l) found in token_at-other tokens n t token (ne_eqb t n (λ e. absurd (omega arith)))) h

-- one library context changes
module _ (s : State) (l : ℕ) (lib : LibCtx) (within : l < length s.libs) where
  abbrev pub left : State
  left = with_lib s l lib

  -- its fallback is not armed any more, or its activations are gone
  pub libs_replaced : (n : ℕ) (armed changed : List Bool) (tokens others : List (ℕ × Token)) → length changed ≡ length armed → get_or changed l false ≡ is_armed lib.fallback →
      ((m : ℕ) → (m ≡ l → ⊥) → get_or changed m false ≡ get_or armed m false) →
      ((m : ℕ) → (m ≡ l → ⊥) → (t : ℕ) (g : Given) → find (is_of_token t) (lib_at s m).given ≡ Some g → token_at others t ≡ token_at tokens t) →
      ((t : ℕ) (g : Given) → find (is_of_token t) lib.given ≡ Some g → token_at others t ≡ Some (Activation l g.place)) →
      is_distinct (map number_of_given lib.given) ≡ true → list_all (is_less n) lib.given ≡ true → length lib.given < n →
      LibsAgree n s armed tokens → LibsAgree n left changed others
  libs_replaced n armed changed tokens others long here elsewhere tokens_there tokens_here distinct below few h = record {
    contexts = long ∙ h.contexts ∙ sym (length-set s.libs l lib);
    armed = λ m in_libs. elim (cases_eq m l) [
      | inl same ↦ rw (same, lib_at-same s l lib within) here
      | inr other ↦ rw (lib_at-other s l lib within m other) (elsewhere m other ∙ h.armed m (omega (arith, in_libs, length-set s.libs l lib)))
    ];
    activations = λ m t g found. elim (cases_eq m l) [
      | inl same ↦ rw same (tokens_here t g (ap (λ (x : LibCtx). find (is_of_token t) x.given) (sym (ap (lib_at left) same ∙ lib_at-same s l lib within)) ∙ found))
      | inr other ↦
          let was = ap (λ (x : LibCtx). find (is_of_token t) x.given) (sym (lib_at-other s l lib within m other)) ∙ found in
          tokens_there m other t g was ∙ h.activations m t g was
    ];
    distinct = λ m. elim (cases_eq m l) [
      | inl same ↦ rw (same, lib_at-same s l lib within) distinct
      | inr other ↦ rw (lib_at-other s l lib within m other) (h.distinct m)
    ];
    below = λ m. elim (cases_eq m l) [
      | inl same ↦ rw (same, lib_at-same s l lib within) below
      | inr other ↦ rw (lib_at-other s l lib within m other) (h.below m)
    ];
    few = λ m. elim (cases_eq m l) [
      | inl same ↦ rw (same, lib_at-same s l lib within) few
      | inr other ↦ rw (lib_at-other s l lib within m other) (h.few m)
    ];
  }

-- an armed fallback is switched off, or stays
pub switched_length : (retain : Bool) (armed : List Bool) (l : ℕ) → length (armed_after retain armed l) ≡ length armed
switched_length true armed l = refl
switched_length false armed l = length-set armed l false

pub switched_here : (retain : Bool) (armed : List Bool) (l : ℕ) (f : Fallback) → l < length armed → get_or armed l false ≡ is_armed f →
    get_or (armed_after retain armed l) l false ≡ is_armed (fallback_after_load retain f)
switched_here true armed l f within is = is
switched_here false armed l Armed within is = get_or-set_same armed l false false within
switched_here false armed l Off within is = get_or-set_same armed l false false within
switched_here false armed l Used within is = get_or-set_same armed l false false within

pub switched_other : (retain : Bool) (armed : List Bool) (l m : ℕ) → (m ≡ l → ⊥) → get_or (armed_after retain armed l) m false ≡ get_or armed m false
switched_other true armed l m other = refl
switched_other false armed l m other = get_or-set_other armed l m false false other

-- one activation more
pub given_push : (n l : ℕ) (given : List Given) (g : Given) (tokens : List (ℕ × Token)) → g.number ≡ n → list_all (is_less n) given ≡ true →
    ((t : ℕ) (h : Given) → find (is_of_token t) given ≡ Some h → token_at tokens t ≡ Some (Activation l h.place)) →
    (t : ℕ) (h : Given) → find (is_of_token t) (given ++ g ∷ []) ≡ Some h → token_at (with_token tokens n (Activation l g.place)) t ≡ Some (Activation l h.place)
given_push n l given g tokens number below was t h found = by (find-push (is_of_token t) given g h found)
  where
    by : (find (is_of_token t) given ≡ Some h) ⊎ ((is_of_token t g ≡ true) × (g ≡ h)) → token_at (with_token tokens n (Activation l g.place)) t ≡ Some (Activation l h.place)
    by (inl old) =
        let less = given_below n t given h below old in
        token_at-other tokens n t (Activation l g.place) (ne_eqb t n (λ e. absurd (omega arith))) ∙ was t h old
    by (inr new) =
        let same : t ≡ n = sym (eqb-true g.number t new.0) ∙ number in
        rw same (token_at-same tokens n (Activation l g.place) ∙ ap (λ (x : Given). Some (Activation l x.place)) new.1)

pub given_distinct : (n : ℕ) (given : List Given) (g : Given) → g.number ≡ n → list_all (is_less n) given ≡ true → is_distinct (map number_of_given given) ≡ true →
    is_distinct (map number_of_given (given ++ g ∷ [])) ≡ true
given_distinct n given g number below d =
    rw (map-append number_of_given given (g ∷ []), number) (is_distinct-push (map number_of_given given) n d (is_in_below number_of_given n given below))

pub given_less : (n : ℕ) (given : List Given) (g : Given) → g.number ≡ n → list_all (is_less n) given ≡ true → list_all (is_less (n + 1)) (given ++ g ∷ []) ≡ true
given_less n given g number below =
    rw (
      list_all-append (is_less (n + 1)) given (g ∷ []),
      all_more (is_less n) (is_less (n + 1)) (λ x less. let small = ltb-true x.number n less in lt-ltb x.number (n + 1) (omega arith)) given below,
      number,
      lt-ltb n (n + 1) (omega arith),
    ) refl

-- 2. Live elements.

-- an element's number is below
element_below : (n t : ℕ) (s : State) (x : Live) → HasSoundElements n s.live → element_of s t ≡ Some x → t < n
element_below n t s x h found =
    let parts = find_some (is_named t) s.live x found in
    let less : x.number < n = ltb-true x.number n (all_at_among (λ (y : Live). nat_lt y.number n) s.live x h.below parts.1) in
    let same : x.number ≡ t = eqb-true x.number t parts.0 in
    omega arith

-- a new token that is none of theirs
pub elements_handed : (n : ℕ) (s : State) (tokens : List (ℕ × Token)) (token : Token) → HasSoundElements n s.live → ElementsAgree s tokens → ElementsAgree s (with_token tokens n token)
elements_handed n s tokens token h agree t x found =
    let less = element_below n t s x h found in
    let was = agree t x found in
    (was.0, token_at-other tokens n t token (ne_eqb t n (λ e. absurd (omega arith))) ∙ was.1, was.2)

-- one element more
pub elements_push : (n : ℕ) (s : State) (tokens : List (ℕ × Token)) (made : Live) (token : Token) → HasSoundElements n s.live → made.number ≡ n → IsTokenOf made token →
    ElementsAgree s tokens → ElementsAgree (with_element s made) (with_token tokens n token)
elements_push n s tokens made token h number is agree t x found = by (find-push (is_named t) s.live made x found)
  where
    by : (find (is_named t) s.live ≡ Some x) ⊎ ((is_named t made ≡ true) × (made ≡ x)) →
        (its : Token) × (token_at (with_token tokens n token) t ≡ Some its) × IsTokenOf x its
    by (inl old) = elements_handed n s tokens token h agree t x old
    by (inr new) =
        let same : t ≡ n = sym (eqb-true made.number t new.0) ∙ number in
        (token, rw same (token_at-same tokens n token), rw (← new.1) is)

-- an element goes, with its token
pub elements_without : (s : State) (tokens : List (ℕ × Token)) (h : ℕ) → ElementsAgree s tokens → ElementsAgree (without_element s h) (without_token tokens h)
elements_without s tokens h agree t x found = elim (cases_eq t h) [
  | inl same ↦
      let none = find-gone (is_named t) (λ y. not (is_named h y)) s.live (λ y kept. rw same (is_false (is_named h y) kept)) in
      let bad : Some x ≡ None = sym found ∙ none in
      cc
  | inr other ↦
      let was = agree t x (find-kept (is_named t) (λ y. not (is_named h y)) s.live x (λ y here.
      ap not (ne_eqb y.number h (λ q. other (sym (eqb-true y.number t here) ∙ q)))) found) in
      (was.0, token_at-without tokens h t (ne_eqb t h other) ∙ was.1, was.2)
]
  where
    is_false : (b : Bool) → not b ≡ true → b ≡ false
    is_false true h = absurd (true≢false (sym h))
    is_false false h = refl

-- a token that is no activation's is given back
pub libs_without : (n : ℕ) (s : State) (armed : List Bool) (tokens : List (ℕ × Token)) (h : ℕ) (token : Token) (x : Live) → token_at tokens h ≡ Some token → IsTokenOf x token →
    LibsAgree n s armed tokens → LibsAgree n s armed (without_token tokens h)
libs_without n s armed tokens h token x at is agree = libs_tokens n s armed tokens (without_token tokens h) (λ l t g found.
    token_at-without tokens h t (ne_eqb t h (λ same. no_activation token l g.place is.kind (sym at ∙ ap (token_at tokens) (sym same) ∙ agree.activations l t g found)))) agree
  where
    no_activation : (token : Token) (l k : ℕ) → token_kind token ≡ Some x.kind → Some token ≡ Some (Activation l k) → ⊥
    no_activation (Activation m j) l k kind same = cc
    no_activation (Method i) l k kind same = cc
    no_activation (Context i inner) l k kind same = cc

-- an activation's token is given back
pub elements_unloaded : (s : State) (tokens : List (ℕ × Token)) (h l k : ℕ) → token_at tokens h ≡ Some (Activation l k) → ElementsAgree s tokens → ElementsAgree s (without_token tokens h)
elements_unloaded s tokens h l k at agree t x found =
    let was = agree t x found in
    (was.0, token_at-without tokens h t (ne_eqb t h (λ same. no_element was.0 was.2.kind (sym was.1 ∙ ap (token_at tokens) same ∙ at))) ∙ was.1, was.2)
  where
    no_element : (token : Token) → token_kind token ≡ Some x.kind → Some token ≡ Some (Activation l k) → ⊥
    no_element (Activation m j) kind same = cc
    no_element (Method i) kind same = cc
    no_element (Context i inner) kind same = cc

-- the activations of a library context without one
pub given_without : (l h : ℕ) (given : List Given) (tokens : List (ℕ × Token)) →
    ((t : ℕ) (g : Given) → find (is_of_token t) given ≡ Some g → token_at tokens t ≡ Some (Activation l g.place)) →
    (t : ℕ) (g : Given) → find (is_of_token t) (filter (λ x. not (is_of_token h x)) given) ≡ Some g → token_at (without_token tokens h) t ≡ Some (Activation l g.place)
given_without l h given tokens was t g found = elim (cases_eq t h) [
  | inl same ↦
      let none = find-gone (is_of_token t) (λ x. not (is_of_token h x)) given (λ x kept. rw same (is_false (is_of_token h x) kept)) in
      let bad : Some g ≡ None = sym found ∙ none in
      cc
  | inr other ↦
      token_at-without tokens h t (ne_eqb t h other)
      ∙ was t g (find-kept (is_of_token t) (λ x. not (is_of_token h x)) given g (λ x here. ap not (ne_eqb x.number h (λ q. other (sym (eqb-true x.number t here) ∙ q)))) found)
]
  where
    is_false : (b : Bool) → not b ≡ true → b ≡ false
    is_false true h = absurd (true≢false (sym h))
    is_false false h = refl
