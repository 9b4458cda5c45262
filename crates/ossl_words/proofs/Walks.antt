-- What the parse makes of the words of a command with options by long names and places.
use Rattle.std.proofs.Common.{◌≡◌, ◌∙◌, ℕ, ◌+◌, ◌<◌, suc, refl, sym, ap, ap₂, arith, subst, Bool, true, false, ◌⊎◌, inl, inr, List, [], ◌∷◌, ◌++◌, length, map, min, Option, Some, None, append-nil}
use Rattle.std.specs.Prelude.{option_map, option_and_then, slice_get, fold, if◌then◌else◌, ⊤}
use Rattle.std.specs.Option.{option_map_or}
use Rattle.std.specs.Str.{bytes_eq, chars}
use Rattle.std.specs.Cmp.Lexicographic.{bytes_decides}
use Rattle.std.proofs.lemmas.Bool.{or_parts, and_right}
use Rattle.std.proofs.lemmas.Option.{slice_get_within}
use Rattle.std.proofs.lemmas.List.{map-append}
use Rattle.clap.specs.Lexer.{long_of, short_of, usize_max}
use Rattle.clap.specs.Values.{reading_of}
use Rattle.clap.specs.Kinds.{Kinds, or_else}
use Rattle.clap.specs.Faults.{turn_fault, walk_fault, settle_fault, use_fault, repeat_fault, long_fault, positional_fault, step_fault, stray_fault, bundle_fault, flags_fault}
use Rattle.clap.specs.Walk.{after_step, option_word, Held, Row, Rule, Text, Walk, arg_by_id, arg_by_index, arg_by_long, at_row, has_row, idle, long_word, more_values, option, reacted, is_pending, nothing_held, short_word, walk_from, arg_by_short, to_positional, settled, takes_values, used, walked, with_values, without}
use Rattle.clap.specs.Simple.{Shape, filled, new_rule, with_index}
use Rattle.clap.specs.declared.builder.action.ArgAction.TheVariants.{Set}
use Rattle.clap.specs.declared.builder.value_parser.ValueParser.TheVariants as vp
use Rattle.clap.specs.declared.parser.matches.ValueSource.TheVariants.{CommandLine}
use Rattle.clap.specs.declared.error.kind.ErrorKind.TheVariants.{UnknownArgument, ArgumentConflict, TooManyValues, InvalidValue}
use Rattle.clap.specs.declared.error.kind.ErrorKind.{ErrorKind}
use Rattle.ossl_words.specs.Options.{Given, Takes, added, is_given, is_hyphened, option_parts, read, read_option, read_place, takes_value}

-- ---- rows

abbrev pub values_of : Option Text → List Text
values_of None = []
values_of (Some v) = v ∷ []

abbrev pub row_for : Text → List Text → Row
row_for name values = record { id = name; values = values; count = None; source = Some CommandLine; reading = reading_of vp.String }

abbrev pub row : Given → Row
row g = row_for g.name (values_of g.value)

abbrev pub rows : List Given → List Row
rows = map row

pub has_given : (name : Text) (gs : List Given) → has_row name (rows gs) ≡ is_given name gs
has_given name [] = refl
has_given name (g ∷ gs) = rw (has_given name gs) refl

at_row_missing : (id : Text) (change : Row → List Row) (missing rs : List Row) → has_row id rs ≡ false → at_row id change missing rs ≡ rs ++ missing
at_row_missing id change missing [] none = refl
at_row_missing id change missing (r ∷ rs) none =
    let parts = or_parts (bytes_eq r.id id) (has_row id rs) none in
    rw (parts.0) (ap (λ xs. r ∷ xs) (at_row_missing id change missing rs parts.1))

-- a use that is the first of its name goes to the end
first_use : (name : Text) (values : List Text) (rs : List Row) → has_row name rs ≡ false
    → with_values name (reading_of vp.String) CommandLine values (without name rs) ≡ rs ++ row_for name values ∷ []
first_use name values rs none =
    let kept : without name rs ≡ rs = at_row_missing name (λ _. []) [] rs none ∙ append-nil rs in
    ap (with_values name (reading_of vp.String) CommandLine values) kept ∙ at_row_missing name (more_values CommandLine values) (row_for name values ∷ []) rs none

rows_snoc : (gs : List Given) (g : Given) → rows (gs ++ g ∷ []) ≡ rows gs ++ row g ∷ []
rows_snoc gs g = map-append row gs (g ∷ [])

same_name : (name : Text) → bytes_eq name name ≡ true
same_name name = (bytes_decides name name).1 refl

-- ---- lists of kinds

or_else_assoc : (a b d : Kinds) → or_else (or_else a b) d ≡ or_else a (or_else b d)
or_else_assoc [] b d = refl
or_else_assoc (x ∷ a) b d = refl

pub or_else_nil : (a : Kinds) → or_else a [] ≡ a
or_else_nil [] = refl
or_else_nil (x ∷ a) = refl

abbrev pub Fails : Kinds → Type 0
Fails k = k ≡ [] → ⊥

pub some_kind : (x : ErrorKind) (k : Kinds) → Fails (x ∷ k)
some_kind x k e = let bad : suc (length k) ≡ 0 = ap length e in absurd (omega arith)

pub first_fails : (a b : Kinds) → Fails a → Fails (or_else a b)
first_fails [] b f = absurd (f refl)
first_fails (x ∷ a) b f = some_kind x a

second_fails : (a b : Kinds) → Fails b → Fails (or_else a b)
second_fails [] b f = f
second_fails (x ∷ a) b f = some_kind x a

-- ---- rules

abbrev pub option_rule : Text → Bool → Rule
option_rule name true = filled (record (new_rule name) { long = Some name; action = Some Set })
option_rule name false = filled (record (new_rule name) { long = Some name; action = Some Set; range = Some (record { start_inclusive = 0; end_inclusive = 0 }) })

abbrev pub place_rule : ℕ → Text → Rule
place_rule i name = with_index i (filled (new_rule name))

-- ---- the walk

abbrev pub outcome : Shape → Walk → List Text → Kinds × List Row
outcome s w words =
    let end = (fold (walked s.rules []) w words).held in
    (or_else (walk_fault s [] w words) (settle_fault s.rules s.args_override_self end), (settled s.rules end).rows)

abbrev pub Agrees : Kinds × List Row → Option (List Given) → Type 0
Agrees r None = Fails r.0
Agrees r (Some gs) = (r.0 ≡ []) × (r.1 ≡ rows gs)

abbrev after : Kinds → Kinds × List Row → Kinds × List Row
after k r = (or_else k r.0, r.1)

one_more : (s : Shape) (w : Walk) (word : Text) (rest : List Text)
    → outcome s w (word ∷ rest) ≡ after (turn_fault s [] w word) (outcome s (walked s.rules [] w word) rest)
unfolding walk_fault
one_more s w word rest = λ i. (
  or_else_assoc (turn_fault s [] w word) (walk_fault s [] (walked s.rules [] w word) rest)
      (settle_fault s.rules s.args_override_self (fold (walked s.rules []) (walked s.rules [] w word) rest).held) i,
  (settled s.rules (fold (walked s.rules []) (walked s.rules [] w word) rest).held).rows,
)

fails_now : (k : Kinds) (r : Kinds × List Row) (o : Option (List Given)) → Fails k → o ≡ None → Agrees (after k r) o
fails_now k r o f e = subst (Agrees (after k r)) (sym e) (first_fails k r.0 f)

goes_on : (k : Kinds) (r : Kinds × List Row) (o : Option (List Given)) → k ≡ [] → Agrees r o → Agrees (after k r) o
goes_on k r o e a = subst (λ x. Agrees (after x r) o) (sym e) a

-- what a flag word comes to, by what is settled before it
abbrev long_so : Option Rule → Option Text → Kinds → List Row → Kinds
long_so None v k rs = UnknownArgument ∷ []
long_so (Some a) (Some v) k rs = if takes_values a then or_else k (use_fault false a (v ∷ []) rs) else TooManyValues ∷ []
long_so (Some a) None k rs = if takes_values a then k else or_else k (use_fault false a [] rs)

long_is : (c : List Rule) (o : Option Rule) (v : Option Text) (h : Held) → long_fault c false o v h ≡ long_so o v (settle_fault c false h) (settled c h).rows
long_is c None v h = refl
long_is c (Some a) (Some v) h = refl
long_is c (Some a) None h = refl

-- a word that is no option, a word of a long option, and one of short options
pub record IsPlain (word : Text) : Type 0 where
  pub not_end : bytes_eq word (45 ∷ 45 ∷ []) ≡ false
  pub no_long : long_of word ≡ None
  pub no_short : short_of word ≡ None
  pub no_hyphen : is_hyphened word ≡ false

pub record IsLong (word : Text) : Type 0 where
  pub parts : Text × Option Text
  pub not_end : bytes_eq word (45 ∷ 45 ∷ []) ≡ false
  pub is_long : long_of word ≡ Some parts
  pub hyphen : is_hyphened word ≡ true

pub record IsShort (word : Text) : Type 0 where
  pub byte : ℕ
  pub bytes : Text
  pub char : ℕ
  pub not_end : bytes_eq word (45 ∷ 45 ∷ []) ≡ false
  pub no_long : long_of word ≡ None
  pub is_short : short_of word ≡ Some (byte ∷ bytes)
  pub hyphen : is_hyphened word ≡ true
  pub starts : slice_get (chars (byte ∷ bytes)) 0 ≡ Some char

abbrev pub IsFit : Text → Type 0
IsFit word = IsPlain word ⊎ (IsLong word ⊎ IsShort word)

abbrev pub AreFit : List Text → Type 0
AreFit [] = ⊤
AreFit (word ∷ rest) = IsFit word × AreFit rest

module _ (t : Takes) (base : Shape) (c : List Rule)
    (long : (name : Text) → arg_by_long c name ≡ option_map (option_rule name) (takes_value t name))
    (option_id : (name : Text) (b : Bool) → takes_value t name ≡ Some b → arg_by_id c name ≡ Some (option_rule name b))
    (place : (i : ℕ) → arg_by_index c (i + 1) ≡ option_map (place_rule (i + 1)) (slice_get t.places i))
    (place_id : (i : ℕ) (name : Text) → slice_get t.places i ≡ Some name → arg_by_id c name ≡ Some (place_rule (i + 1) name))
    (no_short : (x : ℕ) → arg_by_short c x ≡ None)
    (few : length t.places < 1000) where
  abbrev s : Shape
  s = record base { rules = c; args_override_self = false; is_leaf = true }

  abbrev idle_at : ℕ → Held → Walk
  idle_at at h = record { held = h; waiting = idle; position = at + 1; is_trailing = false; stopped = None }

  abbrev waits_at : ℕ → Text → Held → Walk
  waits_at at name h = record { held = h; waiting = option name; position = at + 1; is_trailing = false; stopped = None }

  -- what is held comes to these, once what is pending is settled
  abbrev IsWorth : Held → Option (List Given) → Type 0
  IsWorth h None = Fails (settle_fault c false h)
  IsWorth h (Some gs) = (settle_fault c false h ≡ []) × ((settled c h).rows ≡ rows gs)

  turn_plain : (at : ℕ) (h : Held) (word : Text) → IsPlain word
      → turn_fault s [] (idle_at at h) word ≡ option_map_or (λ a. positional_fault c false a h) (arg_by_index c (at + 1)) (stray_fault s)
  turn_plain at h word p = rw (p.not_end, p.no_long, p.no_short) refl

  walked_plain : (at : ℕ) (h : Held) (word : Text) → IsPlain word
      → walked c [] (idle_at at h) word ≡ to_positional c (arg_by_index c (at + 1)) word (idle_at at h) h
  unfolding walked
  walked_plain at h word p = rw (p.not_end, p.no_long, p.no_short) refl

  turn_long : (at : ℕ) (h : Held) (word : Text) (l : IsLong word)
      → turn_fault s [] (idle_at at h) word ≡ (let m = long_word c idle word l.parts.0 l.parts.1 h in
      or_else (long_fault c false (arg_by_long c l.parts.0) l.parts.1 h) (step_fault s (at + 1) m.0 m.1))
  turn_long at h word l = rw (l.not_end, l.is_long) refl

  walked_long : (at : ℕ) (h : Held) (word : Text) (l : IsLong word)
      → walked c [] (idle_at at h) word ≡ (let m = long_word c idle word l.parts.0 l.parts.1 h in after_step c word (idle_at at h) m.0 m.1)
  unfolding walked
  walked_long at h word l = rw (l.not_end, l.is_long) refl

  turn_long_waits : (at : ℕ) (name : Text) (h : Held) (word : Text) (l : IsLong word)
      → turn_fault s [] (waits_at at name h) word ≡ (let m = long_word c (option name) word l.parts.0 l.parts.1 h in
      or_else (long_fault c false (arg_by_long c l.parts.0) l.parts.1 h) (step_fault s (at + 1) m.0 m.1))
  turn_long_waits at name h word l = rw (l.not_end, l.is_long) refl

  turn_value : (at : ℕ) (name : Text) (h : Held) (word : Text) → IsPlain word → turn_fault s [] (waits_at at name h) word ≡ []
  turn_value at name h word p = rw (p.not_end, p.no_long, p.no_short) refl

  walked_value : (at : ℕ) (name : Text) (h : Held) (word : Text) → IsPlain word
      → walked c [] (waits_at at name h) word ≡ (let m = option_word (arg_by_id c name) name word h in record (waits_at at name h) { held = m.0; waiting = m.1 })
  unfolding walked
  walked_value at name h word p = rw (p.not_end, p.no_long, p.no_short) refl

  -- ---- what is held

  repeats : (name : Text) (rs : List Row) → has_row name rs ≡ true → Fails (or_else (repeat_fault false name rs) [])
  repeats name rs e = rw (e) (some_kind ArgumentConflict [])

  first : (name : Text) (rs : List Row) → has_row name rs ≡ false → or_else (repeat_fault false name rs) [] ≡ []
  first name rs e = rw (e) refl

  -- a value that is pending
  pending_worth : (h : Held) (a : Rule) (name v : Text) (gs : List Given) → h.pending ≡ Some (name, v ∷ []) → h.rows ≡ rows gs → arg_by_id c name ≡ Some a
      → ((rs : List Row) → use_fault false a (v ∷ []) rs ≡ or_else (repeat_fault false name rs) [])
      → ((rs : List Row) → used a (v ∷ []) rs ≡ with_values name (reading_of vp.String) CommandLine (v ∷ []) (without name rs))
      → IsWorth h (added name (Some v) gs)
  pending_worth h a name v gs pend held found fault uses_as =
      let settles : settle_fault c false h ≡ or_else (repeat_fault false name h.rows) [] = rw (pend, found) (fault h.rows) in
      let uses : (settled c h).rows ≡ with_values name (reading_of vp.String) CommandLine (v ∷ []) (without name h.rows) = rw (pend, found) (uses_as h.rows) in
      let has : has_row name h.rows ≡ is_given name gs = ap (has_row name) held ∙ has_given name gs in
      (elim (is_given name gs) as (λ b. is_given name gs ≡ b → IsWorth h (if b then None else Some (gs ++ record { name = name; value = Some v } ∷ []))) [
        | true ↦ λ e. subst Fails (sym settles) (repeats name h.rows (has ∙ e))
        | false ↦ λ e. (
          settles ∙ first name h.rows (has ∙ e),
          uses ∙ first_use name (v ∷ []) h.rows (has ∙ e) ∙ ap (λ rs. rs ++ row_for name (v ∷ []) ∷ []) held ∙ sym (rows_snoc gs (record { name = name; value = Some v })),
        )
      ]) refl

  abbrev Idle : List Text → Type 0
  Idle words = (h : Held) (at : ℕ) (o : Option (List Given)) → IsWorth h o → h.skip ≡ 0 → Agrees (outcome s (idle_at at h) words) (option_and_then (λ gs. read t None at gs words) o)

  abbrev Waits : List Text → Type 0
  Waits words = (h : Held) (at : ℕ) (gs : List Given) (name : Text) → takes_value t name ≡ Some true → h.pending ≡ Some (name, []) → h.rows ≡ rows gs → h.skip ≡ 0
      → Agrees (outcome s (waits_at at name h) words) (read t (Some name) at gs words)

  idle_end : Idle []
  unfolding walk_fault
  idle_end h at None worth z = worth
  idle_end h at (Some gs) worth z = worth

  waits_end : Waits []
  unfolding walk_fault
  waits_end h at gs name takes pend held z = rw (pend, option_id name true takes) (some_kind InvalidValue [])

  -- a fault that is pending stays one at the next flag
  long_doomed : (o : Option Rule) (v : Option Text) (k : Kinds) (rs : List Row) → Fails k → Fails (long_so o v k rs)
  long_doomed None v k rs f = some_kind UnknownArgument []
  long_doomed (Some a) (Some v) k rs f = (elim (takes_values a) as (λ b. Fails (if b then or_else k (use_fault false a (v ∷ []) rs) else TooManyValues ∷ [])) [
    | true ↦ first_fails k _ f
    | false ↦ some_kind TooManyValues []
  ])
  long_doomed (Some a) None k rs f = (elim (takes_values a) as (λ b. Fails (if b then k else or_else k (use_fault false a [] rs))) [
    | true ↦ f
    | false ↦ first_fails k _ f
  ])

  -- a value of an option
  waits_plain : (word : Text) (rest : List Text) → IsPlain word → Idle rest → Waits (word ∷ rest)
  waits_plain word rest p later h at gs name takes pend held z =
      let found = option_id name true takes in
      let h' : Held = record h { pending = Some (name, word ∷ []) } in
      let worth : IsWorth h' (added name (Some word) gs) = pending_worth h' (option_rule name true) name word gs refl held found (λ rs. refl) (λ rs. refl) in
      let goes : walked c [] (waits_at at name h) word ≡ idle_at at h' = walked_value at name h word p ∙ rw (found, pend, same_name name) refl in
      let read_is : read t (Some name) at gs (word ∷ rest) ≡ option_and_then (λ more. read t None at more rest) (added name (Some word) gs) = rw (p.no_hyphen) refl in
      subst (λ r. Agrees r (read t (Some name) at gs (word ∷ rest))) (sym (one_more s (waits_at at name h) word rest))
      (goes_on _ _ _ (turn_value at name h word p)
      (subst (λ w. Agrees (outcome s w rest) (read t (Some name) at gs (word ∷ rest))) (sym goes)
      (subst (Agrees (outcome s (idle_at at h') rest)) (sym read_is) (later h' at (added name (Some word) gs) worth z))))

  waits_long : (word : Text) (rest : List Text) → IsLong word → Waits (word ∷ rest)
  waits_long word rest l h at gs name takes pend held z =
      let read_is : read t (Some name) at gs (word ∷ rest) ≡ None = rw (l.hyphen) refl in
      let open_fault : Fails (settle_fault c false h) = rw (pend, option_id name true takes) (some_kind InvalidValue []) in
      let fails : Fails (long_fault c false (arg_by_long c l.parts.0) l.parts.1 h) = subst Fails (sym (long_is c (arg_by_long c l.parts.0) l.parts.1 h))
      (long_doomed (arg_by_long c l.parts.0) l.parts.1 (settle_fault c false h) (settled c h).rows open_fault) in
      subst (λ r. Agrees r (read t (Some name) at gs (word ∷ rest))) (sym (one_more s (waits_at at name h) word rest))
      (fails_now _ _ _ (subst Fails (sym (turn_long_waits at name h word l)) (first_fails _ _ fails)) read_is)

  -- a word that fails at once
  dies : (w : Walk) (word : Text) (rest : List Text) → Fails (turn_fault s [] w word) → Agrees (outcome s w (word ∷ rest)) None
  dies w word rest f = subst (λ r. Agrees r None) (sym (one_more s w word rest)) (first_fails (turn_fault s [] w word) (outcome s (walked c [] w word) rest).0 f)

  long_dies : (h : Held) (at : ℕ) (word : Text) (rest : List Text) (name : Text) (v : Option Text)
      → turn_fault s [] (idle_at at h) word ≡ (let m = long_word c idle word name v h in or_else (long_fault c false (arg_by_long c name) v h) (step_fault s (at + 1) m.0 m.1))
      → Fails (long_fault c false (arg_by_long c name) v h) → Agrees (outcome s (idle_at at h) (word ∷ rest)) None
  long_dies h at word rest name v turn f =
      let m = long_word c idle word name v h in
      dies (idle_at at h) word rest (subst Fails (sym turn) (first_fails (long_fault c false (arg_by_long c name) v h) (step_fault s (at + 1) m.0 m.1) f))

  parts_same : (word : Text) → option_parts word ≡ long_of word
  parts_same word = refl

  use_as : (h : Held) (at : ℕ) (word : Text) (rest : List Text) (gs : List Given) (a : Rule) (name : Text) (value : Option Text)
      → settle_fault c false h ≡ [] → (settled c h).rows ≡ rows gs
      → ((rs : List Row) → use_fault false a (values_of value) rs ≡ or_else (repeat_fault false name rs) [])
      → ((rs : List Row) → used a (values_of value) rs ≡ with_values name (reading_of vp.String) CommandLine (values_of value) (without name rs))
      → turn_fault s [] (idle_at at h) word ≡ or_else (or_else (settle_fault c false h) (use_fault false a (values_of value) (settled c h).rows)) []
      → walked c [] (idle_at at h) word ≡ idle_at at (reacted c a (values_of value) h)
      → h.skip ≡ 0 → Idle rest → Agrees (outcome s (idle_at at h) (word ∷ rest)) (option_and_then (λ more. read t None at more rest) (added name value gs))
  use_as h at word rest gs a name value none held fault uses_as turn goes z later =
      let rs = (settled c h).rows in
      let h' = reacted c a (values_of value) h in
      let has : has_row name rs ≡ is_given name gs = ap (has_row name) held ∙ has_given name gs in
      let turn_is : turn_fault s [] (idle_at at h) word ≡ or_else (or_else [] (or_else (repeat_fault false name rs) [])) [] =
      turn ∙ ap₂ (λ x y. or_else (or_else x y) []) none (fault rs) in
      let end = λ (o : Option (List Given)). Agrees (outcome s (idle_at at h) (word ∷ rest)) (option_and_then (λ more. read t None at more rest) o) in
      (elim (is_given name gs) as (λ b. is_given name gs ≡ b → end (if b then None else Some (gs ++ record { name = name; value = value } ∷ []))) [
        | true ↦ λ e. dies (idle_at at h) word rest (subst Fails (sym turn_is) (first_fails _ [] (repeats name rs (has ∙ e))))
        | false ↦ λ e.
            let more = gs ++ record { name = name; value = value } ∷ [] in
            let worth : IsWorth h' (Some more) = (
              refl,
              uses_as rs ∙ first_use name (values_of value) rs (has ∙ e)
                  ∙ ap (λ xs. xs ++ row_for name (values_of value) ∷ []) held ∙ sym (rows_snoc gs (record { name = name; value = value })),
            ) in
            subst (λ r. Agrees r (read t None at more rest)) (sym (one_more s (idle_at at h) word rest))
            (goes_on _ _ _ (turn_is ∙ ap (λ x. or_else x []) (first name rs (has ∙ e)))
            (subst (λ w. Agrees (outcome s w rest) (read t None at more rest)) (sym goes) (later h' at (Some more) worth z)))
      ]) refl

  abbrev TurnIs : ℕ → Held → Text → Text → Option Text → Type 0
  TurnIs at h word name v = turn_fault s [] (idle_at at h) word ≡ (let m = long_word c idle word name v h in
      or_else (long_fault c false (arg_by_long c name) v h) (step_fault s (at + 1) m.0 m.1))

  abbrev GoesTo : ℕ → Held → Text → Text → Option Text → Type 0
  GoesTo at h word name v = walked c [] (idle_at at h) word ≡ (let m = long_word c idle word name v h in after_step c word (idle_at at h) m.0 m.1)

  by_option : (h : Held) (at : ℕ) (word : Text) (rest : List Text) (gs : List Given) (name : Text) (v : Option Text) (b : Option Bool) → takes_value t name ≡ b
      → settle_fault c false h ≡ [] → (settled c h).rows ≡ rows gs → TurnIs at h word name v → GoesTo at h word name v → h.skip ≡ 0 → Idle rest → Waits rest
      → Agrees (outcome s (idle_at at h) (word ∷ rest)) (read_option (λ more. read t None at more rest) (λ n. read t (Some n) at gs rest) b name v gs)
  by_option h at word rest gs name v None takes none held turn goes z later waits =
      let found : arg_by_long c name ≡ None = long name ∙ ap (option_map (option_rule name)) takes in
      long_dies h at word rest name v turn (rw (found) (some_kind UnknownArgument []))
  by_option h at word rest gs name (Some value) (Some true) takes none held turn goes z later waits =
      let found : arg_by_long c name ≡ Some (option_rule name true) = long name ∙ ap (option_map (option_rule name)) takes in
      use_as h at word rest gs (option_rule name true) name (Some value) none held (λ rs. refl) (λ rs. refl) (turn ∙ rw (found) refl) (goes ∙ rw (found) refl) z later
  by_option h at word rest gs name None (Some true) takes none held turn goes z later waits =
      let found : arg_by_long c name ≡ Some (option_rule name true) = long name ∙ ap (option_map (option_rule name)) takes in
      let h' : Held = record (settled c h) { pending = Some (name, []) } in
      let goes' : walked c [] (idle_at at h) word ≡ waits_at at name h' = goes ∙ rw (found) refl in
      subst (λ r. Agrees r (read t (Some name) at gs rest)) (sym (one_more s (idle_at at h) word rest))
      (goes_on _ _ _ (turn ∙ rw (found, none) refl)
      (subst (λ w. Agrees (outcome s w rest) (read t (Some name) at gs rest)) (sym goes') (waits h' at gs name takes refl held z)))
  by_option h at word rest gs name (Some value) (Some false) takes none held turn goes z later waits =
      let found : arg_by_long c name ≡ Some (option_rule name false) = long name ∙ ap (option_map (option_rule name)) takes in
      long_dies h at word rest name (Some value) turn (rw (found) (some_kind TooManyValues []))
  by_option h at word rest gs name None (Some false) takes none held turn goes z later waits =
      let found : arg_by_long c name ≡ Some (option_rule name false) = long name ∙ ap (option_map (option_rule name)) takes in
      use_as h at word rest gs (option_rule name false) name None none held (λ rs. refl) (λ rs. refl) (turn ∙ rw (found) refl) (goes ∙ rw (found) refl) z later

  idle_long : (word : Text) (rest : List Text) → IsLong word → Idle rest → Waits rest → Idle (word ∷ rest)
  idle_long word rest l later waits h at None worth z =
      let fails : Fails (long_fault c false (arg_by_long c l.parts.0) l.parts.1 h) = subst Fails (sym (long_is c (arg_by_long c l.parts.0) l.parts.1 h))
      (long_doomed (arg_by_long c l.parts.0) l.parts.1 (settle_fault c false h) (settled c h).rows worth) in
      long_dies h at word rest l.parts.0 l.parts.1 (turn_long at h word l) fails
  idle_long word rest l later waits h at (Some gs) worth z =
      let parts : option_parts word ≡ Some l.parts = parts_same word ∙ l.is_long in
      let read_is : read t None at gs (word ∷ rest)
      ≡ read_option (λ more. read t None at more rest) (λ n. read t (Some n) at gs rest) (takes_value t l.parts.0) l.parts.0 l.parts.1 gs = rw (parts) refl in
      subst (Agrees (outcome s (idle_at at h) (word ∷ rest))) (sym read_is)
      (by_option h at word rest gs l.parts.0 l.parts.1 (takes_value t l.parts.0) refl worth.0 worth.1 (turn_long at h word l) (walked_long at h word l) z later waits)

  -- ---- a word that stands at a place

  place_settles : (i : ℕ) (name : Text) (h : Held) → positional_fault c false (place_rule i name) h ≡ settle_fault c false h
  place_settles i name h = rw (and_right (is_pending (place_rule i name) h.pending) false refl) refl

  goes_to_place : (h : Held) (at : ℕ) (word name : Text) → at < 1000
      → to_positional c (Some (place_rule (at + 1) name)) word (idle_at at h) h ≡ idle_at (at + 1) (record (settled c h) { pending = Some (name, word ∷ []) })
  goes_to_place h at word name small =
      let place_is : min (at + 1 + 1) usize_max ≡ at + 1 + 1 = omega (arith, small) in
      rw (and_right (is_pending (place_rule (at + 1) name) h.pending) false refl, place_is) refl

  by_place : (h : Held) (at : ℕ) (word : Text) (rest : List Text) (gs : List Given) (o : Option Text) → slice_get t.places at ≡ o
      → settle_fault c false h ≡ [] → (settled c h).rows ≡ rows gs → h.skip ≡ 0 → IsPlain word → Idle rest
      → Agrees (outcome s (idle_at at h) (word ∷ rest)) (read_place (λ more. read t None (at + 1) more rest) o word gs)
  by_place h at word rest gs None here none held z p later =
      let found : arg_by_index c (at + 1) ≡ None = place at ∙ ap (option_map (place_rule (at + 1))) here in
      dies (idle_at at h) word rest (subst Fails (sym (turn_plain at h word p)) (rw (found) (some_kind UnknownArgument [])))
  by_place h at word rest gs (Some name) here none held z p later =
      let found : arg_by_index c (at + 1) ≡ Some (place_rule (at + 1) name) = place at ∙ ap (option_map (place_rule (at + 1))) here in
      let inside : at < length t.places = slice_get_within t.places at name here in
      let h' : Held = record (settled c h) { pending = Some (name, word ∷ []) } in
      let turn : turn_fault s [] (idle_at at h) word ≡ [] = turn_plain at h word p ∙ rw (found) (place_settles (at + 1) name h ∙ none) in
      let goes : walked c [] (idle_at at h) word ≡ idle_at (at + 1) h' = walked_plain at h word p ∙ rw (found) (goes_to_place h at word name (omega (arith, inside, few))) in
      let worth : IsWorth h' (added name (Some word) gs) = pending_worth h' (place_rule (at + 1) name) name word gs refl held (place_id at name here) (λ rs. refl) (λ rs. refl) in
      subst (λ r. Agrees r (read_place (λ more. read t None (at + 1) more rest) (Some name) word gs)) (sym (one_more s (idle_at at h) word rest))
      (goes_on _ _ _ turn (subst (λ w. Agrees (outcome s w rest) (read_place (λ more. read t None (at + 1) more rest) (Some name) word gs)) (sym goes)
      (later h' (at + 1) (added name (Some word) gs) worth z)))

  idle_plain : (word : Text) (rest : List Text) → IsPlain word → Idle rest → Idle (word ∷ rest)
  idle_plain word rest p later h at None worth z =
      dies (idle_at at h) word rest (subst Fails (sym (turn_plain at h word p)) (go (slice_get t.places at) refl))
    where
      go : (o : Option Text) → slice_get t.places at ≡ o → Fails (option_map_or (λ a. positional_fault c false a h) (arg_by_index c (at + 1)) (stray_fault s))
      go None here = let found : arg_by_index c (at + 1) ≡ None = place at ∙ ap (option_map (place_rule (at + 1))) here in rw (found) (some_kind UnknownArgument [])
      go (Some name) here =
          let found : arg_by_index c (at + 1) ≡ Some (place_rule (at + 1) name) = place at ∙ ap (option_map (place_rule (at + 1))) here in
          rw (found) (subst Fails (sym (place_settles (at + 1) name h)) worth)
  idle_plain word rest p later h at (Some gs) worth z =
      let parts : option_parts word ≡ None = parts_same word ∙ p.no_long in
      let read_is : read t None at gs (word ∷ rest) ≡ read_place (λ more. read t None (at + 1) more rest) (slice_get t.places at) word gs = rw (parts, p.no_hyphen) refl in
      subst (Agrees (outcome s (idle_at at h) (word ∷ rest))) (sym read_is)
      (by_place h at word rest gs (slice_get t.places at) refl worth.0 worth.1 z p later)

  -- ---- all the words

  -- a word of short options, of which there are none
  bundle_fails : (h : Held) (word : Text) (p : IsShort word) → h.skip ≡ 0 → Fails (bundle_fault c false (p.byte ∷ p.bytes) h)
  unfolding flags_fault
  bundle_fails h word p z = rw (z, p.starts, no_short p.char) (some_kind UnknownArgument [])

  turn_short : (at : ℕ) (h : Held) (word : Text) (p : IsShort word)
      → turn_fault s [] (idle_at at h) word ≡ (let m = short_word c idle word (p.byte ∷ p.bytes) h in or_else (bundle_fault c false (p.byte ∷ p.bytes) h) (step_fault s (at + 1) m.0 m.1))
  turn_short at h word p = rw (p.not_end, p.no_long, p.is_short) refl

  turn_short_waits : (at : ℕ) (name : Text) (h : Held) (word : Text) (p : IsShort word)
      → turn_fault s [] (waits_at at name h) word ≡ (let m = short_word c (option name) word (p.byte ∷ p.bytes) h in or_else (bundle_fault c false (p.byte ∷ p.bytes) h) (step_fault s (at + 1) m.0 m.1))
  turn_short_waits at name h word p = rw (p.not_end, p.no_long, p.is_short) refl

  idle_short : (word : Text) (rest : List Text) → IsShort word → Idle (word ∷ rest)
  idle_short word rest p h at o worth z =
      let m = short_word c idle word (p.byte ∷ p.bytes) h in
      let dead : Agrees (outcome s (idle_at at h) (word ∷ rest)) None = dies (idle_at at h) word rest
      (subst Fails (sym (turn_short at h word p)) (first_fails (bundle_fault c false (p.byte ∷ p.bytes) h) (step_fault s (at + 1) m.0 m.1) (bundle_fails h word p z))) in
      subst (Agrees (outcome s (idle_at at h) (word ∷ rest))) (sym (go o)) dead
    where
      go : (o : Option (List Given)) → option_and_then (λ gs. read t None at gs (word ∷ rest)) o ≡ None
      go None = refl
      go (Some gs) = let parts : option_parts word ≡ None = parts_same word ∙ p.no_long in rw (parts, p.hyphen) refl

  waits_short : (word : Text) (rest : List Text) → IsShort word → Waits (word ∷ rest)
  waits_short word rest p h at gs name takes pend held z =
      let m = short_word c (option name) word (p.byte ∷ p.bytes) h in
      let read_is : read t (Some name) at gs (word ∷ rest) ≡ None = rw (p.hyphen) refl in
      subst (Agrees (outcome s (waits_at at name h) (word ∷ rest))) (sym read_is) (dies (waits_at at name h) word rest
      (subst Fails (sym (turn_short_waits at name h word p)) (first_fails (bundle_fault c false (p.byte ∷ p.bytes) h) (step_fault s (at + 1) m.0 m.1) (bundle_fails h word p z))))

  all_words : (words : List Text) → AreFit words → Idle words × Waits words
  all_words [] fit = (idle_end, waits_end)
  all_words (word ∷ rest) fit =
      let later = all_words rest fit.1 in
      elim fit.0 [
        | inl p ↦ (idle_plain word rest p later.0, waits_plain word rest p later.0)
        | inr other ↦ elim other [
          | inl l ↦ (idle_long word rest l later.0 later.1, waits_long word rest l)
          | inr p ↦ (idle_short word rest p, waits_short word rest p)
        ]
      ]

  -- the parse of a level fails exactly where the words are not read, and its rows are what was given
  pub level : (words : List Text) → AreFit words → Agrees (outcome s (walk_from nothing_held) words) (read t None 0 [] words)
  level words fit = (all_words words fit).0 nothing_held 0 (Some []) (refl, refl) refl
