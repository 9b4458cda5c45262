-- A text that goes through a mode piece by piece.
use Rattle.std.proofs.Common.{IsErr, IsErrAnd, ◌≡◌, ℕ, ◌+◌, ◌-◌, ◌<◌, ◌≤◌, List, [], ◌++◌, length, take, drop, Result, Ok, Err, None, Some, refl, sym, ap, ◌∙◌, arith, append_assoc, length-append, nat_lt, if◌then◌else◌, true, false, inl, inr, ◌⊎◌, subst}
use Rattle.std.specs.declared.option.Option.{Option}
use Rattle.std.proofs.lemmas.Bool.Decides.{nat_tests}
use Rattle.std.proofs.lemmas.List.{append-nil, take-append-le, take_all, take-append-drop}
use Rattle.std.proofs.Math.Seq.{take-append-add, take-add}
use Rattle.std.specs.Io.KnownBytes.{Appends, Consumes, IsAtEnd, Keeps}
use Rattle.ossl_base.specs.Whole.{AppendsPrefix}
use Rattle.ossl_base.proofs.Streams.{Appends-append}
use Rattle.ossl_aes.specs.declared.block.Block.{Ghosts}
use Rattle.ossl_modes.specs.declared.kinds.FinishRefused.{FinishRefused}
use Rattle.ossl_modes.specs.declared.state.Mode.{Mode}
use Rattle.ossl_modes.specs.Modes.{before}
use Rattle.ossl_modes.specs.Run.{outcome_of, whole_blocks_of}
use Rattle.ossl_modes.proofs.Steps.{before-append}
use Rattle.ossl_salted.specs.declared.end.End.{End}
use Rattle.ossl_salted.specs.declared.end.End.TheVariants.{Done, Usage, Unread, Unwritten, Header, FinalBlock, TooLong, NoMemory}
use Rattle.ossl_salted.specs.Course.{Ending, IsInput, Runs, limited}
use Rattle.ossl_salted.specs.Ends.{IsCause, status_of}
use Rattle.ossl_salted.specs.Flow.{Begins, Going, Halted, Moves, Pumped, due_from, whole_from, mode_due, status_with, text_with, unread}
use Rattle.ossl_salted.specs.Outside.{Reading, ReadFailed, Writing, WriteFailed}

before-nil : (r : Result (List ℕ) FinishRefused) → before [] r ≡ r
before-nil (Ok x) = refl
before-nil (Err x) = refl

pub Consumes-nil : (a : Option (List ℕ)) → Consumes a a []
Consumes-nil None = tt
Consumes-nil (Some xs) = refl

-- bytes that were consumed, where nothing more was
pub Consumes-keeps : (a b c : Option (List ℕ)) (xs : List ℕ) → Consumes a b xs → Keeps b c → Consumes a c xs
Consumes-keeps None b c xs h k = tt
Consumes-keeps (Some x) None c xs h k = absurd h
Consumes-keeps (Some x) (Some y) None xs h k = absurd k
Consumes-keeps (Some x) (Some y) (Some z) xs h k = h ∙ ap (λ t. xs ++ t) (sym k)

-- nothing is appended
pub Appends-nil : (a : Option (List ℕ)) → Appends a a []
Appends-nil None = tt
Appends-nil (Some xs) = sym (append-nil xs)

pub AppendsPrefix-none : (a : Option (List ℕ)) (w : List ℕ) → AppendsPrefix a a w
AppendsPrefix-none a w = (0, omega arith, Appends-nil a)

-- all of a text is a beginning of it, and of one that goes on
pub AppendsPrefix-all : (a b : Option (List ℕ)) (w x : List ℕ) → Appends a b w → AppendsPrefix a b (w ++ x)
AppendsPrefix-all a b w x h =
    let P : List ℕ → Type 0 = λ t. Appends a b t in
    (length w, omega (arith, length-append w x), subst P (sym (take-append-le (length w) w x (omega arith) ∙ take_all (length w) w (omega arith))) h)

pub AppendsPrefix-whole : (a b : Option (List ℕ)) (w : List ℕ) → Appends a b w → AppendsPrefix a b w
AppendsPrefix-whole a b w h = let P : List ℕ → Type 0 = λ t. Appends a b t in (length w, omega arith, subst P (sym (take_all (length w) w (omega arith))) h)

-- a beginning of a text is one of a text that goes on
pub AppendsPrefix-more : (a b : Option (List ℕ)) (w x : List ℕ) → AppendsPrefix a b w → AppendsPrefix a b (w ++ x)
AppendsPrefix-more a b w x (n, fits, h) =
    let P : List ℕ → Type 0 = λ t. Appends a b t in
    (n, omega (arith, fits, length-append w x), subst P (sym (take-append-le n w x fits)) h)

-- a beginning of a text behind another text
pub AppendsPrefix-append : (a b c : Option (List ℕ)) (w x : List ℕ) → Appends a b w → AppendsPrefix b c x → AppendsPrefix a c (w ++ x)
AppendsPrefix-append a b c w x h (n, fits, k) =
    let P : List ℕ → Type 0 = λ t. Appends a c t in
    (length w + n, omega (arith, fits, length-append w x), subst P (sym (take-append-add w x n)) (Appends-append a b c w (take n x) h k))

module _ {C : Type 0} {g : Ghosts C} where
  -- nothing moves a mode nowhere
  pub Moves-none : (m : Mode C g) (out : List ℕ) → Moves m out m out [] []
  Moves-none m out = record { text = λ rest. sym (before-nil _); whole = λ rest. refl }

  pub Going-none : (m : Mode C g) (out : List ℕ) (s : Reading) (k : Writing) → Consumes s.left s.left' [] → Appends k.taken k.taken' [] → Going m out m out 0 s k
  Going-none m out s k none still = record {
    text = [];
    written = [];
    consumes = none;
    len = refl;
    appends = still;
    moves = Moves-none m out;
  }

  -- one movement after another
  pub Moves-append : (m : Mode C g) (out : List ℕ) (m1 : Mode C g) (out1 : List ℕ) (m2 : Mode C g) (out2 a b v w : List ℕ)
      → Moves m out m1 out1 a v → Moves m1 out1 m2 out2 b w → Moves m out m2 out2 (a ++ b) (v ++ w)
  Moves-append m out m1 out1 m2 out2 a b v w h k = record {
    text = λ rest. ap (due_from m out) (append_assoc a b rest) ∙ h.text (b ++ rest) ∙ ap (before v) (k.text rest) ∙ before-append v w (due_from m2 out2 rest);
    whole = λ rest. ap (whole_from m out) (append_assoc a b rest) ∙ h.whole (b ++ rest) ∙ ap (λ t. v ++ t) (k.whole rest) ∙ sym (append_assoc v w (whole_from m2 out2 rest));
  }

  -- a movement and then a beginning
  pub Begins-append : (m : Mode C g) (out : List ℕ) (m1 : Mode C g) (out1 a b v w : List ℕ)
      → Moves m out m1 out1 a v → Begins m1 out1 b w → Begins m out (a ++ b) (v ++ w)
  Begins-append m out m1 out1 a b v w h k = record {
    text = λ rest. ((k.text rest).0, ap (due_from m out) (append_assoc a b rest) ∙ h.text (b ++ rest) ∙ ap (before v) (k.text rest).1 ∙ before-append v w (k.text rest).0);
    whole = λ rest. ((k.whole rest).0, ap (whole_from m out) (append_assoc a b rest) ∙ h.whole (b ++ rest) ∙ ap (λ t. v ++ t) (k.whole rest).1 ∙ sym (append_assoc v w (k.whole rest).0));
  }

  pub Begins-moved : (m : Mode C g) (out : List ℕ) (m1 : Mode C g) (out1 a v : List ℕ) → Moves m out m1 out1 a v → Begins m out a v
  Begins-moved m out m1 out1 a v h = record { text = λ rest. (due_from m1 out1 rest, h.text rest); whole = λ rest. (whole_from m1 out1 rest, h.whole rest) }

  -- a movement, and then more bytes
  pub Begins-longer : (m : Mode C g) (out : List ℕ) (m1 : Mode C g) (out1 a b v : List ℕ) → Moves m out m1 out1 a v → Begins m out (a ++ b) v
  Begins-longer m out m1 out1 a b v h = record {
    text = λ rest. (due_from m1 out1 (b ++ rest), ap (due_from m out) (append_assoc a b rest) ∙ h.text (b ++ rest));
    whole = λ rest. (whole_from m1 out1 (b ++ rest), ap (whole_from m out) (append_assoc a b rest) ∙ h.whole (b ++ rest));
  }

  -- where nothing was written
  pub Begins-nothing : (m : Mode C g) (out a : List ℕ) → Begins m out a []
  Begins-nothing m out a = record { text = λ rest. (due_from m out (a ++ rest), sym (before-nil _)); whole = λ rest. (whole_from m out (a ++ rest), refl) }

-- what `?` hands on is the error itself
pub handed : {T E : Type 0} (result : Result T E) (e : E) → IsErr result × IsErrAnd result (λ given. given ≡ e) → result ≡ Err e
handed (Ok x) e h = absurd h.1
handed (Err given) e h = ap Err h.1

-- a cause by other names
pub IsCause-wider : (end : End) (a b c d e f : Type 0) → (a → d) → (b → e) → (c → f) → IsCause end a b c → IsCause end d e f
IsCause-wider Done a b c d e f r w l h = h
IsCause-wider Usage a b c d e f r w l h = h
IsCause-wider Unread a b c d e f r w l h = r h
IsCause-wider Unwritten a b c d e f r w l h = w h
IsCause-wider Header a b c d e f r w l h = h
IsCause-wider FinalBlock a b c d e f r w l h = h
IsCause-wider TooLong a b c d e f r w l h = l h
IsCause-wider NoMemory a b c d e f r w l h = h

-- the texts and the statuses of two outcomes of which one follows the other
pub text_moved : (out w out' a a' : List ℕ) (r r' : Result (List ℕ) FinishRefused) → before out r ≡ before w (before out' r') → out ++ a ≡ w ++ (out' ++ a')
    → text_with out r a ≡ w ++ text_with out' r' a'
text_moved out w out' a a' (Ok x) (Ok y) e k = cc e
text_moved out w out' a a' (Ok x) (Err y) e k = cc e
text_moved out w out' a a' (Err x) (Ok y) e k = cc e
text_moved out w out' a a' (Err x) (Err y) e k = k

pub status_moved : (out w out' : List ℕ) (r r' : Result (List ℕ) FinishRefused) → before out r ≡ before w (before out' r') → status_with r ≡ status_with r'
status_moved out w out' (Ok x) (Ok y) e = refl
status_moved out w out' (Ok x) (Err y) e = cc e
status_moved out w out' (Err x) (Ok y) e = cc e
status_moved out w out' (Err x) (Err y) e = refl

-- what was written is a beginning of what is due
pub text_begun : (out w a b : List ℕ) (r x : Result (List ℕ) FinishRefused) → before out r ≡ before w x → out ++ a ≡ w ++ b
    → (t : List ℕ) × (text_with out r a ≡ w ++ t)
text_begun out w a b (Ok p) (Ok q) e k = (q, cc e)
text_begun out w a b (Ok p) (Err q) e k = cc e
text_begun out w a b (Err p) x e k = (b, k)

-- ---- runs

-- what is left after all
abbrev pub rest_of : Option (List ℕ) → List ℕ
rest_of None = []
rest_of (Some bs) = bs

pub input_is : (left left' : Option (List ℕ)) (text : List ℕ) → Consumes left left' text → IsInput left (text ++ rest_of left')
input_is None left' text h = tt
input_is (Some bs) None text h = absurd h
input_is (Some bs) (Some rest) text h = h

pub ended_rest : (left : Option (List ℕ)) → IsAtEnd left → rest_of left ≡ []
ended_rest None h = refl
ended_rest (Some bs) h = h

never_header : (room : ℕ) (input : List ℕ) (r : Result (List ℕ) FinishRefused) → limited room input (status_with r) ≡ 5 → ⊥
never_header room input r =
    elim (nat_lt room (length input)) as (λ t. (if t then 7 else status_with r) ≡ 5 → ⊥) [
      | true ↦ λ e. omega (arith, e)
      | false ↦ elim r as (λ o. status_with o ≡ 5 → ⊥) [ Ok x ↦ λ e. omega (arith, e) | Err x ↦ λ e. omega (arith, e) ]
    ]

too_long : (room : ℕ) (input : List ℕ) (status : ℕ) → room < length input → limited room input status ≡ 7
too_long room input status h = let t : nat_lt room (length input) ≡ true = grind (arith, nat_tests) in rw t refl

within : (room : ℕ) (input : List ℕ) (status : ℕ) → length input ≤ room → limited room input status ≡ status
within room input status h = let t : nat_lt room (length input) ≡ false = grind (arith, nat_tests) in rw t refl

-- how a run ends that did not go through
ends_by : (end : End) (due : ℕ) (read_failed write_failed : Type 0) → IsCause end read_failed write_failed (due ≡ 7)
    → (status_of end ≡ due) ⊎ ((status_of end ≡ 3) × read_failed) ⊎ ((status_of end ≡ 4) × write_failed) ⊎ (status_of end ≡ 9)
ends_by Done due r w h = absurd h
ends_by Usage due r w h = absurd h
ends_by Unread due r w h = inr (inl (refl, h))
ends_by Unwritten due r w h = inr (inr (inl (refl, h)))
ends_by Header due r w h = absurd h
ends_by FinalBlock due r w h = absurd h
ends_by TooLong due r w h = inl (sym h)
ends_by NoMemory due r w h = inr (inr (inr refl))

not_done : (end : End) (a b c : Type 0) → IsCause end a b c → status_of end ≡ 0 → ⊥
not_done Done a b c h e = h
not_done Usage a b c h e = h
not_done Unread a b c h e = omega (arith, e)
not_done Unwritten a b c h e = omega (arith, e)
not_done Header a b c h e = h
not_done FinalBlock a b c h e = h
not_done TooLong a b c h e = omega (arith, e)
not_done NoMemory a b c h e = omega (arith, e)

no_read : ReadFailed unread → ⊥
no_read h = omega (arith, h)

module _ {C : Type 0} {g : Ghosts C} where
  pub runs_halted : (m : Mode C g) (out : List ℕ) (room : ℕ) (s : Reading) (k : Writing) (end : End) → Halted m out room s k end
      → Runs (mode_due m out room) (status_of end) s k
  runs_halted m out room s k end h =
      let r : Type 0 = ReadFailed s in
      let w : Type 0 = WriteFailed k in
      let rest : List ℕ = rest_of s.left' in
      let input : List ℕ = h.text ++ rest in
      let due = mode_due m out room input in
      let long : room < length h.text → due.status ≡ 7 = λ l. too_long room input (status_with (outcome_of m input)) (omega (arith, l, length-append h.text rest)) in
      let cause : IsCause end r w (due.status ≡ 7) = IsCause-wider end r w (room < length h.text) r w (due.status ≡ 7) (λ x. x) (λ x. x) long h.cause in
      let begun = text_begun out h.written (whole_blocks_of m input) (h.begins.whole rest).0 (outcome_of m input) (h.begins.text rest).0 (h.begins.text rest).1 (h.begins.whole rest).1 in
      let P : List ℕ → Type 0 = λ t. AppendsPrefix k.taken k.taken' t in
      record {
        input = input;
        is_input = input_is s.left s.left' h.text h.consumes;
        ending = record {
          ends = ends_by end due.status r w cause;
          all = λ e. absurd (not_done end r w (due.status ≡ 7) cause e);
          part = subst P (sym begun.1) (AppendsPrefix-more k.taken k.taken' h.written begun.0 h.appends);
          unwritten = λ e f. never_header room input (outcome_of m input) e;
        };
        ended = λ e. absurd (not_done end r w (due.status ≡ 7) cause e);
      }

  pub runs_done : (m : Mode C g) (out : List ℕ) (m' : Mode C g) (out' : List ℕ) (room status : ℕ) (s : Reading) (taken mid taken' : Option (List ℕ)) (a b c : ℕ)
      → Pumped m out m' out' room s (record { taken = taken; taken' = mid; faults = a; faults' = b })
      → Ending (mode_due m' out' 0 []) status unread (record { taken = mid; taken' = taken'; faults = b; faults' = c }) → a ≤ b
      → Runs (mode_due m out room) status s (record { taken = taken; taken' = taken'; faults = a; faults' = c })
  runs_done m out m' out' room status s taken mid taken' a b c h k later =
      let k' : Writing = record { taken = mid; taken' = taken'; faults = b; faults' = c } in
      let whole : Writing = record { taken = taken; taken' = taken'; faults = a; faults' = c } in
      let wider : WriteFailed k' → WriteFailed whole = λ x. omega (arith, x, later) in
      let text : List ℕ = h.going.text in
      let written : List ℕ = h.going.written in
      let none : text ++ rest_of s.left' ≡ text = ap (λ t. text ++ t) (ended_rest s.left' h.ended) ∙ append-nil text in
      let Q : List ℕ → Type 0 = λ t. IsInput s.left t in
      let due = mode_due m' out' 0 [] in
      let e : due_from m out text ≡ before written (due_from m' out' []) = ap (due_from m out) (sym (append-nil text)) ∙ h.going.moves.text [] in
      let f : whole_from m out text ≡ written ++ whole_from m' out' [] = ap (whole_from m out) (sym (append-nil text)) ∙ h.going.moves.whole [] in
      let fits : length text ≤ room = omega (arith, h.going.len, h.within) in
      let same : due.status ≡ limited room text (status_with (outcome_of m text)) =
      sym (within room text (status_with (outcome_of m text)) fits ∙ status_moved out written out' (outcome_of m text) (outcome_of m' []) e) in
      let moved = text_moved out written out' (whole_blocks_of m text) (whole_blocks_of m' []) (outcome_of m text) (outcome_of m' []) e f in
      let A : List ℕ → Type 0 = λ t. Appends taken taken' t in
      let P : List ℕ → Type 0 = λ t. AppendsPrefix taken taken' t in
      record {
        input = text;
        is_input = subst Q none (input_is s.left s.left' text h.going.consumes);
        ending = record {
          ends = elim k.ends [
            | inl x ↦ inl (x ∙ same)
            | inr (inl x) ↦ absurd (no_read x.1)
            | inr (inr (inl x)) ↦ inr (inr (inl (x.0, wider x.1)))
            | inr (inr (inr x)) ↦ inr (inr (inr x))
          ];
          all = λ z. subst A (sym moved) (Appends-append taken mid taken' written due.text h.going.appends (k.all z));
          part = subst P (sym moved) (AppendsPrefix-append taken mid taken' written due.text h.going.appends k.part);
          unwritten = λ z y. never_header room text (outcome_of m text) z;
        };
        ended = λ z. h.ended;
      }

-- ---- pieces of a text

pub in_three : (a n : ℕ) (xs : List ℕ) → (take a xs ++ take n (drop a xs)) ++ drop n (drop a xs) ≡ xs
in_three a n xs =
    append_assoc (take a xs) (take n (drop a xs)) (drop n (drop a xs)) ∙ ap (λ t. take a xs ++ t) (take-append-drop n (drop a xs)) ∙ take-append-drop a xs

pub take_further : (a b : ℕ) (xs : List ℕ) → a ≤ b → take b xs ≡ take a xs ++ take (b - a) (drop a xs)
take_further a b xs h = let e : b ≡ a + (b - a) = omega arith in ap (λ n. take n xs) e ∙ take-add a (b - a) xs
