-- Whatever the list, a run holds each caller's calls once and in its order, and then those by which it gives back; the program's stand before and behind them.
use Rattle.std.proofs.Common.{◌≡◌, ℕ, zero, suc, ◌+◌, ◌<◌, ◌≤◌, max, Bool, true, false, nat_eq, nat_lt, List, [], ◌∷◌, ◌++◌, map, refl, sym, ◌∙◌, ap, subst, arith, append_assoc, eq-eqb, inl, inr}
use Rattle.std.specs.Prelude.{None, Some, Option, filter, filter_map, flat_map, fold, Ok, Err, Result, ok_or, option_and_then, slice_get, drop, ◌==◌}
use Rattle.std.specs.Str.Lines.{lines}
use Rattle.std.specs.List.{list_all, range_with_len}
use Rattle.std.proofs.lemmas.Bool.{cases_Bool, eqb-true, eqb-false, ne_eqb}
use Rattle.std.proofs.lemmas.List.{map-append, append-nil}
use Rattle.std.proofs.lemmas.List.Elements.{filter-append}
use Rattle.ossl_base.specs.declared.entry.Entry.{Entry}
use Rattle.ossl_state.specs.declared.call.Call.{Call}
use Rattle.ossl_state.specs.declared.call.Reply.{Reply}
use Rattle.ossl_state.specs.Tokens.{entries_of}
use Rattle.ossl_script.specs.declared.caller.Next.{Next}
use Rattle.ossl_script.specs.declared.caller.Next.TheVariants as nexts
use Rattle.ossl_commands.specs.declared.command.Command.{Command}
use Rattle.ossl_commands.specs.declared.command.Line.{Line}
use Rattle.ossl_commands.specs.declared.command.Verb.{Verb}
use Rattle.ossl_commands.specs.declared.kind.LineKind.{LineKind}
use Rattle.ossl_commands.specs.declared.kind.LineKind.TheVariants as kinds
use Rattle.ossl_script.specs.Caller.{Follows, after_reply, call_in, lines_of, next_at, opening}
use Rattle.ossl_commands.specs.Counts.{callers_of}
use Rattle.ossl_script.specs.Given.{Content, content_by}
use Rattle.ossl_commands.specs.Judging.{Commands, Fault, Said, ◌>>=◌, command_in, commands_from, holds, judged, numbered}
use Rattle.ossl_commands.specs.Lines.{before_query, is_allowed, is_skipped, query_text, words_of}
use Rattle.ossl_commands.specs.Table.{verb_of}
use Rattle.ossl_commands.specs.Words.{Files, caller_of, number_of, positive}
use Rattle.ossl_ordered.specs.declared.turns.Turn.{Turn}
use Rattle.ossl_print.specs.Batched.{Batch, giving_back_of, next_of, replies_to}
use Rattle.ossl_ordered.specs.Turns.{Drawn, EachCallerIsDone, ProgramIsApart, IsDone, IsInTurn, by_caller, by_text, callers_in, drawn, least, lesser, listed, next_turn, returning_calls, turn_at, turn_of}
use Rattle.ossl_ordered.proofs.TurnLaws.{Each, replies-push}

-- 1. The calls of one caller among pairs of a caller and a call.

abbrev pub calls_by : ℕ → List (ℕ × Call) → List Call
calls_by c pairs = map (λ p. p.1) (filter (λ p. nat_eq p.0 c) pairs)

pub calls_by-entries : (c : ℕ) (es : List (Entry Call Reply)) → calls_by c (map (λ e. by_caller e.caller e.call) es) ≡ map (λ e. e.call) (entries_of c es)
calls_by-entries c [] = refl
calls_by-entries c (e ∷ es) = elim (cases_Bool (nat_eq e.caller c)) [
  | inl mine ↦ rw mine (ap (λ calls. e.call ∷ calls) (calls_by-entries c es))
  | inr other ↦ rw other (calls_by-entries c es)
]

pub calls_by-append : (c : ℕ) (ps qs : List (ℕ × Call)) → calls_by c (ps ++ qs) ≡ calls_by c ps ++ calls_by c qs
calls_by-append c ps qs = ap (map (λ p. p.1)) (filter-append (λ p. nat_eq p.0 c) ps qs) ∙ map-append (λ p. p.1) (filter (λ p. nat_eq p.0 c) ps) (filter (λ p. nat_eq p.0 c) qs)

calls_by-own : (c : ℕ) (calls : List Call) → calls_by c (map (by_caller c) calls) ≡ calls
calls_by-own c [] = refl
calls_by-own c (call ∷ calls) = rw (eq-eqb c c refl) (ap (λ cs. call ∷ cs) (calls_by-own c calls))

calls_by-other : (c k : ℕ) (calls : List Call) → nat_eq k c ≡ false → calls_by c (map (by_caller k) calls) ≡ []
calls_by-other c k [] other = refl
calls_by-other c k (call ∷ calls) other = rw other (calls_by-other c k calls other)

-- of the calls of consecutive callers, those of a caller before or behind them are none
pub calls_by-outside : (g : ℕ → List Call) (c from n : ℕ) → ((k : ℕ) → from ≤ k → k < from + n → nat_eq k c ≡ false) → calls_by c (flat_map (λ k. map (by_caller k) (g k)) (range_with_len from n)) ≡ []
calls_by-outside g c from zero outside = refl
calls_by-outside g c from (suc n) outside =
    calls_by-append c (map (by_caller from) (g from)) (flat_map (λ k. map (by_caller k) (g k)) (range_with_len (from + 1) n))
    ∙ ap (λ calls. calls ++ calls_by c (flat_map (λ k. map (by_caller k) (g k)) (range_with_len (from + 1) n))) (calls_by-other c from (g from) (outside from (omega arith) (omega arith)))
    ∙ calls_by-outside g c (from + 1) n (λ k low high. outside k (omega (arith, low)) (omega (arith, high)))

-- those of one of them are its calls
pub calls_by-inside : (g : ℕ → List Call) (c from n : ℕ) → from ≤ c → c < from + n → calls_by c (flat_map (λ k. map (by_caller k) (g k)) (range_with_len from n)) ≡ g c
calls_by-inside g c from zero low high = absurd (omega (arith, low, high))
calls_by-inside g c from (suc n) low high = calls_by-append c (map (by_caller from) (g from)) rest ∙ elim (cases_Bool (nat_eq from c)) [
  | inl same ↦ first (eqb-true from c same)
  | inr other ↦
      ap (λ calls. calls ++ calls_by c rest) (calls_by-other c from (g from) other)
      ∙ calls_by-inside g c (from + 1) n (omega (arith, low, eqb-false from c other)) (omega (arith, high))
]
  where
    rest : List (ℕ × Call)
    rest = flat_map (λ k. map (by_caller k) (g k)) (range_with_len (from + 1) n)

    first : from ≡ c → calls_by c (map (by_caller from) (g from)) ++ calls_by c rest ≡ g c
    first same =
        let P : ℕ → Type 0 = λ k. calls_by c (map (by_caller k) (g k)) ++ calls_by c rest ≡ g c in
        subst P (sym same) (
        ap (λ calls. calls_by c (map (by_caller c) (g c)) ++ calls) (calls_by-outside g c (from + 1) n (λ k low high. ne_eqb k c (λ is. absurd (omega (arith, low, same, is)))))
        ∙ append-nil (calls_by c (map (by_caller c) (g c)))
        ∙ calls_by-own c (g c)
        )

-- 2. The entries of another caller are none.

not_both : (c k : ℕ) (es : List (Entry Call Reply)) → nat_eq k c ≡ false → entries_of c (entries_of k es) ≡ []
not_both c k [] apart = refl
not_both c k (e ∷ es) apart = elim (cases_Bool (nat_eq e.caller k)) [
  | inl is ↦ rw (is, ap (λ j. nat_eq j c) (eqb-true e.caller k is) ∙ apart) (not_both c k es apart)
  | inr other ↦ rw other (not_both c k es apart)
]

pub none_of : (c k : ℕ) (es : List (Entry Call Reply)) → nat_eq k c ≡ false → entries_of k es ≡ es → entries_of c es ≡ []
none_of c k es apart own = subst (λ (l : List (Entry Call Reply)). entries_of c l ≡ []) own (not_both c k es apart)

-- 3. Where no turn is left, each caller is at its end.

-- a fold of turns from one is one
pub is_one : (turn : Turn) (turns : List Turn) → fold lesser (Some turn) turns ≡ None → ⊥
is_one turn [] none = cc
is_one turn (other ∷ turns) none = elim (cases_Bool (nat_lt other.line turn.line)) [
  | inl less ↦ is_one other turns (rw less at none)
  | inr stays ↦ is_one turn turns (rw stays at none)
]

each_none : (f : ℕ → Option Turn) (cs : List ℕ) → least (filter_map f cs) ≡ None → Each (λ c. f c ≡ None) cs
each_none f [] none = tt
each_none f (c ∷ cs) none = of (λ rest. each_none f cs rest) (f c) refl
  where
    of : (least (filter_map f cs) ≡ None → Each (λ c. f c ≡ None) cs) → (o : Option Turn) → f c ≡ o → Each (λ c. f c ≡ None) (c ∷ cs)
    of behind None is = (is, behind (rw is at none))
    of behind (Some turn) is = absurd (is_one turn (filter_map f cs) (rw is at none))

each_in : (P : ℕ → Type 0) (c from n : ℕ) → from ≤ c → c < from + n → Each P (range_with_len from n) → P c
each_in P c from zero low high each = absurd (omega (arith, low, high))
each_in P c from (suc n) low high each = elim (cases_Bool (nat_eq from c)) [
  | inl same ↦ subst P (eqb-true from c same) each.0
  | inr other ↦ each_in P c (from + 1) n (omega (arith, low, eqb-false from c other)) (omega (arith, high)) each.1
]

pub at_end : (c : ℕ) (next : Next) → turn_of c next ≡ None → next ≡ nexts.End
at_end c (nexts.Call line call) none = cc
at_end c nexts.End none = refl

-- 4. A caller of no line is at its end, whatever the replies.

pub no_lines : (c first : ℕ) (lines : List Line) → fold max first (map (λ line. line.caller) lines) < c → (first < c) × (lines_of c lines ≡ [])
no_lines c first [] above = (above, refl)
no_lines c first (line ∷ lines) above =
    let later = no_lines c (max first line.caller) lines above in
    let below : max first line.caller < c = later.0 in
    (omega (arith, below), rw (ne_eqb line.caller c (λ same. absurd (omega (arith, below, same)))) later.1)

stays_ended : (content : Content) (replies : List Reply) → next_at (fold (after_reply content) (opening content []) replies).place ≡ nexts.End
stays_ended content [] = refl
stays_ended content (reply ∷ replies) = stays_ended content replies

module _ (batch : Batch) where
  pub no_calls : (c : ℕ) (replies : List Reply) → lines_of c batch.lines ≡ [] → next_of batch c replies ≡ nexts.End
  no_calls c replies none =
      let P : List Line → Type 0 = λ lines. next_at (fold (after_reply (content_by batch.contents)) (opening (content_by batch.contents) lines) replies).place ≡ nexts.End in
      subst P (sym none) (stays_ended (content_by batch.contents) replies)

  -- 5. The turns of a caller are its calls, to its end.

  -- an entry of a caller is its next call
  is_next : (c : ℕ) (past : List (Entry Call Reply)) (e : Entry Call Reply) (line : ℕ) → nat_eq e.caller c ≡ true → next_of batch e.caller (replies_to e.caller past) ≡ nexts.Call line e.call →
      next_of batch c (replies_to c past) ≡ nexts.Call line e.call
  is_next c past e line mine is =
      let P : ℕ → Type 0 = λ k. next_of batch k (replies_to k past) ≡ nexts.Call line e.call in
      subst P (eqb-true e.caller c mine) is

  follows : (c : ℕ) (list : List ℕ) (past es : List (Entry Call Reply)) → IsInTurn batch list past es → Follows batch.lines batch.contents c (replies_to c past) (entries_of c es)
  follows c list past [] run = tt
  follows c list past (e ∷ es) (next, is, turn, later) =
      let P : List Reply → Type 0 = λ replies. Follows batch.lines batch.contents c replies (entries_of c es) in
      let rest = subst P (replies-push c past e) (follows c next.rest (past ++ e ∷ []) es later) in
      elim (cases_Bool (nat_eq e.caller c)) [
        | inl mine ↦ rw mine (ap call_in (is_next c past e next.turn.line mine turn.call), rw mine at rest)
        | inr other ↦ rw other (rw other at rest)
      ]

  pub no_turns : (c : ℕ) (list : List ℕ) (past es : List (Entry Call Reply)) → lines_of c batch.lines ≡ [] → IsInTurn batch list past es → entries_of c es ≡ []
  no_turns c list past [] none run = refl
  no_turns c list past (e ∷ es) none (next, is, turn, later) = elim (cases_Bool (nat_eq e.caller c)) [
    | inl mine ↦
        let call = is_next c past e next.turn.line mine turn.call in
        let end = no_calls c (replies_to c past) none in
        cc
    | inr other ↦ rw other (no_turns c next.rest (past ++ e ∷ []) es none later)
  ]

  pub drawn-none : (rest : List ℕ) (o : Option Turn) → drawn rest o ≡ None → o ≡ None
  drawn-none rest None none = refl
  drawn-none rest (Some turn) none = cc

  none_by_text : (past : List (Entry Call Reply)) (list : List ℕ) → next_turn batch past list ≡ None → by_text batch past ≡ None
  none_by_text past list none = of (listed batch past list) refl
    where
      of : (o : Option Drawn) → listed batch past list ≡ o → by_text batch past ≡ None
      of None is = drawn-none [] (by_text batch past) (rw is at none)
      of (Some next) is = absurd (let found : Some next ≡ None = rw is at none in cc)

  ends : (list : List ℕ) (past es : List (Entry Call Reply)) → IsInTurn batch list past es → by_text batch (past ++ es) ≡ None
  ends list past [] run = rw (append-nil past) (none_by_text past list run)
  ends list past (e ∷ es) (next, is, turn, later) =
      let P : List (Entry Call Reply) → Type 0 = λ all. by_text batch all ≡ None in
      subst P (append_assoc past (e ∷ []) es) (ends next.rest (past ++ e ∷ []) es later)

  pub ended_at : (c : ℕ) (list : List ℕ) (es : List (Entry Call Reply)) → 0 < c → c ≤ callers_of batch.lines → IsInTurn batch list [] es → next_of batch c (replies_to c es) ≡ nexts.End
  ended_at c list es low high run =
      at_end c (next_of batch c (replies_to c es))
      (each_in (λ k. turn_at batch es k ≡ None) c 1 (callers_of batch.lines) (omega (arith, low)) (omega (arith, high)) (each_none (turn_at batch es) (callers_in batch) (ends list [] es run)))

-- 6. The parts of a run.

pub parts_of : (c : ℕ) (a b d e : List (Entry Call Reply)) → entries_of c a ≡ [] → entries_of c e ≡ [] → entries_of c (a ++ b ++ d ++ e) ≡ entries_of c b ++ entries_of c d
parts_of c a b d e none_before none_behind =
    let mine : Entry Call Reply → Bool = λ x. nat_eq x.caller c in
    let last : entries_of c (a ++ b ++ d ++ e) ≡ entries_of c (a ++ b ++ d) = filter-append mine (a ++ b ++ d) e ∙ ap (λ l. entries_of c (a ++ b ++ d) ++ l) none_behind ∙ append-nil (entries_of c (a ++ b ++ d)) in
    let first : entries_of c (a ++ b) ≡ entries_of c b = filter-append mine a b ∙ ap (λ l. l ++ entries_of c b) none_before in
    last ∙ filter-append mine (a ++ b) d ∙ ap (λ l. l ++ entries_of c d) first

pub no_calls_no_entries : (es : List (Entry Call Reply)) → map (λ e. e.call) es ≡ [] → es ≡ []
no_calls_no_entries [] none = refl
no_calls_no_entries (e ∷ es) none = cc

pub each_caller_is_done : EachCallerIsDone
each_caller_is_done settings batch list entries c run low = (inside, outside)
  where
    apart : nat_eq 0 c ≡ false
    apart = ne_eqb 0 c (λ is. absurd (omega (arith, low, is)))

    parts : entries_of c entries ≡ entries_of c run.turns ++ entries_of c run.returning
    parts =
        ap (entries_of c) run.parts
        ∙ parts_of c run.opening run.turns run.returning run.closing (none_of c 0 run.opening apart run.opened.caller) (none_of c 0 run.closing apart run.closed.caller)

    returned : map (λ e. e.call) (entries_of c run.returning) ≡ calls_by c (returning_calls batch run.turns)
    returned = sym (calls_by-entries c run.returning) ∙ ap (calls_by c) run.returned

    inside : c ≤ callers_of batch.lines → IsDone batch c (entries_of c entries)
    inside high = record {
      made = entries_of c run.turns;
      given = entries_of c run.returning;
      parts = parts;
      follows = follows batch c list [] run.turns run.in_turn;
      ended = ended_at batch c list run.turns low high run.in_turn;
      returned = returned ∙ calls_by-inside (λ k. giving_back_of batch k (replies_to k run.turns)) c 1 (callers_of batch.lines) (omega (arith, low)) (omega (arith, high));
    }

    outside : callers_of batch.lines < c → entries_of c entries ≡ []
    outside above =
        let none = returned ∙ calls_by-outside (λ k. giving_back_of batch k (replies_to k run.turns)) c 1 (callers_of batch.lines) (λ k from below. ne_eqb k c (λ is. absurd (omega (arith, above, below, is)))) in
        parts ∙ ap (λ l. l ++ entries_of c run.returning) (no_turns batch c list [] run.turns (no_lines c 0 batch.lines above).1 run.in_turn) ∙ no_calls_no_entries (entries_of c run.returning) none

-- 7. No line of a text is the program's, so its entries are the opening and the closing.

some-ok : {A E : Type 0} (o : Option A) (fault : E) (a : A) → ok_or o fault ≡ Ok a → o ≡ Some a
some-ok None fault a is = cc
some-ok (Some b) fault a is = cc

some-then : {A B : Type 0} (f : A → Option B) (o : Option A) (b : B) → option_and_then f o ≡ Some b → (a : A) × (f a ≡ Some b)
some-then f None b is = cc
some-then f (Some a) b is = (a, is)

is_positive : (n m : ℕ) → positive n ≡ Some m → 0 < m
is_positive n m is = elim (cases_Bool (n == 0)) [
  | inl none_left ↦ let none : None ≡ Some m = rw none_left at is in cc
  | inr above ↦
      let some : Some n ≡ Some m = rw above at is in
      let same : n ≡ m = cc in
      omega (arith, same, eqb-false n 0 above)
]

-- the steps of a line that is judged good: the second told its caller
caller_told : (allowed : Result Bool LineKind) (caller : Result ℕ LineKind) (verb : Result Verb LineKind) (command : Verb → Result (Command × Files) LineKind) (told : Said) →
    allowed >>= (λ a. caller >>= (λ c. verb >>= (λ v. command v >>= (λ x. Ok (record { caller = c; command = x.0; files = x.1 }))))) ≡ Ok told → caller ≡ Ok told.caller
caller_told (Err kind) caller verb command told is = cc
caller_told (Ok a) (Err kind) verb command told is = cc
caller_told (Ok a) (Ok c) (Err kind) command told is = cc
caller_told (Ok a) (Ok c) (Ok v) command told is = ap Ok (of (command v) is)
  where
    of : (r : Result (Command × Files) LineKind) → r >>= (λ x. Ok (record { caller = c; command = x.0; files = x.1 })) ≡ Ok told → c ≡ told.caller
    of (Err kind) is = cc
    of (Ok x) is =
        let whole : Said = record { caller = c; command = x.0; files = x.1 } in
        let same : whole ≡ told = cc in
        ap (λ (p : Said). p.caller) same

-- a line that is judged good has a caller's number
pub has_caller : (files : Files) (text : List ℕ) (told : Said) → judged files text ≡ Ok told → 0 < told.caller
has_caller files text told is =
    let words = words_of (before_query true text) in
    let caller = caller_told (holds (list_all is_allowed text) kinds.Byte) (ok_or (option_and_then caller_of (slice_get words 0)) kinds.Caller) (ok_or (option_and_then verb_of (slice_get words 1)) kinds.Command)
    (λ verb. command_in verb files (drop 2 words) (query_text true text)) told is in
    let word = some-then caller_of (slice_get words 0) told.caller (some-ok (option_and_then caller_of (slice_get words 0)) kinds.Caller told.caller caller) in
    let number = some-then positive (number_of word.0) told.caller word.1 in
    is_positive number.0 told.caller number.1

pub none_by_program : (number : ℕ) (files : Files) (texts : List (List ℕ)) (said : Commands) → commands_from number files texts ≡ Ok said → lines_of 0 said.lines ≡ []
none_by_program number files [] said is =
    let none : Commands = record { lines = []; files = files } in
    let same : none ≡ said = cc in
    subst (λ (c : Commands). lines_of 0 c.lines ≡ []) same refl
none_by_program number files (text ∷ texts) said is = elim (cases_Bool (is_skipped text)) [
  | inl skipped ↦ none_by_program (number + 1) files texts said (rw skipped at is)
  | inr told ↦ of (judged files text) refl (λ named more was. none_by_program (number + 1) named texts more was) (rw told at is)
]
  where
    step : (told : Said) → judged files text ≡ Ok told
        → ((more : Commands) → commands_from (number + 1) told.files texts ≡ Ok more → lines_of 0 more.lines ≡ [])
        → (r : Result Commands Fault) → commands_from (number + 1) told.files texts ≡ r
        → r >>= (λ more. Ok (record { lines = record { number = number; caller = told.caller; command = told.command } ∷ more.lines; files = more.files })) ≡ Ok said
        → lines_of 0 said.lines ≡ []
    step told good behind (Err fault) was is = cc
    step told good behind (Ok more) was is =
        let line : Line = record { number = number; caller = told.caller; command = told.command } in
        let whole : Commands = record { lines = line ∷ more.lines; files = more.files } in
        let same : whole ≡ said = cc in
        let other : nat_eq told.caller 0 ≡ false = ne_eqb told.caller 0 (λ zero. absurd (omega (arith, has_caller files text told good, zero))) in
        subst (λ (c : Commands). lines_of 0 c.lines ≡ []) same (rw other (behind more was))

    of : (judging : Result Said LineKind) → judged files text ≡ judging
        → ((named : Files) (more : Commands) → commands_from (number + 1) named texts ≡ Ok more → lines_of 0 more.lines ≡ [])
        → numbered number judging (λ named. commands_from (number + 1) named texts) ≡ Ok said → lines_of 0 said.lines ≡ []
    of (Err kind) judging behind is = cc
    of (Ok told) judging behind is = step told judging (behind told.files) (commands_from (number + 1) told.files texts) refl is

pub program_is_apart : ProgramIsApart
program_is_apart text files settings batch list entries is run =
    ap (entries_of 0) run.parts
    ∙ last ∙ middle ∙ ap (λ l. l ++ entries_of 0 run.closing) first ∙ ap (λ l. run.opening ++ l) run.closed.caller
  where
    none : lines_of 0 batch.lines ≡ []
    none = none_by_program 1 [] (lines text) (record { lines = batch.lines; files = files }) is

    returning : entries_of 0 run.returning ≡ []
    returning = no_calls_no_entries (entries_of 0 run.returning) (
        sym (calls_by-entries 0 run.returning) ∙ ap (calls_by 0) run.returned
        ∙ calls_by-outside (λ k. giving_back_of batch k (replies_to k run.turns)) 0 1 (callers_of batch.lines) (λ k from below. ne_eqb k 0 (λ zero. absurd (omega (arith, from, zero)))))

    last : entries_of 0 (run.opening ++ run.turns ++ run.returning ++ run.closing) ≡ entries_of 0 (run.opening ++ run.turns ++ run.returning) ++ entries_of 0 run.closing
    last = filter-append (λ (e : Entry Call Reply). nat_eq e.caller 0) (run.opening ++ run.turns ++ run.returning) run.closing

    middle : entries_of 0 (run.opening ++ run.turns ++ run.returning) ++ entries_of 0 run.closing ≡ entries_of 0 (run.opening ++ run.turns) ++ entries_of 0 run.closing
    middle = ap (λ l. l ++ entries_of 0 run.closing) (
        filter-append (λ (e : Entry Call Reply). nat_eq e.caller 0) (run.opening ++ run.turns) run.returning
        ∙ ap (λ l. entries_of 0 (run.opening ++ run.turns) ++ l) returning ∙ append-nil (entries_of 0 (run.opening ++ run.turns)))

    first : entries_of 0 (run.opening ++ run.turns) ≡ run.opening
    first =
        filter-append (λ (e : Entry Call Reply). nat_eq e.caller 0) run.opening run.turns
        ∙ ap (λ l. entries_of 0 run.opening ++ l) (no_turns batch 0 list [] run.turns none run.in_turn) ∙ append-nil (entries_of 0 run.opening) ∙ run.opened.caller
