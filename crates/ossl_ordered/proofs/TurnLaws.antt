-- Without a list the lines run in the order of the text: a caller's next line never falls, and the turn is that of the least line.
use Rattle.std.proofs.Common.{◌≡◌, ℕ, ◌+◌, ◌<◌, ◌≤◌, Bool, false, nat_eq, nat_lt, ◌⊎◌, List, [], ◌∷◌, ◌++◌, refl, sym, ◌∙◌, subst, arith, inl, inr}
use Rattle.std.specs.List.{filter, filter_map, fold}
use Rattle.std.specs.Prelude.{⊤, None, Some, Option, Ok, Err, Result, if◌then◌else◌}
use Rattle.std.specs.Str.Lines.{lines}
use Rattle.std.proofs.lemmas.Bool.{cases_Bool, ltb-false, ltb-true}
use Rattle.std.proofs.lemmas.List.{map-append, append-nil}
use Rattle.std.proofs.lemmas.List.Elements.{filter-append}
use Rattle.ossl_base.specs.declared.entry.Entry.{Entry}
use Rattle.ossl_state.specs.declared.call.Call.{Call}
use Rattle.ossl_state.specs.declared.call.Reply.{Reply}
use Rattle.ossl_script.specs.declared.caller.LineResult.{LineResult}
use Rattle.ossl_script.specs.declared.caller.Next.TheVariants as nexts
use Rattle.ossl_commands.specs.declared.command.Line.{Line}
use Rattle.ossl_script.specs.declared.held.Held.{Held}
use Rattle.ossl_commands.specs.declared.kind.LineKind.{LineKind}
use Rattle.ossl_script.specs.Bindings.{nothing_bound}
use Rattle.ossl_script.specs.Caller.{Place, Standing, after_reply_at, goes_on, line_result, lines_of, next_at, opening, standing_of}
use Rattle.ossl_script.specs.Caller.Place.{asking, ended}
use Rattle.ossl_script.specs.Commands.{course_of}
use Rattle.ossl_script.specs.Course.{Course}
use Rattle.ossl_script.specs.Course.Course.{ask, said}
use Rattle.ossl_script.specs.Given.{Content, content_by}
use Rattle.ossl_script.specs.Held.{held_after}
use Rattle.ossl_commands.specs.Judging.{Commands, Fault, Said, ◌>>=◌, commands_from, judged, numbered}
use Rattle.ossl_commands.specs.Words.{Files}
use Rattle.ossl_commands.specs.Lines.{is_skipped}
use Rattle.ossl_script.proofs.HeldLaws.{goes_by_reply}
use Rattle.ossl_ordered.specs.declared.turns.Turn.{Turn}
use Rattle.ossl_print.specs.Batched.{Batch, replies_to}
use Rattle.ossl_ordered.specs.Turns.{Drawn, IsInTurn, NeverFalls, OrderOfText, callers_in, drawn, lesser, lines_from, turn_at, turn_of, by_text}

-- 1. The lines of a text have rising numbers.

-- the numbers of lines rise, the first of them above this
abbrev Rises : ℕ → List Line → Type 0
Rises n [] = ⊤
Rises n (line ∷ lines) = (n < line.number) × Rises line.number lines

Rises-from : (m n : ℕ) (lines : List Line) → n ≤ m → Rises m lines → Rises n lines
Rises-from m n [] less rises = tt
Rises-from m n (line ∷ lines) less rises = (omega (arith, less, rises.0), rises.1)

Rises-filter : (p : Line → Bool) (n : ℕ) (lines : List Line) → Rises n lines → Rises n (filter p lines)
Rises-filter p n [] rises = tt
Rises-filter p n (line ∷ lines) rises = elim (cases_Bool (p line)) [
  | inl stays ↦ rw stays (rises.0, Rises-filter p line.number lines rises.1)
  | inr goes ↦ rw goes (Rises-filter p n lines (Rises-from line.number n lines (omega (arith, rises.0)) rises.1))
]

commands-rise : (number n : ℕ) (files : Files) (texts : List (List ℕ)) (read : Commands) → n < number → commands_from number files texts ≡ Ok read → Rises n read.lines
commands-rise number n files [] read less is =
    let none : Commands = record { lines = []; files = files } in
    let same : none ≡ read = cc in
    subst (λ (c : Commands). Rises n c.lines) same tt
commands-rise number n files (text ∷ texts) read less is = elim (cases_Bool (is_skipped text)) [
  | inl skipped ↦ commands-rise (number + 1) n files texts read (omega (arith, less)) (rw skipped at is)
  | inr told ↦ of (judged files text) (λ named more was. commands-rise (number + 1) number named texts more (omega arith) was) (rw told at is)
]
  where
    step : (told : Said) → ((more : Commands) → commands_from (number + 1) told.files texts ≡ Ok more → Rises number more.lines)
        → (r : Result Commands Fault) → commands_from (number + 1) told.files texts ≡ r
        → r >>= (λ more. Ok (record { lines = record { number = number; caller = told.caller; command = told.command } ∷ more.lines; files = more.files })) ≡ Ok read → Rises n read.lines
    step told behind (Err fault) was is = cc
    step told behind (Ok more) was is =
        let whole : Commands = record { lines = record { number = number; caller = told.caller; command = told.command } ∷ more.lines; files = more.files } in
        let same : whole ≡ read = cc in
        subst (λ (c : Commands). Rises n c.lines) same (less, behind more was)

    of : (judged : Result Said LineKind)
        → ((named : Files) (more : Commands) → commands_from (number + 1) named texts ≡ Ok more → Rises number more.lines)
        → numbered number judged (λ named. commands_from (number + 1) named texts) ≡ Ok read → Rises n read.lines
    of (Err kind) behind is = cc
    of (Ok told) behind is = step told (behind told.files) (commands_from (number + 1) told.files texts) refl is

-- 2. A caller's next line never falls.

-- a caller stands at a line of at least this number, with rising numbers behind it, or at its end
abbrev IsFrom : ℕ → Place → Type 0
IsFrom n (asking number call follows lines) = (n ≤ number) × Rises number lines
IsFrom n ended = ⊤

IsFrom-less : (m n : ℕ) (place : Place) → n ≤ m → IsFrom m place → IsFrom n place
IsFrom-less m n (asking number call follows lines) less from = (omega (arith, less, from.0), from.1)
IsFrom-less m n ended less from = tt

goes_on-from : (content : Content) (held : List Held) (told : List LineResult) (number : ℕ) (course : Course) (lines : List Line) → Rises number lines →
    IsFrom number (goes_on content held told number course lines).place
goes_on-from content held told number (ask call follows) lines rises = (omega arith, rises)
goes_on-from content held told number (said outcome bindings) [] rises = tt
goes_on-from content held told number (said outcome bindings) (line ∷ lines) rises =
    let place = (goes_on content held (told ++ line_result number outcome ∷ []) line.number (course_of content bindings line.command) lines).place in
    IsFrom-less line.number number place (omega (arith, rises.0)) (goes_on-from content held (told ++ line_result number outcome ∷ []) line.number (course_of content bindings line.command) lines rises.1)

opening-from : (content : Content) (lines : List Line) → Rises 0 lines → IsFrom 0 (opening content lines).place
opening-from content [] rises = tt
opening-from content (line ∷ lines) rises =
    IsFrom-less line.number 0 _ (omega arith) (goes_on-from content [] [] line.number (course_of content nothing_bound line.command) lines rises.1)

after-from : (content : Content) (standing : Standing) (reply : Reply) (n : ℕ) (place : Place) → place ≡ standing.place → IsFrom n place → ((m : ℕ) (call : Call) → next_at place ≡ nexts.Call m call → n ≤ m) →
    IsFrom n (after_reply_at content standing reply place).place
after-from content standing reply n (asking number call follows lines) is from above =
    IsFrom-less number n _ from.0 (goes_on-from content (held_after call reply standing.held) standing.told number (follows reply) lines from.1)
after-from content standing reply n ended is from above = rw (← is) tt

-- 3. The turn is that of the least line.

-- a turn is of a line that is no less
abbrev IsAbove : ℕ → Option Turn → Type 0
IsAbove n None = ⊤
IsAbove n (Some turn) = n ≤ turn.line

-- each of these numbers has a property
abbrev pub Each : (ℕ → Type 0) → List ℕ → Type 0
Each P [] = ⊤
Each P (c ∷ cs) = P c × Each P cs

-- the one of the least line is one of them, and the others are of lines that are no less
pub record IsLeast (Q : ℕ → Type 0) (f : ℕ → Option Turn) (first : Option Turn) (cs : List ℕ) (turn : Turn) : Type 0 where
  pub first_above : IsAbove turn.line first
  pub others_above : Each (λ c. IsAbove turn.line (f c)) cs
  pub among : (first ≡ Some turn) ⊎ ((c : ℕ) × Q c × (f c ≡ Some turn))

not_less : (a b : ℕ) → nat_lt a b ≡ false → b ≤ a
not_less a b stays = ltb-false a b stays

is_least : (Q : ℕ → Type 0) (f : ℕ → Option Turn) (first : Option Turn) (cs : List ℕ) (turn : Turn) → Each Q cs → fold lesser first (filter_map f cs) ≡ Some turn → IsLeast Q f first cs turn
is_least Q f first [] turn each is = record { first_above = rw is (omega arith); others_above = tt; among = inl is }
is_least Q f first (c ∷ cs) turn each is = of (λ first is. is_least Q f first cs turn each.1 is) (f c) refl
  where
    of : ((first : Option Turn) → fold lesser first (filter_map f cs) ≡ Some turn → IsLeast Q f first cs turn) → (o : Option Turn) → f c ≡ o → IsLeast Q f first (c ∷ cs) turn
    of behind None none =
        let later = behind first (rw none at is) in
        record { first_above = later.first_above; others_above = (rw none tt, later.others_above); among = later.among }
    of behind (Some one) some = beside first refl (behind (lesser first one) (rw some at is))
      where
        beside : (o : Option Turn) → first ≡ o → IsLeast Q f (lesser o one) cs turn → IsLeast Q f first (c ∷ cs) turn
        beside None none later = record {
          first_above = rw none tt;
          others_above = (rw some later.first_above, later.others_above);
          among = elim later.among [
            | inl this ↦ inr (c, each.0, some ∙ this)
            | inr other ↦ inr other
          ];
        }
        beside (Some other) there later = elim (cases_Bool (nat_lt one.line other.line)) [
          | inl less ↦
              let now : IsLeast Q f (Some one) cs turn = rw less at later in
              let below = ltb-true one.line other.line less in
              record {
                first_above = rw there (omega (arith, now.first_above, below));
                others_above = (rw some now.first_above, now.others_above);
                among = elim now.among [
                  | inl this ↦ inr (c, each.0, some ∙ this)
                  | inr further ↦ inr further
                ];
              }
          | inr stays ↦
              let now : IsLeast Q f (Some other) cs turn = rw stays at later in
              let above : other.line ≤ one.line = not_less one.line other.line stays in
              record {
                first_above = rw there now.first_above;
                others_above = (rw some (omega (arith, now.first_above, above)), now.others_above);
                among = elim now.among [
                  | inl this ↦ inl (there ∙ this)
                  | inr further ↦ inr further
                ];
              }
        ]

-- 4. One turn after the other.

pub replies-push : (c : ℕ) (past : List (Entry Call Reply)) (e : Entry Call Reply) → replies_to c (past ++ e ∷ []) ≡ (if nat_eq e.caller c then replies_to c past ++ e.reply ∷ [] else replies_to c past)
replies-push c past e = rw (filter-append (λ (x : Entry Call Reply). nat_eq x.caller c) past (e ∷ [])) (elim (cases_Bool (nat_eq e.caller c)) [
  | inl mine ↦ rw mine (map-append (λ (x : Entry Call Reply). x.reply) (filter (λ (x : Entry Call Reply). nat_eq x.caller c) past) (e ∷ []))
  | inr other ↦ rw (other, append-nil) refl
])

module _ (batch : Batch) where
  -- where a caller stands after these entries
  abbrev place_at : ℕ → List (Entry Call Reply) → Place
  place_at c past = (standing_of batch.lines batch.contents c (replies_to c past)).place

  -- its turn is that of the line at which it stands
  above-line : (n : ℕ) (c : ℕ) (place : Place) → IsAbove n (turn_of c (next_at place)) → (m : ℕ) (call : Call) → next_at place ≡ nexts.Call m call → n ≤ m
  above-line n c (asking number call' follows lines) above m call is = let same : number ≡ m = cc in rw (← same) above
  above-line n c ended above m call is = cc

  raised : (m n c : ℕ) (place : Place) → IsFrom n place → IsAbove m (turn_of c (next_at place)) → IsFrom m place
  raised m n c (asking number call follows lines) from above = (above, from.1)
  raised m n c ended from above = tt

  -- a caller stands so after these replies
  abbrev stands : ℕ → ℕ → List Reply → Type 0
  stands m c replies = IsFrom m (standing_of batch.lines batch.contents c replies).place

  -- each caller stands at a line that is no less than that of the turn, also once the turn is made
  each-after : (m n : ℕ) (past : List (Entry Call Reply)) (e : Entry Call Reply) (cs : List ℕ) → Each (λ c. IsFrom n (place_at c past)) cs → Each (λ c. IsAbove m (turn_at batch past c)) cs →
      Each (λ c. IsFrom m (place_at c (past ++ e ∷ []))) cs
  each-after m n past e [] from above = tt
  each-after m n past e (c ∷ cs) from above = (one, each-after m n past e cs from.1 above.1)
    where
      now : IsFrom m (place_at c past)
      now = raised m n c (place_at c past) from.0 above.0

      further : stands m c (replies_to c past ++ e.reply ∷ [])
      further =
          let P : Standing → Type 0 = λ standing. IsFrom m standing.place in
          subst P (sym (goes_by_reply batch.lines batch.contents c (replies_to c past) e.reply))
          (after-from (content_by batch.contents) (standing_of batch.lines batch.contents c (replies_to c past)) e.reply m (place_at c past) refl now
          (above-line m c (place_at c past) above.0))

      one : IsFrom m (place_at c (past ++ e ∷ []))
      one = subst (stands m c) (sym (replies-push c past e)) (elim (cases_Bool (nat_eq e.caller c)) [
        | inl mine ↦ rw mine further
        | inr other ↦ rw other now
      ])

  -- a turn is of a line that is no less than where its caller stood
  turn-line : (n c : ℕ) (place : Place) (turn : Turn) → IsFrom n place → turn_of c (next_at place) ≡ Some turn → n ≤ turn.line
  turn-line n c (asking number call follows lines) turn from is = let same : number ≡ turn.line = cc in rw (← same) from.0
  turn-line n c ended turn from is = cc

  drawn-turn : (o : Option Turn) (next : Drawn) → drawn [] o ≡ Some next → (o ≡ Some next.turn) × (next.rest ≡ [])
  drawn-turn None next is = cc
  drawn-turn (Some turn) next is = (cc, cc)

  never_falls : (past es : List (Entry Call Reply)) (n : ℕ) → Each (λ c. IsFrom n (place_at c past)) (callers_in batch) → IsInTurn batch [] past es → NeverFalls n (lines_from batch past es)
  never_falls past [] n from run = tt
  never_falls past (e ∷ es) n from (next, is, turn, later) =
      let this = drawn-turn (by_text batch past) next is in
      let found = is_least (λ c. IsFrom n (place_at c past)) (turn_at batch past) None (callers_in batch) next.turn from this.0 in
      let P : List ℕ → Type 0 = λ list. IsInTurn batch list (past ++ e ∷ []) es in
      let more = never_falls (past ++ e ∷ []) es next.turn.line (each-after next.turn.line n past e (callers_in batch) from found.others_above) (subst P this.1 later) in
      rw turn.call (above found.among, more)
    where
      above : ((None ≡ Some next.turn) ⊎ ((c : ℕ) × IsFrom n (place_at c past) × (turn_at batch past c ≡ Some next.turn))) → n ≤ next.turn.line
      above (inl none) = cc
      above (inr (c, stands, of)) = turn-line n c (place_at c past) next.turn stands of

  opening_each : (cs : List ℕ) → Rises 0 batch.lines → Each (λ c. IsFrom 0 (place_at c [])) cs
  opening_each [] rises = tt
  opening_each (c ∷ cs) rises = (opening-from (content_by batch.contents) (lines_of c batch.lines) (Rises-filter (λ line. nat_eq line.caller c) 0 batch.lines rises), opening_each cs rises)

-- without a list the lines run in the order of the text
pub order_of_text : OrderOfText
order_of_text text files batch entries is run = never_falls batch [] entries 0 (opening_each batch (callers_in batch) (commands-rise 1 0 [] (lines text) (record { lines = batch.lines; files = files }) (omega arith) is)) run
