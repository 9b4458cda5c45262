-- A text that is read has no fault, and the reader stops at the fault of any other.
use Rattle.std.proofs.Common.{◌≡◌, ℕ, zero, suc, ◌-◌, ◌<◌, eqb, Bool, true, false, cond, ◌||◌, ◌⊎◌, inl, inr, List, [], ◌∷◌, ◌++◌, length, map, bytes_eq, Some, None, option_and_then, Result, Ok, Err, refl, sym, ap, subst, ◌∙◌, append-nil, arith}
use Rattle.std.proofs.lemmas.Bool.{eqb-true, or_parts, or_from, or_left}
use Rattle.std.proofs.lemmas.List.{map-append}
use Rattle.ossl_property.specs.declared.clause.TextRefused.{TextRefused}
use Rattle.ossl_property.specs.declared.clause.TextRefused.TheVariants.{NotInGrammar, NoMemory}
use Rattle.ossl_property.specs.declared.clause.Clause.{Clause}
use Rattle.ossl_property.specs.declared.reader.Language.{Language}
use Rattle.ossl_property.specs.Bytes.{is_space, folded, past}
use Rattle.ossl_property.specs.Grammar.{mentions}
use Rattle.ossl_property.specs.Reading.{◌>>=◌, clause_at, more_at, list_at, Stops}
use Rattle.ossl_property.specs.Tokens.{token, Begins, expects_value, names_in}
use Rattle.ossl_property.specs.Fault.{is_among, AreApart, CannotGoOn, IsFault, IsRefusal, Refuses}
use Rattle.ossl_property.proofs.Sets.{bytes_eq_sym}
use Rattle.ossl_property.proofs.Course.{State, Start, Next, Named, Ended, run, step, comma, is_final, runs_on, Closed, closed_final, comma_next, goes_on, AreWhole, any_whole, whole_any, any_ends}
use Rattle.ossl_property.proofs.Begun.{begins_past, begins_append, begins_shorter, expects_append, names_append, among_append, IsSaid, stands_at, no_fault_said, one_fault}
use Rattle.ossl_property.proofs.Taken.{other_sign, ClauseTaken, ClauseStops, ClauseOutcome, Repeats, AreNew, clause_outcome}

-- ---- names that stand once

apart_push : (names : List (List ℕ)) (name : List ℕ) → AreApart names → is_among names name ≡ false → AreApart (names ++ name ∷ [])
apart_push [] name h e = (refl, tt)
apart_push (first ∷ names) name h e =
    let parts = or_parts (bytes_eq first name) (is_among names name) e in
    let last : is_among (name ∷ []) first ≡ false = or_from (bytes_eq name first) false (bytes_eq_sym name first ∙ parts.0) refl in
    (among_append names (name ∷ []) first ∙ or_from (is_among names first) (is_among (name ∷ []) first) h.0 last, apart_push names name h.1 parts.1)

apart_last : (names : List (List ℕ)) (name : List ℕ) → AreApart (names ++ name ∷ []) → is_among names name ≡ false
apart_last [] name h = refl
apart_last (first ∷ names) name h =
    let last = or_parts (is_among names first) (is_among (name ∷ []) first) (sym (among_append names (name ∷ []) first) ∙ h.0) in
    or_from (bytes_eq first name) (is_among names name) (bytes_eq_sym first name ∙ (or_parts (bytes_eq name first) false last.1).0) (apart_last names name h.1)

abbrev names_of : List Clause → List (List ℕ)
names_of clauses = map (λ clause. clause.name) clauses

mentions_among : (clauses : List Clause) (name : List ℕ) → mentions clauses name ≡ is_among (names_of clauses) name
mentions_among [] name = refl
mentions_among (clause ∷ clauses) name = ap (λ (b : Bool). bytes_eq clause.name name || b) (mentions_among clauses name)

-- ---- a place where the text cannot go on is its fault

module _ (language : Language) where
  -- the tokens of a text so far, where the next one cannot follow
  record ListStops (text bad : List ℕ) : Type 0 where
    words : List (List ℕ)
    t : State
    begins : Begins false words text bad
    runs : run language Start words ≡ Some t
    waits : bad ≡ [] → is_final t ≡ false
    apart : AreApart (names_in false words)
    stuck : (step language t (token (expects_value false words) bad) ≡ None) ⊎ Repeats (is_among (names_in false words)) words bad

  same_state : (s t : State) → Some s ≡ Some t → s ≡ t
  same_state s t e = cc

  none_some : (s : State) (word : List ℕ) (m : State) → step language s word ≡ None → step language s word ≡ Some m → ⊥
  none_some s word m h k = let wrong : None ≡ Some m = sym h ∙ k in absurd cc

  repeated : (words : List (List ℕ)) (bad : List ℕ) → Repeats (is_among (names_in false words)) words bad → AreApart (names_in false (words ++ token (expects_value false words) bad ∷ [])) → ⊥
  repeated words bad r h =
      let word : List ℕ = token false bad in
      let named : names_in false (words ++ token (expects_value false words) bad ∷ []) ≡ names_in false words ++ folded word ∷ [] =
      ap (λ (v : Bool). names_in false (words ++ token v bad ∷ [])) r.0 ∙ names_append false words (word ∷ []) ∙ ap (λ (v : Bool). names_in false words ++ names_in v (word ∷ [])) r.0 ∙ (λ i. names_in false words ++ cond (r.1 i) (folded word ∷ []) []) in
      let wrong : true ≡ false = sym r.2 ∙ apart_last (names_in false words) (folded word) (subst AreApart named h) in
      absurd cc

  cannot_go_on : (text bad : List ℕ) (s : ListStops text bad) → CannotGoOn (AreWhole language) s.words bad
  cannot_go_on text bad s = cases bad s.waits s.stuck
    where
      -- a whole list's tokens end where a list may end
      cases : (rest : List ℕ) → (rest ≡ [] → is_final s.t ≡ false) → (step language s.t (token (expects_value false s.words) rest) ≡ None) ⊎ Repeats (is_among (names_in false s.words)) s.words rest → CannotGoOn (AreWhole language) s.words rest
      cases [] waits stuck = λ whole.
          let ends = any_ends language s.words (whole_any language s.words whole) in
          let same : ends.0 ≡ s.t = same_state ends.0 s.t (sym ends.1 ∙ s.runs) in
          let wrong : true ≡ false = sym ends.2 ∙ ap is_final same ∙ waits refl in
          absurd cc
      cases (byte ∷ rest) waits stuck = λ stands.
          let word : List ℕ = token (expects_value false s.words) (byte ∷ rest) in
          let at = stands_at language s.words [] word stands in
          let same : at.0 ≡ s.t = same_state at.0 s.t (sym at.1 ∙ s.runs) in
          elim stuck [
            | inl e ↦ none_some s.t word at.2 e (ap (λ (m : State). step language m word) (sym same) ∙ at.3)
            | inr r ↦ repeated s.words (byte ∷ rest) r stands.2
          ]

  stops_fault : (text bad : List ℕ) → ListStops text bad → IsFault (AreWhole language) text (length text - length bad)
  stops_fault text bad s =
      let more = goes_on language s.words Start s.t s.runs in
      let shorter = begins_shorter false s.words text bad s.begins in
      (s.words, bad, s.begins, (more.0, any_whole language (s.words ++ more.0) more.1, s.apart), cannot_go_on text bad s, omega (arith, shorter))

  -- ---- lists

  -- the tokens of some clauses
  record SoFar (clauses : List Clause) (text rest : List ℕ) : Type 0 where
    words : List (List ℕ)
    t : State
    begins : Begins false words text rest
    runs : run language Start words ≡ Some t
    closed : Closed t
    settled : step language t (token false rest) ≡ comma (token false rest)
    names : names_in false words ≡ names_of clauses
    apart : AreApart (names_in false words)
    plain : expects_value false words ≡ false

  abbrev ListOutcome : List ℕ → Result (List Clause) (List ℕ) → Type 0
  ListOutcome text (Ok clauses) = IsSaid language text
  ListOutcome text (Err bad) = ListStops text bad

  said : (clauses : List Clause) (text : List ℕ) → SoFar clauses text [] → IsSaid language text
  said clauses text s =
      let more = goes_on language s.words Start s.t s.runs in
      let none : more.0 ≡ [] = more.2 (closed_final s.t s.closed) in
      record {
        words = s.words;
        begins = s.begins;
        whole = subst (AreWhole language) (ap (λ (m : List (List ℕ)). s.words ++ m) none ∙ append-nil s.words) (any_whole language (s.words ++ more.0) more.1);
        apart = s.apart;
      }

  -- a first clause begins where a list does
  start_same : (words : List (List ℕ)) (t : State) → run language Next words ≡ Some t → Closed t → run language Start words ≡ Some t
  start_same [] t e closed = absurd (elim closed [ inl k ↦ (let wrong : Some Next ≡ Some Named = e ∙ ap (λ (s : State). Some s) k in cc) | inr k ↦ (let wrong : Some Next ≡ Some Ended = e ∙ ap (λ (s : State). Some s) k in cc) ])
  start_same (word ∷ words) t e closed = e

  new_apart : (names : List (List ℕ)) (taken : List ℕ → Bool) (more : List (List ℕ)) → AreApart names → AreNew taken more → ((name : List ℕ) → taken name ≡ is_among names name) → AreApart (names ++ more)
  new_apart names taken more h new same = elim new [
    | inl e ↦ subst AreApart (sym (append-nil names) ∙ ap (λ (m : List (List ℕ)). names ++ m) (sym e)) h
    | inr p ↦ subst (λ (m : List (List ℕ)). AreApart (names ++ m)) (sym p.1) (apart_push names p.0 h (sym (same p.0) ∙ p.2))
  ]

  first_so_far : (text : List ℕ) (clause : Clause) (rest : List ℕ) → ClauseTaken language (λ name. false) text clause rest → SoFar (clause ∷ []) text rest
  first_so_far text clause rest c = record {
    words = c.words;
    t = c.t;
    begins = c.begins;
    runs = start_same c.words c.t c.runs c.closed;
    closed = c.closed;
    settled = c.settled;
    names = c.names;
    apart = subst AreApart (sym c.names) (refl, tt);
    plain = c.plain;
  }

  first_stops : (text bad : List ℕ) (byte : ℕ) (rest : List ℕ) → past is_space text ≡ byte ∷ rest → ClauseStops language (λ name. false) text bad → ListStops text bad
  first_stops text bad byte rest at c = cases c.words c.begins c.runs c.names c.stuck
    where
      apart : (names : List (List ℕ)) → AreNew (λ name. false) names → AreApart names
      apart names new = new_apart [] (λ name. false) names tt new (λ name. refl)

      cases : (words : List (List ℕ)) → Begins false words text bad → run language Next words ≡ Some c.t → AreNew (λ name. false) (names_in false words) → (step language c.t (token (expects_value false words) bad) ≡ None) ⊎ Repeats (λ name. false) words bad → ListStops text bad
      cases [] begins runs new stuck = record {
        words = [];
        t = Start;
        begins = begins;
        runs = refl;
        waits = λ e. (let wrong : byte ∷ rest ≡ [] = sym at ∙ begins ∙ e in absurd cc);
        apart = tt;
        stuck = elim stuck [ inl e ↦ inl (ap (λ (s : State). step language s (token false bad)) (same_state Next c.t runs) ∙ e) | inr r ↦ absurd (let wrong : false ≡ true = r.2 in cc) ];
      }
      cases (word ∷ words) begins runs new stuck = record {
        words = word ∷ words;
        t = c.t;
        begins = begins;
        runs = runs;
        waits = λ e. c.waits;
        apart = apart (names_in false (word ∷ words)) new;
        stuck = elim stuck [ inl e ↦ inl e | inr r ↦ absurd (let wrong : false ≡ true = r.2 in cc) ];
      }

  -- a comma and further tokens
  joined : (clauses : List Clause) (text rest last : List ℕ) (words : List (List ℕ)) (s : SoFar clauses text (44 ∷ rest)) → Begins false words rest last → Begins false (s.words ++ (44 ∷ []) ∷ words) text last
  joined clauses text rest last words s h =
      let next : Begins false ((44 ∷ []) ∷ words) (44 ∷ rest) last = (rest, refl, refl, h) in
      begins_append false s.words ((44 ∷ []) ∷ words) text (44 ∷ rest) last s.begins (subst (λ (v : Bool). Begins v ((44 ∷ []) ∷ words) (44 ∷ rest) last) (sym s.plain) next)

  joined_runs : (clauses : List Clause) (text rest : List ℕ) (words : List (List ℕ)) (t : State) (s : SoFar clauses text (44 ∷ rest)) → run language Next words ≡ Some t → run language Start (s.words ++ (44 ∷ []) ∷ words) ≡ Some t
  joined_runs clauses text rest words t s h = runs_on language Start s.words ((44 ∷ []) ∷ words) s.t t s.runs (ap (option_and_then (λ m. run language m words)) (comma_next language s.t s.closed) ∙ h)

  joined_names : (clauses : List Clause) (text rest : List ℕ) (words : List (List ℕ)) (s : SoFar clauses text (44 ∷ rest)) → names_in false (s.words ++ (44 ∷ []) ∷ words) ≡ names_in false s.words ++ names_in false words
  joined_names clauses text rest words s = names_append false s.words ((44 ∷ []) ∷ words) ∙ ap (λ (v : Bool). names_in false s.words ++ names_in v ((44 ∷ []) ∷ words)) s.plain

  joined_expects : (clauses : List Clause) (text rest : List ℕ) (words : List (List ℕ)) (s : SoFar clauses text (44 ∷ rest)) → expects_value false (s.words ++ (44 ∷ []) ∷ words) ≡ expects_value false words
  joined_expects clauses text rest words s = expects_append false s.words ((44 ∷ []) ∷ words) ∙ ap (λ (v : Bool). expects_value v ((44 ∷ []) ∷ words)) s.plain

  named_so_far : (clauses : List Clause) (text rest : List ℕ) (s : SoFar clauses text rest) (name : List ℕ) → mentions clauses name ≡ is_among (names_in false s.words) name
  named_so_far clauses text rest s name = mentions_among clauses name ∙ ap (λ (names : List (List ℕ)). is_among names name) (sym s.names)

  next_so_far : (clauses : List Clause) (text rest last : List ℕ) (clause : Clause) → SoFar clauses text (44 ∷ rest) → ClauseTaken language (mentions clauses) rest clause last → SoFar (clauses ++ clause ∷ []) text last
  next_so_far clauses text rest last clause s c =
      let names = joined_names clauses text rest c.words s in
      record {
        words = s.words ++ (44 ∷ []) ∷ c.words;
        t = c.t;
        begins = joined clauses text rest last c.words s c.begins;
        runs = joined_runs clauses text rest c.words c.t s c.runs;
        closed = c.closed;
        settled = c.settled;
        names = names ∙ (λ i. s.names i ++ c.names i) ∙ sym (map-append (λ (k : Clause). k.name) clauses (clause ∷ []));
        apart = subst AreApart (sym names) (new_apart (names_in false s.words) (mentions clauses) (names_in false c.words) s.apart (inr (clause.name, c.names, c.new)) (named_so_far clauses text (44 ∷ rest) s));
        plain = joined_expects clauses text rest c.words s ∙ c.plain;
      }

  next_stops : (clauses : List Clause) (text rest bad : List ℕ) → SoFar clauses text (44 ∷ rest) → ClauseStops language (mentions clauses) rest bad → ListStops text bad
  next_stops clauses text rest bad s c =
      let names = joined_names clauses text rest c.words s in
      let expects = joined_expects clauses text rest c.words s in
      record {
        words = s.words ++ (44 ∷ []) ∷ c.words;
        t = c.t;
        begins = joined clauses text rest bad c.words s c.begins;
        runs = joined_runs clauses text rest c.words c.t s c.runs;
        waits = λ e. c.waits;
        apart = subst AreApart (sym names) (new_apart (names_in false s.words) (mentions clauses) (names_in false c.words) s.apart c.names (named_so_far clauses text (44 ∷ rest) s));
        stuck = elim c.stuck [
          | inl e ↦ inl (ap (λ (v : Bool). step language c.t (token v bad)) expects ∙ e)
          | inr r ↦ inr (expects ∙ r.0, r.1, among (folded (token false bad)) names (sym (named_so_far clauses text (44 ∷ rest) s (folded (token false bad))) ∙ r.2))
        ];
      }
    where
      among : (name : List ℕ) → names_in false (s.words ++ (44 ∷ []) ∷ c.words) ≡ names_in false s.words ++ names_in false c.words → is_among (names_in false s.words) name ≡ true → is_among (names_in false (s.words ++ (44 ∷ []) ∷ c.words)) name ≡ true
      among name names h = ap (λ (ns : List (List ℕ)). is_among ns name) names ∙ among_append (names_in false s.words) (names_in false c.words) name ∙ or_left _ _ h

  -- what follows a clause is no comma
  ends_here : (clauses : List Clause) (text : List ℕ) (byte : ℕ) (rest : List ℕ) → SoFar clauses text (byte ∷ rest) → eqb byte 44 ≡ false → ListStops text (byte ∷ rest)
  ends_here clauses text byte rest s h = record {
    words = s.words;
    t = s.t;
    begins = s.begins;
    runs = s.runs;
    waits = λ e. absurd cc;
    apart = s.apart;
    stuck = inl (ap (λ (v : Bool). step language s.t (token v (byte ∷ rest))) s.plain ∙ s.settled ∙ (λ i. cond (other_sign byte rest 44 h i) (Some Next) None));
  }

  more_outcome : (fuel : ℕ) (clauses : List Clause) (text rest : List ℕ) → length rest < fuel → SoFar clauses text rest → ListOutcome text (more_at fuel language clauses rest)
  unfolding more_at
  more_outcome zero clauses text rest few s = absurd (omega arith)
  more_outcome (suc fuel) clauses text [] few s = said clauses text s
  more_outcome (suc fuel) clauses text (byte ∷ rest) few s = after (λ all last h k. more_outcome fuel all text last h k) (eqb byte 44) refl
    where
      next : ((all : List Clause) (last : List ℕ) → length last < fuel → SoFar all text last → ListOutcome text (more_at fuel language all last)) → SoFar clauses text (44 ∷ rest)
          → (r : Result (Clause × List ℕ) (List ℕ)) → ClauseOutcome language (mentions clauses) rest r → ListOutcome text (r >>= λ x. more_at fuel language (clauses ++ x.0 ∷ []) (past is_space x.1))
      next others s (Err bad) c = next_stops clauses text rest bad s c
      next others s (Ok x) c =
          let shorter = begins_shorter false c.words rest (past is_space x.1) c.begins in
          others (clauses ++ x.0 ∷ []) (past is_space x.1) (omega (arith, shorter)) (next_so_far clauses text rest (past is_space x.1) x.0 s c)

      after : ((all : List Clause) (last : List ℕ) → length last < fuel → SoFar all text last → ListOutcome text (more_at fuel language all last)) → (t : Bool) → eqb byte 44 ≡ t
          → ListOutcome text (cond t (clause_at language (mentions clauses) (past is_space rest) >>= λ x. more_at fuel language (clauses ++ x.0 ∷ []) (past is_space x.1)) (Err (byte ∷ rest)))
      after others true h = next others (subst (λ (b : ℕ). SoFar clauses text (b ∷ rest)) (eqb-true byte 44 h) s) (clause_at language (mentions clauses) (past is_space rest)) (clause_outcome language (mentions clauses) rest)
      after others false h = ends_here clauses text byte rest s h

  list_outcome : (text : List ℕ) → ListOutcome text (list_at language (past is_space text))
  unfolding list_at
  list_outcome text = cases (past is_space text) refl
    where
      nobody : List ℕ → Bool
      nobody name = false

      behind : (byte : ℕ) (rest : List ℕ) → past is_space text ≡ byte ∷ rest → (r : Result (Clause × List ℕ) (List ℕ)) → ClauseOutcome language (λ name. false) text r
          → ListOutcome text (r >>= λ first. more_at (suc (suc (length rest))) language (first.0 ∷ []) (past is_space first.1))
      behind byte rest at (Err bad) c = first_stops text bad byte rest at c
      behind byte rest at (Ok x) c =
          let shorter = begins_shorter false c.words (past is_space text) (past is_space x.1) (begins_past false c.words text (past is_space x.1) c.begins) in
          more_outcome (suc (suc (length rest))) (x.0 ∷ []) text (past is_space x.1) (omega (arith, shorter, ap length at)) (first_so_far text x.0 (past is_space x.1) c)

      cases : (first : List ℕ) → past is_space text ≡ first → ListOutcome text (list_at language first)
      cases [] at = record { words = []; begins = at; whole = any_whole language [] ([], refl, tt); apart = tt }
      cases (byte ∷ rest) at = behind byte rest at (clause_at language (λ name. false) (byte ∷ rest)) (subst (λ (t : List ℕ). ClauseOutcome language (λ name. false) text (clause_at language (λ name. false) t)) at (clause_outcome language (λ name. false) text))

  -- ---- what a call that read a text answers

  pub read_no_fault : (text : List ℕ) (clauses : List Clause) (place : ℕ) → list_at language (past is_space text) ≡ Ok clauses → IsFault (AreWhole language) text place → ⊥
  read_no_fault text clauses place e fault =
      let said : IsSaid language text = subst (ListOutcome text) e (list_outcome text) in
      no_fault_said language text place said fault

  pub stopped_fault : (text bad : List ℕ) → list_at language (past is_space text) ≡ Err bad → IsFault (AreWhole language) text (length text - length bad)
  stopped_fault text bad e = stops_fault text bad (subst (ListOutcome text) e (list_outcome text))

  stop_is_fault : (text : List ℕ) (place : ℕ) (r : Result (List Clause) (List ℕ)) → list_at language (past is_space text) ≡ r → Stops (length text) r place → IsFault (AreWhole language) text place
  stop_is_fault text place (Ok clauses) e h = absurd h
  stop_is_fault text place (Err bad) e h = subst (IsFault (AreWhole language) text) (sym h) (stopped_fault text bad e)

  pub refusal_fault : (text : List ℕ) (refusal : TextRefused) → IsRefusal refusal (Stops (length text) (list_at language (past is_space text))) → IsRefusal refusal (IsFault (AreWhole language) text)
  refusal_fault text NoMemory h = tt
  refusal_fault text (NotInGrammar place) h = stop_is_fault text place (list_at language (past is_space text)) refl h

  pub refused_there : (A : Type 0) (text : List ℕ) (refusal : TextRefused) (place : ℕ) → IsRefusal refusal (Stops (length text) (list_at language (past is_space text))) → IsFault (AreWhole language) text place → Refuses {A = A} (Err refusal) place
  refused_there A text NoMemory place h fault = tt
  refused_there A text (NotInGrammar found) place h fault = one_fault language text found place (refusal_fault text (NotInGrammar found) h) fault
