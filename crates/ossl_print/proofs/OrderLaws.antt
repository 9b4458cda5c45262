-- The lines of a history, one entry after another.
use Rattle.std.proofs.Common.{◌≡◌, ℕ, ◌+◌, ◌<◌, List, [], ◌∷◌, ◌++◌, length, take, drop, get_or, refl, sym, ◌∙◌, ap, append_assoc, suc, inl, inr, drop-cons, add-one}
use Rattle.std.specs.Prelude.{codes}
use Rattle.std.proofs.lemmas.Bool.{cases_Bool}
use Rattle.std.proofs.lemmas.List.{take-append-drop, take_more}
use Rattle.ossl_base.specs.declared.entry.Entry.{Entry}
use Rattle.ossl_provider.specs.Sheet.{Facts}
use Rattle.ossl_state.specs.declared.call.Call.{Call}
use Rattle.ossl_state.specs.declared.call.Reply.{Reply}
use Rattle.ossl_state.specs.declared.state.State.{State}
use Rattle.ossl_state.specs.History.{Fixed, IsLegal, IsNext, after_entry, state_after}
use Rattle.ossl_state.proofs.HistoryLaws.{state_after-push}
use Rattle.ossl_state.proofs.NextLaws.{legal-each}
use Rattle.ossl_watch.specs.declared.up.Up.{Up}
use Rattle.ossl_watch.specs.Changes.{is_among, lacking, started_by, stopped_by, ups_of}
use Rattle.ossl_print.specs.Order.{Showing, changes_text, entry_line, entry_lines, instance_text, mark_text, numbered_text, told_text}

-- the instances that the other list lacks, told one by one
told_changes : (word : List ℕ) (facts : List Facts) (these others : List Up) → changes_text word facts these others ≡ told_text word facts (lacking others these)
told_changes word facts [] others = refl
told_changes word facts (u ∷ us) others = elim (cases_Bool (is_among others u)) [
  | inl among ↦ rw among (told_changes word facts us others)
  | inr absent ↦ rw absent (ap (λ text. instance_text word facts u ++ text) (told_changes word facts us others))
]

-- the line of an entry, by what it started and stopped
line_told : (showing : Showing) (facts : List Facts) (number : ℕ) (e : Entry Call Reply) (s : State) →
    entry_line showing facts number e (ups_of s) (ups_of (after_entry facts s e))
    ≡ numbered_text showing number e ++ mark_text (showing.mark number) e.reply ++ told_text (codes "start") facts (started_by facts s e)
    ++ told_text (codes "stop") facts (stopped_by facts s e) ++ codes "\n"
line_told showing facts number e s =
    let front = numbered_text showing number e ++ mark_text (showing.mark number) e.reply in
    let stops = changes_text (codes "stop") facts (ups_of s) (ups_of (after_entry facts s e)) in
    ap (λ text. front ++ text ++ stops ++ codes "\n") (told_changes (codes "start") facts (ups_of (after_entry facts s e)) (ups_of s))
    ∙ ap (λ text. front ++ told_text (codes "start") facts (started_by facts s e) ++ text ++ codes "\n") (told_changes (codes "stop") facts (ups_of s) (ups_of (after_entry facts s e)))

-- the pieces of a line, behind what was written and before what is left
pieces : (o n m s t l r : List ℕ) → (((o ++ n) ++ m) ++ ((s ++ t) ++ l)) ++ r ≡ o ++ (((((n ++ m) ++ s) ++ t) ++ l) ++ r)
pieces o n m s t l r =
    let c = (s ++ t) ++ l in
    append_assoc ((o ++ n) ++ m) c r ∙ append_assoc (o ++ n) m (c ++ r) ∙ append_assoc o n (m ++ (c ++ r))
    ∙ ap (λ text. o ++ text) (
    ap (λ text. n ++ (m ++ text)) (append_assoc (s ++ t) l r ∙ append_assoc s t (l ++ r))
    ∙ sym (append_assoc (((n ++ m) ++ s) ++ t) l r ∙ append_assoc ((n ++ m) ++ s) t (l ++ r) ∙ append_assoc (n ++ m) s (t ++ (l ++ r)) ∙ append_assoc n m (s ++ (t ++ (l ++ r)))))

module _ (fixed : Fixed) (history : List (Entry Call Reply)) (x : ℕ) (e : Entry Call Reply) (within : x < length history) (here : e ≡ get_or history x e) where
  split : drop x history ≡ e ∷ drop (x + 1) history
  split = rw (add-one, drop-cons history x e) (ap (λ y. y ∷ drop (suc x) history) (sym here))

  pub whole : history ≡ take x history ++ e ∷ drop (x + 1) history
  whole = sym (take-append-drop x history) ∙ ap (λ l. take x history ++ l) split

  pub next_here : IsLegal fixed history → IsNext fixed (take x history) e
  next_here legal = (legal-each fixed history).1 legal (take x history) (drop (x + 1) history) e whole

  pub taken : take (x + 1) history ≡ take x history ++ e ∷ []
  taken = take_more history x e within ∙ ap (λ y. take x history ++ y ∷ []) (sym here)

  -- an entry more is written
  pub written_more : (showing : Showing) (number : ℕ) (out numbered mark started stopped all : List ℕ) →
      numbered ≡ numbered_text showing number e → mark ≡ mark_text (showing.mark number) e.reply →
      started ≡ told_text (codes "start") fixed.facts (started_by fixed.facts (state_after fixed (take x history)) e) →
      stopped ≡ told_text (codes "stop") fixed.facts (stopped_by fixed.facts (state_after fixed (take x history)) e) →
      out ++ entry_lines showing fixed.facts number (state_after fixed (take x history)) (drop x history) ≡ all →
      (((out ++ numbered) ++ mark) ++ ((started ++ stopped) ++ codes "\n"))
      ++ entry_lines showing fixed.facts (number + 1) (state_after fixed (take (x + 1) history)) (drop (x + 1) history) ≡ all
  written_more showing number out numbered mark started stopped all is_numbered is_mark is_started is_stopped so_far =
      let s = state_after fixed (take x history) in
      let rest = drop (x + 1) history in
      let left = entry_lines showing fixed.facts (number + 1) (state_after fixed (take (x + 1) history)) rest in
      let later : state_after fixed (take (x + 1) history) ≡ after_entry fixed.facts s e = ap (state_after fixed) taken ∙ state_after-push fixed (take x history) e in
      let line = entry_line showing fixed.facts number e (ups_of s) (ups_of (after_entry fixed.facts s e)) in
      let told : (((numbered ++ mark) ++ started) ++ stopped) ++ codes "\n" ≡ line =
      rw (is_numbered, is_mark, is_started, is_stopped) (sym (line_told showing fixed.facts number e s)) in
      pieces out numbered mark started stopped (codes "\n") left
      ∙ ap (λ text. out ++ (text ++ left)) told
      ∙ ap (λ after. out ++ (line ++ entry_lines showing fixed.facts (number + 1) after rest)) later
      ∙ ap (λ es. out ++ entry_lines showing fixed.facts number s es) (sym split)
      ∙ so_far
