use Rattle.std.proofs.Common.{◌≡◌, ℕ, ◌+◌, ◌^◌, ◌<◌, ◌++◌, List, length, map, take, drop, get_or, refl, sym, ◌∙◌, ap, subst, arith, append_assoc}
use Rattle.std.proofs.lemmas.List.{length-take}
use Rattle.std.specs.Prelude.{codes, option_map, option_to_list}
use Rattle.std.specs.Fmt.{decimal}
use Rattle.ossl_base.specs.declared.entry.Entry.{Entry}
use Rattle.ossl_provider.specs.Sheet.{Facts}
use Rattle.ossl_state.specs.declared.call.Call.{Call}
use Rattle.ossl_state.specs.declared.call.Reply.{Reply}
use Rattle.ossl_state.specs.History.{IsLegal, state_after}
use Rattle.ossl_state.specs.Text.{entry_text}
use Rattle.ossl_print.specs.Order.{entry_lines, lines_of, mark_text, showing_of, told_text}
use Rattle.ossl_print.proofs.OrderLaws.{next_here, taken, written_more}
use Rattle.ossl_watch.specs.Changes.{fixed_over}
use Rattle.ossl_watch.specs.Watched.{Watched}
use Rattle.ossl_watch.specs.Watching.{IsToldNext, IsWatching}
use Rattle.ossl_print.proofs.order.write_order.Goals as goal

-- the watch was told so many entries, and this one comes next
told_next : (facts : List Facts) (contexts x : ℕ) (history : List (Entry Call Reply)) (e : Entry Call Reply) (w : Watched) → x < length history → length history < 2 ^ 62 → e ≡ get_or history x e →
    IsLegal (fixed_over facts contexts) history → IsWatching (fixed_over facts contexts) (take x history) w → IsToldNext facts (fixed_over facts contexts) (take x history) w e
told_next facts contexts x history e w within few here legal watching = record {
  watching = watching;
  boxes = refl;
  next = next_here (fixed_over facts contexts) history x e within here legal;
  few = omega (arith, length-take x history, within, few);
}

-- the head of the lines
headed : (o a d n l one two three : List ℕ) → one ≡ o ++ a → two ≡ one ++ d → three ≡ two ++ n → three ++ l ≡ o ++ (((a ++ d) ++ n) ++ l)
headed o a d n l one two three e f g =
    ap (λ text. text ++ l) (g ∙ ap (λ text. text ++ n) (f ∙ ap (λ text. text ++ d) e))
    ∙ append_assoc ((o ++ a) ++ d) n l ∙ append_assoc (o ++ a) d (n ++ l) ∙ append_assoc o a (d ++ (n ++ l))
    ∙ ap (λ text. o ++ text) (sym (append_assoc (a ++ d) n l ∙ append_assoc a d (n ++ l)))

pub loop-entry-init : goal.loop-entry-init
loop-entry-init g c =
    let history = c.args.history.now in
    let facts = map g.P.Provider.facts c.args.catalogue.now in
    let shown = showing_of c.args.callers.now (option_map (λ ms. ms.now) c.args.marks) in
    let one : c.extend_from_slice.new.self.items ≡ c.args.out.now.items ++ codes "order " = c.in_ok-extend_from_slice.ensures.items in
    let two : c.write_decimal.new.out.items ≡ c.extend_from_slice.new.self.items ++ decimal (length history) = c.in_ok-write_decimal.ensures.ok in
    let three : c.extend_from_slice-2.new.self.items ≡ c.write_decimal.new.out.items ++ codes "\n" = c.in_ok-extend_from_slice-2.ensures.items in
    record {
      number = refl;
      watching = c.in_ok-watch.ensures.watching (fixed_over (map g.P.Provider.facts c.args.catalogue.now) c.args.contexts) refl;
      written = headed c.args.out.now.items (codes "order ") (decimal (length history)) (codes "\n") (lines_of shown (fixed_over facts c.args.contexts) history) _ _ _ one two three;
    }

pub note-requires : goal.note-requires
note-requires g c =
    let facts = map g.P.Provider.facts c.args.catalogue.now in
    let history = c.args.history.now in
    let x = c.loop-entry.entry-index in
    record {
      told = (
        fixed_over facts c.args.contexts,
        take x history,
        told_next facts c.args.contexts x history c.entry-item.result c.loop-entry.watch
            (omega (arith, c.loop-entry-test.true)) (omega (arith, c.if-history-ge-MOST_ENTRIES.false)) c.entry-item.is c.requires.legal c.loop-entry.invariant.watching,
      );
    }

pub loop-entry-preserved : goal.loop-entry-preserved
loop-entry-preserved g c =
    let facts = map g.P.Provider.facts c.args.catalogue.now in
    let fixed = fixed_over facts c.args.contexts in
    let history = c.args.history.now in
    let x = c.loop-entry.entry-index in
    let e = c.entry-item.result in
    let within : x < length history = omega (arith, c.loop-entry-test.true) in
    let told = told_next facts c.args.contexts x history e c.loop-entry.watch within (omega (arith, c.if-history-ge-MOST_ENTRIES.false)) c.entry-item.is c.requires.legal c.loop-entry.invariant.watching in
    let shown = showing_of c.args.callers.now (option_map (λ ms. ms.now) c.args.marks) in
    let number = c.loop-entry.number + 1 in
    let numbered = decimal number ++ codes " " ++ decimal c.batch_caller.result ++ codes " " ++ entry_text e in
    let mark = mark_text c.mark_at.result e.reply in
    let started = told_text (codes "start") facts (option_to_list c.in_ok-change.change.started) in
    let stopped = told_text (codes "stop") facts c.in_ok-change.change.stopped.items in
    let out = c.in_ok-write_change.ensures ∙ ap (λ text. text ++ (started ++ stopped ++ codes "\n")) (c.in_ok-write_mark.ensures ∙ ap (λ text. text ++ mark) c.in_ok-write_numbered.ensures) in
    record {
      number = ap (λ n. n + 1) c.loop-entry.invariant.number;
      watching = (let P : List (Entry Call Reply) → Type 0 = λ es. IsWatching fixed es c.note.new.self in
          subst P (sym (taken fixed history x e within c.entry-item.is)) (c.in_ok-change.ensures.watching fixed (take x history) told));
      written =
          ap (λ text. text ++ entry_lines shown facts (number + 1) (state_after fixed (take (x + 1) history)) (drop (x + 1) history)) out
          ∙ written_more fixed history x e within c.entry-item.is shown number c.loop-entry.out.items numbered mark started stopped _
          (ap (λ k. decimal number ++ codes " " ++ decimal k ++ codes " " ++ entry_text e) c.batch_caller.ensures.caller)
          (ap (λ m. mark_text m e.reply) c.mark_at.ensures)
          (ap (told_text (codes "start") facts) (c.in_ok-change.ensures.started fixed (take x history) told))
          (ap (told_text (codes "stop") facts) (c.in_ok-change.ensures.stopped fixed (take x history) told))
          c.loop-entry.invariant.written;
    }
