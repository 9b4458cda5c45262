use Rattle.std.proofs.Common.{◌≡◌, ◌+◌, ◌++◌, length, map, take, drop}
use Rattle.std.specs.Prelude.{option_map}
use Rattle.ossl_state.specs.History.{state_after}
use Rattle.ossl_print.specs.Order.{entry_lines, lines_of, order_text, showing_of}
use Rattle.ossl_watch.specs.Changes.{fixed_over}
use Rattle.ossl_watch.specs.Watching.{IsWatching}
use Rattle.ossl_print.proofs.order.write_order.Given as goal

-- the watch was told the entries so far, and what was written and what is left make the whole
abbrev pub invariant-loop-entry : goal.invariant-loop-entry
invariant-loop-entry g l =
    let facts = map g.P.Provider.facts l.catalogue in
    let shown = showing_of l.callers (option_map (λ ms. ms.now) l.marks) in
    let fixed = fixed_over facts l.contexts in
    record {
      number : l.number ≡ l.entry-index;
      watching : IsWatching fixed (take l.entry-index l.history) l.watch;
      written : l.out.items ++ entry_lines shown facts (l.number + 1) (state_after fixed (take l.entry-index l.history)) (drop l.entry-index l.history)
          ≡ l.fn.out.items ++ order_text (length l.history) (lines_of shown fixed l.history);
    }
