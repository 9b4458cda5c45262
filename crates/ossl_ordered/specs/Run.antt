-- A finished run, whatever the order in which its callers went on: one after the other in a stated order, or each in
-- a thread.
use Rattle.std.specs.Prelude.{ℕ, ◌≡◌, ◌<◌, ◌≤◌, IsFalse, Ok, List, [], ◌++◌}
use Rattle.std.specs.List.{range_with_len}
use Rattle.ossl_base.specs.declared.entry.Entry.{Entry}
use Rattle.ossl_provider.specs.Members.{is_in}
use Rattle.ossl_commands.specs.Counts.{callers_of, contexts_of}
use Rattle.ossl_commands.specs.Judging.{commands_of}
use Rattle.ossl_conf.specs.View.{SettingsView}
use Rattle.ossl_state.specs.declared.call.Call.{Call}
use Rattle.ossl_state.specs.declared.call.Reply.{Reply}
use Rattle.ossl_state.specs.Tokens.{entries_of}
use Rattle.ossl_print.specs.Batched.{Batch}
use Rattle.ossl_print.specs.Order.{history_number}
use Rattle.ossl_ordered.specs.Opening.{IsClosed, IsOpened}
use Rattle.ossl_ordered.specs.Turns.{IsDone, IsRunInOrder}

-- the opening; then the entries of the callers, each of which does its lines to their end and gives back what it
-- holds, and nothing else; and the closing. Caller i of the batch stands under the i-th of these numbers
pub record IsRun (settings : SettingsView) (batch : Batch) (callers : List ℕ)
    (entries : List (Entry Call Reply)) : Type 0 where
  pub opening : List (Entry Call Reply)
  pub middle : List (Entry Call Reply)
  pub closing : List (Entry Call Reply)
  pub parts : entries ≡ opening ++ middle ++ closing
  pub opened : IsOpened settings opening
  pub done : (caller : ℕ) → 0 < caller → caller ≤ callers_of batch.lines
      → IsDone batch caller (entries_of (history_number callers caller) middle)
  pub others : (c : ℕ) → IsFalse (is_in c callers) → entries_of c middle ≡ []
  pub closed : IsClosed (contexts_of batch.lines) opening closing

-- the callers of a batch under their own numbers
abbrev pub own_numbers : Batch → List ℕ
own_numbers batch = range_with_len 1 (callers_of batch.lines)

-- a run in the order of a list is a run
abbrev pub RunInOrderIsRun : Type 0
RunInOrderIsRun = (text : List ℕ) (files : List (List ℕ)) (settings : SettingsView) (batch : Batch)
    (list : List ℕ) (entries : List (Entry Call Reply))
    → commands_of text ≡ Ok (record { lines = batch.lines; files = files })
    → IsRunInOrder settings batch list entries
    → IsRun settings batch (own_numbers batch) entries
