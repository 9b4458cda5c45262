-- The whole output of a finished run.
use Rattle.std.specs.Prelude.{ℕ, ◌≡◌, ◌<◌, ◌≤◌, IsTrue, IsFalse, Bool, Option, List, ◌++◌, length}
use Rattle.ossl_base.specs.declared.entry.Entry.{Entry}
use Rattle.ossl_commands.specs.Counts.{callers_of}
use Rattle.ossl_provider.specs.Members.{is_distinct, is_in}
use Rattle.ossl_script.specs.declared.caller.LineResult.{LineResult}
use Rattle.ossl_script.specs.declared.caller.Next.TheVariants as nexts
use Rattle.ossl_state.specs.declared.call.Call.{Call}
use Rattle.ossl_state.specs.declared.call.Reply.{Reply}
use Rattle.ossl_state.specs.History.{Fixed}
use Rattle.ossl_print.specs.Batched.{Batch, next_of, replies_to, results_of}
use Rattle.ossl_print.specs.Order.{history_number, lines_of, order_text, showing_of}
use Rattle.ossl_print.specs.Results.{batch_results, results_text, told_to, IsEachTold}

-- how many entries there are, their lines, and the results
abbrev pub output_text : ℕ → List ℕ → List LineResult → List ℕ
output_text count lines results = order_text count lines ++ results_text results

-- the callers of a batch stand under these numbers: one each, distinct, and none is that of the program
pub record IsNumbering (batch : Batch) (callers : List ℕ) : Type 0 where
  pub each : length callers ≡ callers_of batch.lines
  pub distinct : IsTrue (is_distinct callers)
  pub not_program : IsFalse (is_in 0 callers)

-- the whole output of a finished run of a batch, whose callers stand under these numbers in the history
abbrev pub printed_batch : Fixed → Batch → List ℕ → Option (List Bool) → List (Entry Call Reply) → List ℕ
printed_batch fixed batch callers marks entries =
    output_text (length entries) (lines_of (showing_of callers marks) fixed entries)
    (batch_results batch (λ caller. replies_to (history_number callers caller) entries))

-- these are the results of a batch's callers, counted from 1, after a history
abbrev pub AreResults : Batch → List ℕ → List (Entry Call Reply) → List (List LineResult) → Type 0
AreResults batch callers entries results =
    (caller : ℕ) → 0 < caller → caller ≤ length results →
    told_to results caller ≡ results_of batch caller (replies_to (history_number callers caller) entries)

-- once the lines of a caller are done, it has one result for each of them, in order
abbrev pub EndedIsTold : Type 0
EndedIsTold = (batch : Batch) (caller : ℕ) (replies : List Reply) →
    next_of batch caller replies ≡ nexts.End → IsEachTold batch.lines caller (results_of batch caller replies)
