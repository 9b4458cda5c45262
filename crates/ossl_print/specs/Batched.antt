-- A batch at a run: its lines, what its files hold, and what each caller does after its replies so far.
use Rattle.std.specs.Prelude.{ℕ, List, map}
use Rattle.ossl_base.specs.declared.entry.Entry.{Entry}
use Rattle.ossl_state.specs.declared.call.Call.{Call}
use Rattle.ossl_state.specs.declared.call.Reply.{Reply}
use Rattle.ossl_state.specs.Tokens.{entries_of}
use Rattle.ossl_script.specs.declared.caller.LineResult.{LineResult}
use Rattle.ossl_script.specs.declared.caller.Next.{Next}
use Rattle.ossl_commands.specs.declared.command.Line.{Line}
use Rattle.ossl_script.specs.Caller as script

-- the commands of a batch, and what its files hold, in the order of their first naming
pub record Batch : Type 0 where
  pub lines : List Line
  pub contents : List (List ℕ)

-- the replies that entries carry
abbrev pub replies_of : List (Entry Call Reply) → List Reply
replies_of entries = map (λ e. e.reply) entries

-- the replies to a caller among these entries
abbrev pub replies_to : ℕ → List (Entry Call Reply) → List Reply
replies_to caller entries = replies_of (entries_of caller entries)

-- a caller's next call, with the number of its line, or the end of its lines
abbrev pub next_of : Batch → ℕ → List Reply → Next
next_of batch caller replies = script.next_call batch.lines batch.contents caller replies

-- the calls by which a caller gives back what it holds, the greatest number first
abbrev pub giving_back_of : Batch → ℕ → List Reply → List Call
giving_back_of batch caller replies = script.giving_back batch.lines batch.contents caller replies

-- the results of a caller's lines
abbrev pub results_of : Batch → ℕ → List Reply → List LineResult
results_of batch caller replies = script.results_of batch.lines batch.contents caller replies
