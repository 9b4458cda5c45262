-- What a caller does: from the lines of the batch, what the files hold and the replies that it got so far, its next
-- call with the number of its line, or the end of its lines; the calls by which it gives back what it then holds; and
-- what is printed of its lines.
use Rattle.std.specs.Prelude.{ℕ, ◌≡◌, ⊤, nat_eq, Option, Some, None, List, [], ◌∷◌, ◌++◌, filter, fold}
use Rattle.ossl_base.specs.declared.entry.Entry.{Entry}
use Rattle.ossl_state.specs.declared.call.Call.{Call}
use Rattle.ossl_state.specs.declared.call.Reply.{Reply}
use Rattle.ossl_script.specs.declared.caller.LineResult.{LineResult}
use Rattle.ossl_script.specs.declared.caller.Next.{Next}
use Rattle.ossl_script.specs.declared.caller.Next.TheVariants as nexts
use Rattle.ossl_commands.specs.declared.command.Line.{Line}
use Rattle.ossl_script.specs.declared.held.Held.{Held}
use Rattle.ossl_script.specs.declared.outcome.Outcome.{Outcome}
use Rattle.ossl_script.specs.Bindings.{nothing_bound}
use Rattle.ossl_script.specs.Commands.{course_of}
use Rattle.ossl_script.specs.Course.{Course}
use Rattle.ossl_script.specs.Course.Course.{ask, said}
use Rattle.ossl_script.specs.Given.{Content, content_by}
use Rattle.ossl_script.specs.Held.{held_after, give_back_calls}
use Rattle.ossl_script.specs.Outcome.{outcome_text}

-- where a caller stands: at a call of a line, with the course behind each reply and the lines behind that line; or
-- behind its last line
pub data Place : Type 0 where
  asking : ℕ → Call → (Reply → Course) → List Line → Place
  ended : Place

-- a caller's state: the results of its lines so far, the tokens that it holds, and where it stands
pub record Standing : Type 0 where
  pub told : List LineResult
  pub held : List Held
  pub place : Place

abbrev pub line_result : ℕ → Outcome → LineResult
line_result number outcome = record { line = number; text = outcome_text outcome }

-- a line takes its course up to its next call; where it has none, its result is told, and the next line begins with
-- what is bound then
abbrev pub goes_on : Content → List Held → List LineResult → ℕ → Course → List Line → Standing
goes_on content held told number (ask call follows) lines =
    record { told = told; held = held; place = asking number call follows lines }
goes_on content held told number (said outcome bindings) [] =
    record { told = told ++ line_result number outcome ∷ []; held = held; place = ended }
goes_on content held told number (said outcome bindings) (line ∷ lines) =
    goes_on content held (told ++ line_result number outcome ∷ []) line.number (course_of content bindings line.command)
    lines

-- before any reply: nothing is bound or held, and the first line begins
abbrev pub opening : Content → List Line → Standing
opening content [] = record { told = []; held = []; place = ended }
opening content (line ∷ lines) = goes_on content [] [] line.number (course_of content nothing_bound line.command) lines

abbrev pub after_reply_at : Content → Standing → Reply → Place → Standing
after_reply_at content standing reply (asking number call follows lines) =
    goes_on content (held_after call reply standing.held) standing.told number (follows reply) lines
after_reply_at content standing reply ended = standing

-- one step: the reply to the call at which the caller stands
abbrev pub after_reply : Content → Standing → Reply → Standing
after_reply content standing reply = after_reply_at content standing reply standing.place

-- the lines of a caller
abbrev pub lines_of : ℕ → List Line → List Line
lines_of caller lines = filter (λ line. nat_eq line.caller caller) lines

-- where lines stand after these replies
abbrev pub stands : Content → List Line → List Reply → Standing
stands content lines replies = fold (after_reply content) (opening content lines) replies

-- where a caller of a batch stands after its replies so far, given the contents of the files in the order of their
-- first naming
abbrev pub standing_of : List Line → List (List ℕ) → ℕ → List Reply → Standing
standing_of lines contents caller replies = stands (content_by contents) (lines_of caller lines) replies

abbrev pub next_at : Place → Next
next_at (asking number call follows lines) = nexts.Call number call
next_at ended = nexts.End

-- the next call after these replies, with the number of its line, or the end of the lines
abbrev pub next_call : List Line → List (List ℕ) → ℕ → List Reply → Next
next_call lines contents caller replies = next_at (standing_of lines contents caller replies).place

-- the calls by which a caller gives back what it holds after these replies, the greatest number first: at the end of
-- its lines, or wherever it stops
abbrev pub giving_back : List Line → List (List ℕ) → ℕ → List Reply → List Call
giving_back lines contents caller replies = give_back_calls (standing_of lines contents caller replies).held

-- what is printed of the lines that are done, each with the number of its line
abbrev pub results_of : List Line → List (List ℕ) → ℕ → List Reply → List LineResult
results_of lines contents caller replies = (standing_of lines contents caller replies).told

-- the call that comes next, if one does
abbrev pub call_in : Next → Option Call
call_in (nexts.Call line call) = Some call
call_in nexts.End = None

-- after these replies the calls of the entries are, one by one, the caller's next calls, under whatever number it
-- stands in the history
abbrev pub Follows : List Line → List (List ℕ) → ℕ → List Reply → List (Entry Call Reply) → Type 0
Follows lines contents caller replies [] = ⊤
Follows lines contents caller replies (e ∷ es) =
    (call_in (next_call lines contents caller replies) ≡ Some e.call)
    × Follows lines contents caller (replies ++ e.reply ∷ []) es
