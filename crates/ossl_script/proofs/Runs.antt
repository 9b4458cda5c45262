-- What the worked callers are written with.
use Rattle.std.proofs.Common.{◌≡◌, ℕ, List, [], ◌∷◌, ap}
use Rattle.std.specs.Prelude.{Result, Ok, None, Option}
use Rattle.ossl_codes.specs.declared.code.Code.{Code}
use Rattle.ossl_op.specs.FinishRefused.{FinishRefused}
use Rattle.ossl_op.specs.declared.params.Params.{Params}
use Rattle.ossl_op.specs.Standard.{standard_result}
use Rattle.ossl_state.specs.declared.call.Call.{Call}
use Rattle.ossl_state.specs.declared.call.Reply.{Reply}
use Rattle.ossl_script.specs.declared.caller.LineResult.{LineResult}
use Rattle.ossl_script.specs.declared.caller.Next.{Next}
use Rattle.ossl_script.specs.declared.caller.Next.TheVariants as nexts
use Rattle.ossl_commands.specs.Judging.{Fault, ◌>>=◌, commands_of}
use Rattle.ossl_script.specs.Caller.{Standing, after_reply, opening, lines_of, line_result, next_at, giving_back, results_of}
use Rattle.ossl_script.specs.Given.{Content, content_by, default_options}
use Rattle.ossl_script.specs.Outcome.{finished_outcome, performed_outcome}

-- what a caller does: its calls one by one, its results, and the calls by which it gives back
pub record Does : Type 0 where
  pub calls : List Next
  pub results : List LineResult
  pub back : List Call

-- the next call before each of these replies and after the last
abbrev pub calls_from : Content → Standing → List Reply → List Next
calls_from content standing [] = next_at standing.place ∷ []
calls_from content standing (reply ∷ replies) = next_at standing.place ∷ calls_from content (after_reply content standing reply) replies

-- what a caller of a batch does that gets these replies
abbrev pub does : List ℕ → List (List ℕ) → ℕ → List Reply → Result Does Fault
does text contents caller replies = commands_of text >>= λ said. Ok (record {
  calls = let content = content_by contents in calls_from content (opening content (lines_of caller said.lines)) replies;
  results = results_of said.lines contents caller replies;
  back = giving_back said.lines contents caller replies;
})

-- with these replies a caller makes these calls and no more, its results are these, and it gives this back
abbrev pub DoesAll : List ℕ → List (List ℕ) → ℕ → List Reply → List Next → List LineResult → List Call → Type 0
DoesAll text contents caller replies calls results back = does text contents caller replies ≡ Ok (record { calls = calls; results = results; back = back })

abbrev pub asks : ℕ → Call → Next
asks line call = nexts.Call line call

abbrev pub ends : Next
ends = nexts.End

abbrev pub line : ℕ → List ℕ → LineResult
line number text = record { line = number; text = text }

-- without options
abbrev pub plain : Params
plain = default_options.params

-- the standard's bytes are printed, of a digest or another operation without parameters
abbrev pub finishes : ℕ → Code → List ℕ → LineResult
finishes number code bytes = line_result number (finished_outcome (standard_result code None plain bytes))

-- likewise of a whole operation, by a method of this provider
abbrev pub performs : ℕ → List ℕ → Code → Option Code → Params → List ℕ → LineResult
performs number provider code inner params bytes = line_result number (performed_outcome provider (standard_result code inner params bytes))

-- what is printed of a whole operation where the standard's result is this
pub printed : (number : ℕ) (provider : List ℕ) {result expected : Result (List ℕ) FinishRefused} → result ≡ expected
    → line_result number (performed_outcome provider result) ≡ line_result number (performed_outcome provider expected)
printed number provider same = ap (λ result. line_result number (performed_outcome provider result)) same
