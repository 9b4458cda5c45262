-- What a caller at work shows, and what each of its calls leaves of that.
use Rattle.std.specs.Prelude.{◌≡◌, ℕ, Bool, true, false, Option, Some, None, List, [], ◌∷◌, ◌++◌}
use Rattle.ossl_state.specs.declared.call.Call.{Call}
use Rattle.ossl_state.specs.declared.call.Reply.{Reply}
use Rattle.ossl_commands.specs.declared.command.Line.{Line}
use Rattle.ossl_script.specs.declared.caller.LineResult.{LineResult}
use Rattle.ossl_script.specs.declared.caller.Next.{Next}
use Rattle.ossl_script.specs.declared.caller.Next.TheVariants as nexts
use Rattle.ossl_script.specs.Caller.{giving_back, next_call, results_of}

-- a caller at work
pub record ScriptCallerView : Type 0 where
  -- its commands, and what files hold, by the places that its commands name
  pub lines : List Line
  pub contents : List (List ℕ)
  -- its number in the batch
  pub caller : ℕ
  -- the replies that it took, in order
  pub replies : List Reply
  -- the calls by which it has given back, in order
  pub given : List Call
  -- its last call waits for a reply
  pub waits : Bool
  -- it was told that its lines are done
  pub ended : Bool
  -- its work was refused memory
  pub refused : Bool

-- its next call by the replies that it took, or the end of its lines
abbrev pub next_of : ScriptCallerView → Next
next_of view = next_call view.lines view.contents view.caller view.replies

-- the calls by which it gives back what it holds after these replies
abbrev pub back_of : ScriptCallerView → List Call
back_of view = giving_back view.lines view.contents view.caller view.replies

-- what is printed of its lines that are done
abbrev pub printed_of : ScriptCallerView → List LineResult
printed_of view = results_of view.lines view.contents view.caller view.replies

-- it has taken no reply and given nothing back
abbrev pub fresh : List Line → List (List ℕ) → ℕ → ScriptCallerView
fresh lines contents caller = record {
  lines = lines;
  contents = contents;
  caller = caller;
  replies = [];
  given = [];
  waits = false;
  ended = false;
  refused = false;
}

-- whatever its replies, it has the calls, the results and the tokens of its number in this batch
abbrev pub SpeaksFor : List Line → List (List ℕ) → ScriptCallerView → Type 0
SpeaksFor lines contents view = (replies : List Reply)
    → (next_call view.lines view.contents view.caller replies ≡ next_call lines contents view.caller replies)
    × (results_of view.lines view.contents view.caller replies ≡ results_of lines contents view.caller replies)
    × (giving_back view.lines view.contents view.caller replies ≡ giving_back lines contents view.caller replies)

-- it goes on with its lines: it was refused nothing, and gave nothing back; and whether a call waits for its reply
pub record GoesOn (view : ScriptCallerView) (waits : Bool) : Type 0 where
  pub waiting : view.waits ≡ waits
  pub unrefused : view.refused ≡ false
  pub keeps : view.given ≡ []

abbrev pub is_call : Next → Bool
is_call (nexts.Call line call) = true
is_call nexts.End = false

abbrev pub is_end : Next → Bool
is_end (nexts.Call line call) = false
is_end nexts.End = true

-- after it was told what comes next: a call waits, or its lines are done
abbrev pub told : Next → ScriptCallerView → ScriptCallerView
told next view = record view { waits = is_call next; ended = is_end next }

-- after a reply
abbrev pub answered : Reply → ScriptCallerView → ScriptCallerView
answered reply view = record view { replies = view.replies ++ reply ∷ []; waits = false }

-- after its work was refused memory
abbrev pub stopped : ScriptCallerView → ScriptCallerView
stopped view = record view { refused = true }

-- one more call gives back, the next one; or all of them were made
abbrev pub Gives : ScriptCallerView → Option Call → ScriptCallerView → Type 0
Gives old (Some call) new =
    (new ≡ record old { given = old.given ++ call ∷ [] })
    × ((more : List Call) × (old.given ++ call ∷ more ≡ back_of old))
Gives old None new = (new ≡ old) × (old.given ≡ back_of old)
