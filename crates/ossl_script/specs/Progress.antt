-- How far a caller came with its lines, against where it stands.
use Rattle.std.specs.Prelude.{◌≡◌, ℕ, ◌+◌, ◌<◌, IfSome, Option, Some, None, List, [], ◌∷◌, ◌++◌, drop, length}
use Rattle.ossl_state.specs.declared.call.Call.{Call}
use Rattle.ossl_state.specs.declared.call.Reply.{Reply}
use Rattle.ossl_commands.specs.declared.command.Line.{Line}
use Rattle.ossl_commands.specs.Counts.{arguments_in}
use Rattle.ossl_script.specs.declared.caller.LineResult.{LineResult}
use Rattle.ossl_script.specs.declared.caller.Next.{Next}
use Rattle.ossl_script.specs.declared.caller.Next.TheVariants as nexts
use Rattle.ossl_script.specs.declared.held.Held.{Held}
use Rattle.ossl_script.specs.declared.progress.Progress.{Progress}
use Rattle.ossl_script.specs.declared.stage.Course.{Course as Left}
use Rattle.ossl_script.specs.declared.stage.Course.TheVariants as left
use Rattle.ossl_script.specs.declared.stage.Stage.{Stage}
use Rattle.ossl_script.specs.Bindings.{Bindings}
use Rattle.ossl_script.specs.Caller.{Standing, goes_on, line_result}
use Rattle.ossl_script.specs.Caller.Place.{asking, ended}
use Rattle.ossl_script.specs.Commands.{course_of}
use Rattle.ossl_script.specs.Given.{Content, fed_by}
use Rattle.ossl_script.specs.Names.{Agree}
use Rattle.ossl_script.specs.Stages.{after}

-- where these lines lead, from these results and bindings on
abbrev pub from_here : Content → List Held → List LineResult → Bindings → List Line → Standing
from_here content held told bindings [] = record { told = told; held = held; place = ended }
from_here content held told bindings (line ∷ lines) =
    goes_on content held told line.number (course_of content bindings line.command) lines

-- the bytes that a line gives its command
abbrev pub fed_in : Content → Line → List ℕ
fed_in content line = fed_by content (arguments_in line.command)

-- what is left of a line is settled
abbrev pub Settled : Progress → Progress → ℕ → Left → Option Call → Type 0
Settled old new number (left.Asks asked) (Some call) =
    (call ≡ asked.call) × (new ≡ record old { stage = Some asked.stage })
Settled old new number (left.Said outcome) None =
    (new.told.items ≡ old.told.items ++ line_result number outcome ∷ []) × (new.names ≡ old.names) × (new.stage ≡ None)
    × (new.line ≡ old.line + 1)
Settled old new number course call = ⊥

-- the next line is to begin
pub record Ready (content : Content) (lines : List Line) (progress : Progress) (standing : Standing) : Type 0 where
  pub bindings : Bindings
  pub agree : Agree progress.names bindings
  pub idle : progress.stage ≡ None
  pub stands : standing ≡ from_here content standing.held progress.told.items bindings (drop progress.line lines)

-- a line waits at a call
pub record Asked (content : Content) (lines : List Line) (progress : Progress) (standing : Standing) (line : Line)
    (call : Call) : Type 0 where
  pub bindings : Bindings
  pub agree : Agree progress.names bindings
  pub stage : Stage
  pub waits : progress.stage ≡ Some stage
  pub behind : List Line
  pub here : drop progress.line lines ≡ line ∷ behind
  pub told : standing.told ≡ progress.told.items
  pub stands : standing.place ≡ asking line.number call (after (fed_in content line) bindings stage) behind

-- its call was answered
pub record Answered (content : Content) (progress : Progress) (standing : Standing) (line : Line) (behind : List Line)
    (stage : Stage) (reply : Reply) : Type 0 where
  pub bindings : Bindings
  pub agree : Agree progress.names bindings
  pub stands : standing ≡ goes_on content standing.held progress.told.items line.number
      (after (fed_in content line) bindings stage reply) behind

-- a line came to a call, or it is done
abbrev pub Steps : Content → List Line → Progress → Standing → Line → Option Call → Type 0
Steps content lines progress standing line (Some call) = Asked content lines progress standing line call
Steps content lines progress standing line None = Ready content lines progress standing

-- the lines came to a call, or to their end
abbrev pub Arrives : Content → List Line → Progress → Standing → Next → Type 0
Arrives content lines progress standing (nexts.Call number call) =
    (line : Line) × (line.number ≡ number) × Asked content lines progress standing line call
Arrives content lines progress standing nexts.End = (standing.told ≡ progress.told.items) × (standing.place ≡ ended)

-- the stage of a line that was answered
abbrev pub StandsAt : Content → List Line → List Reply → Progress → Standing → Option Stage → Type 0
StandsAt content lines replies progress standing None = Ready content lines progress standing
StandsAt content lines replies progress standing (Some stage) =
    (line : Line) × (behind : List Line) × (earlier : List Reply) × (reply : Reply)
    × (drop progress.line lines ≡ line ∷ behind)
    × (replies ≡ earlier ++ reply ∷ []) × Answered content progress standing line behind stage reply

abbrev pub Stands : Content → List Line → List Reply → Progress → Standing → Type 0
Stands content lines replies progress standing = StandsAt content lines replies progress standing progress.stage

-- a line that was answered is there, and so is the reply
abbrev pub HasLine : Progress → List Line → List Reply → Type 0
HasLine progress lines replies = IfSome progress.stage (λ stage. (progress.line < length lines) × (0 < length replies))

-- the next line follows where a line is done
abbrev pub Moves : Progress → Progress → Option Call → Type 0
Moves old new (Some call) = new.line ≡ old.line
Moves old new None = new.line ≡ old.line + 1
