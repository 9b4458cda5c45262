-- What a caller does follows from its own lines with what their files hold, and its replies.
use Rattle.std.proofs.Common.{◌≡◌, ℕ, List, [], ◌∷◌, ◌++◌, map, refl, sym, ◌∙◌, ap}
use Rattle.std.specs.Prelude.{fold}
use Rattle.ossl_codes.specs.declared.code.Operation.{Operation}
use Rattle.ossl_state.specs.declared.call.Reply.{Reply}
use Rattle.ossl_script.specs.declared.caller.LineResult.{LineResult}
use Rattle.ossl_commands.specs.declared.command.Argument.{Argument}
use Rattle.ossl_commands.specs.declared.command.Argument.TheVariants.{Piece}
use Rattle.ossl_commands.specs.declared.command.Command.{Command}
use Rattle.ossl_commands.specs.declared.command.Command.TheVariants.{Open, Feed, Perform}
use Rattle.ossl_commands.specs.declared.command.Line.{Line}
use Rattle.ossl_script.specs.declared.held.Held.{Held}
use Rattle.ossl_script.specs.declared.outcome.Outcome.TheVariants.{Done}
use Rattle.ossl_script.specs.Bindings.{Bindings, bind, nothing_bound}
use Rattle.ossl_script.specs.Bindings.Binding.{running}
use Rattle.ossl_script.specs.Caller.{Place, Standing, after_reply, after_reply_at, goes_on, line_result, lines_of, next_at, opening, stands, standing_of}
use Rattle.ossl_script.specs.Caller.Place.{asking, ended}
use Rattle.ossl_script.specs.Commands.{course_of, opened}
use Rattle.ossl_script.specs.Course.{Course, reads, uses_method, uses_inner, uses_running, binds}
use Rattle.ossl_script.specs.Course.Course.{ask, said}
use Rattle.ossl_script.specs.Given.{Content, Options, content_by, default_options, fed_by, options_of, piece_bytes, with_argument}
use Rattle.ossl_script.specs.Held.{held_after, give_back_calls}
use Rattle.ossl_script.specs.Laws.{OwnLinesAlone, filled_argument, filled_command, filled_line}
use Rattle.ossl_script.specs.Whole.{performed}

-- the courses of the commands that data or options are given to, of what these give
abbrev opens : Bindings → List ℕ → List ℕ → Options → Course
opens bindings old name options =
    uses_method old bindings (λ used. uses_inner options.method bindings (λ inner. binds name bindings (opened name options bindings used inner)))

abbrev feeds : Bindings → List ℕ → List ℕ → Course
feeds bindings name fed =
    uses_running name bindings (λ operating. said Done (bind name (running (record operating { fed = operating.fed ++ fed })) bindings))

abbrev performs : Bindings → Operation → List ℕ → List ℕ → Options → List ℕ → Course
performs bindings operation algorithm query options fed =
    reads query bindings (λ clauses. performed operation algorithm (record { options = options; query = clauses; fed = fed; bindings = bindings }))

-- files that hold nothing
abbrev bare : Content
bare place = []

module _ (content : Content) where
  -- 1. Data and options.

  same_piece : (argument : Argument) → piece_bytes bare (filled_argument content argument) ≡ piece_bytes content argument
  same_piece (Piece given) = refl
  same_piece argument = refl

  same_fed : (arguments : List Argument) → fed_by bare (map (filled_argument content) arguments) ≡ fed_by content arguments
  same_fed [] = refl
  same_fed (argument ∷ arguments) =
      ap (λ bytes. bytes ++ fed_by bare (map (filled_argument content) arguments)) (same_piece argument)
      ∙ ap (λ bytes. piece_bytes content argument ++ bytes) (same_fed arguments)

  same_argument : (options : Options) (argument : Argument) → with_argument bare options (filled_argument content argument) ≡ with_argument content options argument
  same_argument options (Piece given) = refl
  same_argument options argument = refl

  same_options_from : (options : Options) (arguments : List Argument)
      → fold (with_argument bare) options (map (filled_argument content) arguments) ≡ fold (with_argument content) options arguments
  same_options_from options [] = refl
  same_options_from options (argument ∷ arguments) =
      ap (λ more. fold (with_argument bare) more (map (filled_argument content) arguments)) (same_argument options argument)
      ∙ same_options_from (with_argument content options argument) arguments

  same_options : (arguments : List Argument) → options_of bare (map (filled_argument content) arguments) ≡ options_of content arguments
  same_options arguments = same_options_from default_options arguments

  -- 2. Commands.

  same_course : (bindings : Bindings) (command : Command) → course_of bare bindings (filled_command content command) ≡ course_of content bindings command
  same_course bindings (Open old name arguments) = ap (λ options. opens bindings old name options) (same_options arguments)
  same_course bindings (Feed name arguments) = ap (λ fed. feeds bindings name fed) (same_fed arguments)
  same_course bindings (Perform operation algorithm arguments query) =
      ap (λ options. performs bindings operation algorithm query options (fed_by bare (map (filled_argument content) arguments))) (same_options arguments)
      ∙ ap (λ fed. performs bindings operation algorithm query (options_of content arguments) fed) (same_fed arguments)
  same_course bindings command = refl

  -- 3. Whole scripts.

  -- where a caller stands, with the bytes of data in the lines behind
  abbrev filled_place : Place → Place
  filled_place (asking number call follows lines) = asking number call follows (map (filled_line content) lines)
  filled_place ended = ended

  abbrev filled_standing : Standing → Standing
  filled_standing standing = record standing { place = filled_place standing.place }

  same_going : (lines : List Line) (held : List Held) (told : List LineResult) (number : ℕ) (course : Course)
      → goes_on bare held told number course (map (filled_line content) lines) ≡ filled_standing (goes_on content held told number course lines)
  same_going lines held told number (ask call follows) = refl
  same_going [] held told number (said outcome bindings) = refl
  same_going (line ∷ lines) held told number (said outcome bindings) =
      let tells = told ++ line_result number outcome ∷ [] in
      ap (λ course. goes_on bare held tells line.number course (map (filled_line content) lines)) (same_course bindings line.command)
      ∙ same_going lines held tells line.number (course_of content bindings line.command)

  same_opening : (lines : List Line) → opening bare (map (filled_line content) lines) ≡ filled_standing (opening content lines)
  same_opening [] = refl
  same_opening (line ∷ lines) =
      ap (λ course. goes_on bare [] [] line.number course (map (filled_line content) lines)) (same_course nothing_bound line.command)
      ∙ same_going lines [] [] line.number (course_of content nothing_bound line.command)

  same_step : (standing : Standing) (reply : Reply) → after_reply bare (filled_standing standing) reply ≡ filled_standing (after_reply content standing reply)
  same_step standing reply = at standing.place
    where
      at : (place : Place) → after_reply_at bare (filled_standing standing) reply (filled_place place) ≡ filled_standing (after_reply_at content standing reply place)
      at (asking number call follows lines) = same_going lines (held_after call reply standing.held) standing.told number (follows reply)
      at ended = refl

  same_steps : (standing : Standing) (replies : List Reply)
      → fold (after_reply bare) (filled_standing standing) replies ≡ filled_standing (fold (after_reply content) standing replies)
  same_steps standing [] = refl
  same_steps standing (reply ∷ replies) =
      ap (λ after. fold (after_reply bare) after replies) (same_step standing reply) ∙ same_steps (after_reply content standing reply) replies

  same_stands : (lines : List Line) (replies : List Reply) → stands bare (map (filled_line content) lines) replies ≡ filled_standing (stands content lines replies)
  same_stands lines replies = ap (λ standing. fold (after_reply bare) standing replies) (same_opening lines) ∙ same_steps (opening content lines) replies

  same_next : (place : Place) → next_at (filled_place place) ≡ next_at place
  same_next (asking number call follows lines) = refl
  same_next ended = refl

-- what a caller does follows from its own lines with what their files hold, and its replies
pub own_lines_alone : OwnLinesAlone
own_lines_alone lines others contents other_contents caller replies same_lines =
    let here = standing_of lines contents caller replies in
    let there = standing_of others other_contents caller replies in
    let same : filled_standing (content_by other_contents) there ≡ filled_standing (content_by contents) here =
    sym (same_stands (content_by other_contents) (lines_of caller others) replies)
    ∙ ap (λ own. stands bare own replies) same_lines
    ∙ same_stands (content_by contents) (lines_of caller lines) replies
    in (
      sym (same_next (content_by other_contents) there.place) ∙ ap (λ standing. next_at standing.place) same ∙ same_next (content_by contents) here.place,
      ap (λ standing. standing.told) same,
      ap (λ standing. give_back_calls standing.held) same,
    )
