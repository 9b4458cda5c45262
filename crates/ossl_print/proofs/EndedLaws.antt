-- Once the lines of a caller are done, it has one result for each of them, in order.
use Rattle.std.proofs.Common.{◌≡◌, ℕ, List, [], ◌∷◌, ◌++◌, map, refl, sym, ◌∙◌, ap, append_assoc}
use Rattle.std.specs.List.{fold}
use Rattle.std.proofs.lemmas.List.{append-nil, map-append}
use Rattle.ossl_commands.specs.declared.command.Line.{Line}
use Rattle.ossl_state.specs.declared.call.Reply.{Reply}
use Rattle.ossl_script.specs.declared.caller.LineResult.{LineResult}
use Rattle.ossl_script.specs.declared.caller.Next.TheVariants as nexts
use Rattle.ossl_script.specs.declared.held.Held.{Held}
use Rattle.ossl_script.specs.Bindings.{nothing_bound}
use Rattle.ossl_script.specs.Caller.{Place, Standing, after_reply, after_reply_at, goes_on, line_result, lines_of, next_at, opening, stands}
use Rattle.ossl_script.specs.Caller.Place.{asking, ended}
use Rattle.ossl_script.specs.Commands.{course_of}
use Rattle.ossl_script.specs.Course.{Course}
use Rattle.ossl_script.specs.Course.Course.{ask, said}
use Rattle.ossl_script.specs.Given.{Content, content_by}
use Rattle.ossl_script.specs.Held.{held_after}
use Rattle.ossl_print.specs.Output.{EndedIsTold}

abbrev number_of_line : Line → ℕ
number_of_line line = line.number

abbrev number_of_result : LineResult → ℕ
number_of_result result = result.line

-- the numbers of the lines that have no result yet
abbrev left_at : Place → List ℕ
left_at (asking number call follows lines) = number ∷ map number_of_line lines
left_at ended = []

abbrev numbers_of : Standing → List ℕ
numbers_of standing = map number_of_result standing.told ++ left_at standing.place

-- the results and the lines left make the whole
going_on : (content : Content) (held : List Held) (told : List LineResult) (number : ℕ) (course : Course) (lines : List Line) →
    numbers_of (goes_on content held told number course lines) ≡ map number_of_result told ++ number ∷ map number_of_line lines
going_on content held told number (ask call follows) lines = refl
going_on content held told number (said outcome bindings) [] =
    append-nil (map number_of_result (told ++ line_result number outcome ∷ [])) ∙ map-append number_of_result told (line_result number outcome ∷ [])
going_on content held told number (said outcome bindings) (line ∷ lines) =
    going_on content held (told ++ line_result number outcome ∷ []) line.number (course_of content bindings line.command) lines
    ∙ ap (λ ns. ns ++ line.number ∷ map number_of_line lines) (map-append number_of_result told (line_result number outcome ∷ []))
    ∙ append_assoc (map number_of_result told) (number ∷ []) (line.number ∷ map number_of_line lines)

opened : (content : Content) (lines : List Line) → numbers_of (opening content lines) ≡ map number_of_line lines
opened content [] = refl
opened content (line ∷ lines) = going_on content [] [] line.number (course_of content nothing_bound line.command) lines

replied_at : (content : Content) (standing : Standing) (reply : Reply) (place : Place) → standing.place ≡ place →
    numbers_of (after_reply_at content standing reply place) ≡ numbers_of standing
replied_at content standing reply (asking number call follows lines) is =
    going_on content (held_after call reply standing.held) standing.told number (follows reply) lines
    ∙ ap (λ p. map number_of_result standing.told ++ left_at p) (sym is)
replied_at content standing reply ended is = refl

replied : (content : Content) (standing : Standing) (replies : List Reply) → numbers_of (fold (after_reply content) standing replies) ≡ numbers_of standing
replied content standing [] = refl
replied content standing (reply ∷ replies) =
    replied content (after_reply content standing reply) replies ∙ replied_at content standing reply standing.place refl

none_left : (place : Place) → next_at place ≡ nexts.End → left_at place ≡ []
none_left (asking number call follows lines) is = cc
none_left ended is = refl

pub ended_told : EndedIsTold
ended_told batch caller replies is =
    let content = content_by batch.contents in
    let own = lines_of caller batch.lines in
    let standing = stands content own replies in
    sym (append-nil (map number_of_result standing.told))
    ∙ ap (λ ns. map number_of_result standing.told ++ ns) (sym (none_left standing.place is))
    ∙ replied content (opening content own) replies ∙ opened content own
