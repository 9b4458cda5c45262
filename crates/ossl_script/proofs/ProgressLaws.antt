-- How far a caller comes with its lines.
use Rattle.std.proofs.Common.{◌≡◌, ℕ, zero, suc, ◌+◌, List, [], ◌∷◌, ◌++◌, drop, length, get_or, ◌-◌, arith, Some, None, Option, refl, sym, ap, ◌∙◌, subst, add-one}
use Rattle.ossl_state.specs.declared.call.Call.{Call}
use Rattle.ossl_state.specs.declared.call.Reply.{Reply}
use Rattle.ossl_commands.specs.declared.command.Line.{Line}
use Rattle.ossl_script.specs.declared.caller.LineResult.{LineResult}
use Rattle.ossl_script.specs.declared.held.Held.{Held}
use Rattle.ossl_script.specs.declared.outcome.Outcome.{Outcome}
use Rattle.ossl_script.specs.declared.progress.Progress.{Progress}
use Rattle.ossl_script.specs.declared.stage.Course.{Course as Left}
use Rattle.ossl_script.specs.declared.stage.Course.TheVariants as left
use Rattle.ossl_script.specs.Bindings.{Bindings}
use Rattle.ossl_script.specs.Caller.{Standing, goes_on, line_result}
use Rattle.ossl_script.specs.Caller.Place.{asking}
use Rattle.ossl_script.specs.Course.{Course}
use Rattle.ossl_script.specs.Course.Course.{ask, said}
use Rattle.ossl_script.specs.Given.{Content}
use Rattle.ossl_script.specs.Names.{Agree, Names}
use Rattle.std.specs.Prelude.{Result, Ok, Err, IfOk, slice_get}
use Rattle.std.proofs.Math.Seq.{get_or-append_seam}
use Rattle.std.proofs.lemmas.List.{length-append}
use Rattle.ossl_script.specs.declared.caller.Next.TheVariants as nexts
use Rattle.ossl_script.specs.Commands.{course_of}
use Rattle.ossl_script.specs.Progress.{Arrives, Moves, Ready, Settled, Steps, fed_in, from_here}
use Rattle.ossl_script.specs.Stages.{Leads, after}

-- a line that is done leads on from its result
told_on : (content : Content) (held : List Held) (told : List LineResult) (number : ℕ) (outcome : Outcome) (bindings : Bindings) (lines : List Line)
    → goes_on content held told number (said outcome bindings) lines ≡ from_here content held (told ++ line_result number outcome ∷ []) bindings lines
told_on content held told number outcome bindings [] = refl
told_on content held told number outcome bindings (line ∷ lines) = refl

-- what stands behind the first of what is left
next_of : (k : ℕ) (lines : List Line) (line : Line) (behind : List Line) → drop k lines ≡ line ∷ behind → drop (k + 1) lines ≡ behind
next_of k lines line behind h = ap (λ n. drop n lines) (add-one k) ∙ at k lines h
  where
    at : (k : ℕ) (lines : List Line) → drop k lines ≡ line ∷ behind → drop (suc k) lines ≡ behind
    at zero (x ∷ xs) h = cc
    at zero [] h = absurd cc
    at (suc k) (x ∷ xs) h = at k xs h
    at (suc k) [] h = absurd cc

pub steps : (content : Content) (lines : List Line) (mid new : Progress) (standing : Standing) (line : Line) (behind : List Line)
    (course : Left) (spec : Course) (call : Option Call)
    → drop mid.line lines ≡ line ∷ behind
    → Leads (fed_in content line) mid.names course spec
    → standing ≡ goes_on content standing.held mid.told.items line.number spec behind
    → Settled mid new line.number course call
    → Steps content lines new standing line call
steps content lines mid new standing line behind (left.Asks asked) spec (Some call) here leads stands settled =
    let there : standing ≡ goes_on content standing.held mid.told.items line.number (ask asked.call (after (fed_in content line) leads.bindings asked.stage)) behind =
    stands ∙ ap (λ (course : Course). goes_on content standing.held mid.told.items line.number course behind) leads.same in
    let same = settled.1 in
    record {
      bindings = leads.bindings;
      agree = subst (λ (p : Progress). Agree p.names leads.bindings) (sym same) leads.agree;
      stage = asked.stage;
      waits = ap (λ (p : Progress). p.stage) same;
      behind = behind;
      here = ap (λ (p : Progress). drop p.line lines) same ∙ here;
      told = ap (λ (s : Standing). s.told) there ∙ sym (ap (λ (p : Progress). p.told.items) same);
      stands = subst (λ (c : Call). standing.place ≡ asking line.number c (after (fed_in content line) leads.bindings asked.stage) behind) (sym settled.0)
          (ap (λ (s : Standing). s.place) there);
    }
steps content lines mid new standing line behind (left.Said outcome) spec None here leads stands settled =
    let there : standing ≡ from_here content standing.held (mid.told.items ++ line_result line.number outcome ∷ []) leads.bindings behind =
    stands ∙ ap (λ (course : Course). goes_on content standing.held mid.told.items line.number course behind) leads.same
    ∙ told_on content standing.held mid.told.items line.number outcome leads.bindings behind in
    let rest : drop new.line lines ≡ behind = ap (λ n. drop n lines) settled.3 ∙ next_of mid.line lines line behind here in
    record {
      bindings = leads.bindings;
      agree = subst (λ (names : Names). Agree names leads.bindings) (sym settled.1) leads.agree;
      idle = settled.2;
      stands = there
          ∙ ap (λ (told : List LineResult). from_here content standing.held told leads.bindings behind) (sym settled.0)
          ∙ ap (λ (left : List Line). from_here content standing.held new.told.items leads.bindings left) (sym rest);
    }
steps content lines mid new standing line behind (left.Asks asked) spec None here leads stands settled = absurd settled
steps content lines mid new standing line behind (left.Said outcome) spec (Some call) here leads stands settled = absurd settled

pub moves : (mid new : Progress) (number : ℕ) (course : Left) (call : Option Call) → Settled mid new number course call → Moves mid new call
moves mid new number (left.Asks asked) (Some call) settled = ap (λ (p : Progress). p.line) settled.1
moves mid new number (left.Said outcome) None settled = settled.3
moves mid new number (left.Asks asked) None settled = absurd settled
moves mid new number (left.Said outcome) (Some call) settled = absurd settled

-- what holds of an answer holds of it also so
pub if_ok : {T E : Type 0} (P Q : T → Type 0) (result : Result T E) → ((x : T) → P x → Q x) → IfOk result P → IfOk result Q
if_ok P Q (Ok x) h p = h x p
if_ok P Q (Err e) h p = p

-- the lines are at their end
pub arrived : (content : Content) (lines : List Line) (progress : Progress) (standing : Standing) → drop progress.line lines ≡ []
    → Ready content lines progress standing → Arrives content lines progress standing nexts.End
arrived content lines progress standing none ready =
    let there : standing ≡ from_here content standing.held progress.told.items ready.bindings [] =
    ready.stands ∙ ap (λ (left : List Line). from_here content standing.held progress.told.items ready.bindings left) none in
    (ap (λ (s : Standing). s.told) there, ap (λ (s : Standing). s.place) there)

-- a line that begins
pub begins : (content : Content) (lines : List Line) (progress : Progress) (standing : Standing) (line : Line) (behind : List Line)
    → drop progress.line lines ≡ line ∷ behind → (ready : Ready content lines progress standing)
    → standing ≡ goes_on content standing.held progress.told.items line.number (course_of content ready.bindings line.command) behind
begins content lines progress standing line behind here ready =
    ready.stands ∙ ap (λ (left : List Line). from_here content standing.held progress.told.items ready.bindings left) here

-- the line that stands at a place, before those behind it
pub here_of : (lines : List Line) (i : ℕ) (line : Line) → Some line ≡ slice_get lines i → drop i lines ≡ line ∷ drop (i + 1) lines
here_of lines i line is = at lines i is ∙ ap (λ n. line ∷ drop n lines) (sym (add-one i))
  where
    at : (lines : List Line) (i : ℕ) → Some line ≡ slice_get lines i → drop i lines ≡ line ∷ drop (suc i) lines
    at [] i is = absurd cc
    at (x ∷ xs) zero is = cc
    at (x ∷ xs) (suc i) is = at xs i is

-- where no line stands, none is left
pub none_left : (lines : List Line) (i : ℕ) → None ≡ slice_get lines i → drop i lines ≡ []
none_left [] zero is = refl
none_left [] (suc i) is = refl
none_left (x ∷ xs) zero is = absurd cc
none_left (x ∷ xs) (suc i) is = none_left xs i is

-- what stands at a place is the first of what is left there
pub first_left : (i : ℕ) (lines : List Line) (first line : Line) (behind : List Line) → drop i lines ≡ first ∷ behind
    → Some line ≡ slice_get lines i → line ≡ first
first_left zero (x ∷ xs) first line behind h is = cc
first_left zero [] first line behind h is = absurd cc
first_left (suc i) (x ∷ xs) first line behind h is = first_left i xs first line behind h is
first_left (suc i) [] first line behind h is = absurd cc

-- the last of these replies
pub last_reply : (replies earlier : List Reply) (reply : Reply) → replies ≡ earlier ++ reply ∷ [] → (d : Reply) → get_or replies (length replies - 1) d ≡ reply
last_reply replies earlier reply same d =
    let long : length replies ≡ length earlier + 1 = ap length same ∙ length-append earlier (reply ∷ []) in
    let last : length replies - 1 ≡ length earlier = omega (arith, long) in
    ap (λ (rs : List Reply). get_or rs (length replies - 1) d) same
    ∙ ap (λ n. get_or (earlier ++ reply ∷ []) n d) last
    ∙ get_or-append_seam earlier reply [] d
