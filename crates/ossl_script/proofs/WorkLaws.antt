-- A caller at work: the tokens that it gives back, and where it stands at its start and after a reply.
use Rattle.std.proofs.Common.{◌≡◌, ℕ, Bool, true, false, nat_eq, zero, suc, ◌-◌, ◌<◌, List, [], ◌∷◌, ◌++◌, map, length, take, drop, Option, Some, None, refl, sym, ap, ◌∙◌, subst, append_assoc, arith}
use Rattle.std.specs.Prelude.{IfOk, IfSome, Ok, OnOk, Result, Vec, cond, is_some, option_map, vec_capacity, vec_len}
use Rattle.std.specs.declared.alloc.Global.{Global}
use Rattle.std.proofs.lemmas.Bool.{true≢false}
use Rattle.std.proofs.lemmas.List.{append-nil, length-append, map-append}
use Rattle.std.proofs.Math.Seq.{take-append_seam}
use Rattle.ossl_state.specs.declared.call.Call.{Call}
use Rattle.ossl_state.specs.declared.call.Call.TheVariants as calls
use Rattle.ossl_state.specs.declared.call.Reply.{Reply}
use Rattle.ossl_commands.specs.declared.command.Line.{Line}
use Rattle.ossl_script.specs.declared.bound.Bound.{Bound}
use Rattle.ossl_script.specs.declared.caller.LineResult.{LineResult}
use Rattle.ossl_script.specs.declared.caller.Next.{Next}
use Rattle.ossl_script.specs.declared.caller.Next.TheVariants as nexts
use Rattle.ossl_script.specs.declared.held.Held.{Held}
use Rattle.ossl_script.specs.declared.progress.Progress.{Progress}
use Rattle.ossl_script.specs.declared.script_caller.ScriptCaller.TheInside.{Inside}
use Rattle.ossl_script.specs.declared.stage.Stage.{Stage}
use Rattle.ossl_script.specs.declared.tokens.Place.{Place}
use Rattle.ossl_script.specs.Bindings.{nothing_bound}
use Rattle.ossl_script.specs.Caller.{Place as At, Standing, after_reply, after_reply_at, call_in, goes_on, lines_of, next_at, opening, standing_of, stands}
use Rattle.ossl_script.specs.Given.{Content, content_by}
use Rattle.ossl_script.specs.Held.{give_back_call, give_back_calls, handed_out, held_after, left_by, with_handed, without_texts}
use Rattle.ossl_script.specs.Names.{Agree, Names, StandsFor, bound_at}
use Rattle.ossl_script.specs.Places.{Ascends, held_in}
use Rattle.ossl_script.specs.Progress.{Arrives, Asked, HasLine, Ready, Stands, StandsAt, fed_in, from_here}
use Rattle.ossl_script.specs.Stages.{after}
use Rattle.ossl_script.specs.View.{Gives, GoesOn, ScriptCallerView, SpeaksFor, answered, fresh, is_call, is_end, next_of, stopped, told}
use Rattle.ossl_script.specs.Work.{Works, spent, standing_in, view_of}
use Rattle.ossl_script.proofs.HeldLaws.{goes_by_reply, goes_on-held, opening-held}

none_some : (call : Call) → ◌≡◌ {A = Option Call} None (Some call) → ⊥
none_some call h = cc

some_same : (call other : Call) → Some call ≡ Some other → call ≡ other
some_same call other h = cc

is_called : (next : Next) → is_some (option_map without_texts (call_in next)) ≡ is_call next
is_called (nexts.Call line call) = refl
is_called nexts.End = refl

-- 1. Tokens that were given back, and those that are left.

spent_gone : (gone left : List Held) → spent (gone ++ left) left ≡ gone
spent_gone gone left =
    let count : length (gone ++ left) - length left ≡ length gone = omega (arith, length-append gone left) in
    ap (λ n. take n (gone ++ left)) count ∙ take-append_seam gone left

pub given_of : (all gone left : List Held) → all ≡ gone ++ left → map give_back_call (spent all left) ≡ map give_back_call gone
given_of all gone left same =
    ap (λ (xs : List Held). map give_back_call (spent xs left)) same ∙ ap (λ (xs : List Held). map give_back_call xs) (spent_gone gone left)

none_gone : (gone : List Held) → map give_back_call gone ≡ [] → gone ≡ []
none_gone [] h = refl
none_gone (x ∷ xs) h = absurd cc

-- where nothing was given back, all is left
pub all_left_of : (all gone left : List Held) → all ≡ gone ++ left → map give_back_call (spent all left) ≡ [] → all ≡ left
all_left_of all gone left same none =
    same ∙ ap (λ (xs : List Held). xs ++ left) (none_gone gone (sym (given_of all gone left same) ∙ none))

-- where all is left, nothing was given back
pub none_given : (all left : List Held) → all ≡ left → map give_back_call (spent all left) ≡ []
none_given all left same = given_of all [] left same

-- one token more is given back
pub one_gone : (all gone left less : List Held) (token : Held) → all ≡ gone ++ left → left ≡ token ∷ less → all ≡ (gone ++ token ∷ []) ++ less
one_gone all gone left less token same taken =
    same ∙ ap (λ (xs : List Held). gone ++ xs) taken ∙ sym (append_assoc gone (token ∷ []) less)

pub one_given : (all gone left less : List Held) (token : Held) → all ≡ gone ++ left → left ≡ token ∷ less
    → map give_back_call (spent all less) ≡ map give_back_call (spent all left) ++ give_back_call token ∷ []
one_given all gone left less token same taken =
    given_of all (gone ++ token ∷ []) less (one_gone all gone left less token same taken)
    ∙ map-append give_back_call gone (token ∷ [])
    ∙ ap (λ (calls : List Call). calls ++ give_back_call token ∷ []) (sym (given_of all gone left same))

-- those that are left are given back behind it
pub still_given : (all gone left less : List Held) (token : Held) → all ≡ gone ++ left → left ≡ token ∷ less
    → map give_back_call (spent all left) ++ give_back_call token ∷ map give_back_call less ≡ map give_back_call all
still_given all gone left less token same taken =
    ap (λ (calls : List Call). calls ++ give_back_call token ∷ map give_back_call less) (given_of all gone left same)
    ∙ sym (map-append give_back_call gone (token ∷ less))
    ∙ ap (λ (xs : List Held). map give_back_call xs) (sym (same ∙ ap (λ (xs : List Held). gone ++ xs) taken))

-- where none is left, all was given back
pub all_given : (all gone left : List Held) → all ≡ gone ++ left → left ≡ [] → map give_back_call (spent all left) ≡ map give_back_call all
all_given all gone left same none =
    given_of all gone left same
    ∙ ap (λ (xs : List Held). map give_back_call xs) (sym (same ∙ ap (λ (xs : List Held). gone ++ xs) none ∙ append-nil gone))

-- 2. A reply to the call that waits.

handed_without : (call : Call) (reply : Reply) → handed_out call reply ≡ handed_out (without_texts call) reply
handed_without (calls.Load l name retain) reply = refl
handed_without (calls.Unload t) reply = refl
handed_without (calls.SetDefault l query) reply = refl
handed_without (calls.Fetch l op name query) reply = refl
handed_without (calls.UpRef h) reply = refl
handed_without (calls.Free h) reply = refl
handed_without (calls.NewCtx h inner len) reply = refl
handed_without (calls.FreeCtx h) reply = refl
handed_without (calls.CloseLib l) reply = refl

left_without : (call : Call) (reply : Reply) (held : List Held) → left_by call reply held ≡ left_by (without_texts call) reply held
left_without (calls.Load l name retain) reply held = refl
left_without (calls.Unload t) reply held = refl
left_without (calls.SetDefault l query) reply held = refl
left_without (calls.Fetch l op name query) reply held = refl
left_without (calls.UpRef h) reply held = refl
left_without (calls.Free h) reply held = refl
left_without (calls.NewCtx h inner len) reply held = refl
left_without (calls.FreeCtx h) reply held = refl
left_without (calls.CloseLib l) reply held = refl

-- the texts of a call change no token
held_without : (call : Call) (reply : Reply) (held : List Held) → held_after call reply held ≡ held_after (without_texts call) reply held
held_without call reply held =
    ap (λ (token : Option Held). with_handed token (left_by call reply held)) (handed_without call reply)
    ∙ ap (λ (left : List Held). with_handed (handed_out (without_texts call) reply) left) (left_without call reply held)

less_of : (k : ℕ) (lines : List Line) (line : Line) (behind : List Line) → drop k lines ≡ line ∷ behind → k < length lines
less_of zero (x ∷ xs) line behind h = omega arith
less_of zero [] line behind h = absurd cc
less_of (suc k) (x ∷ xs) line behind h = omega (arith, less_of k xs line behind h)
less_of (suc k) [] line behind h = absurd cc

module _ (content : Content) (lines : List Line) (progress : Progress) (standing later : Standing) (line : Line) (call : Call) (reply : Reply)
    (asked : Asked content lines progress standing line call) (same : later ≡ after_reply content standing reply) where
  goes : later ≡ goes_on content (held_after call reply standing.held) progress.told.items line.number (after (fed_in content line) asked.bindings asked.stage reply) asked.behind
  goes =
      same
      ∙ ap (λ (place : At). after_reply_at content standing reply place) asked.stands
      ∙ ap (λ (told : List LineResult). goes_on content (held_after call reply standing.held) told line.number (after (fed_in content line) asked.bindings asked.stage reply) asked.behind) asked.told

  -- what is held later
  pub held_then : later.held ≡ held_after call reply standing.held
  held_then =
      ap (λ (s : Standing). s.held) goes
      ∙ goes_on-held content asked.behind (held_after call reply standing.held) progress.told.items line.number (after (fed_in content line) asked.bindings asked.stage reply)

  -- the line is answered
  pub stands_then : (replies : List Reply) → Stands content lines (replies ++ reply ∷ []) progress later
  stands_then replies =
      subst (λ (s : Option Stage). StandsAt content lines (replies ++ reply ∷ []) progress later s) (sym asked.waits) (
        line,
        asked.behind,
        replies,
        reply,
        asked.here,
        refl,
        record {
          bindings = asked.bindings;
          agree = asked.agree;
          stands = goes
              ∙ ap (λ (held : List Held). goes_on content held progress.told.items line.number (after (fed_in content line) asked.bindings asked.stage reply) asked.behind)
              (sym held_then);
        },
      )

  pub line_then : (replies : List Reply) → HasLine progress lines (replies ++ reply ∷ [])
  line_then replies =
      subst (λ (s : Option Stage). IfSome s (λ stage. (progress.line < length lines) × (0 < length (replies ++ reply ∷ [])))) (sym asked.waits)
      (less_of progress.line lines line asked.behind asked.here, omega (arith, length-append replies (reply ∷ [])))

-- 3. The start.

opened : (content : Content) (lines : List Line) → opening content lines ≡ from_here content [] [] nothing_bound lines
opened content [] = refl
opened content (line ∷ lines) = refl

-- the first line is to begin
pub ready_first : (content : Content) (lines : List Line) (progress : Progress) (standing : Standing) → standing ≡ opening content lines
    → Agree progress.names nothing_bound → progress.stage ≡ None → progress.told.items ≡ [] → progress.line ≡ 0
    → Ready content lines progress standing
ready_first content lines progress standing same agree idle told first = record {
  bindings = nothing_bound;
  agree = agree;
  idle = idle;
  stands = same ∙ opened content lines
      ∙ ap (λ (held : List Held). from_here content held [] nothing_bound lines) (sym (ap (λ (s : Standing). s.held) same ∙ opening-held content lines))
      ∙ ap (λ (results : List LineResult). from_here content standing.held results nothing_bound lines) (sym told)
      ∙ ap (λ (k : ℕ). from_here content standing.held progress.told.items nothing_bound (drop k lines)) (sym first);
}

-- 4. What is kept, from call to call.

abbrev given_in : Inside → List Call
given_in s = (view_of s).given

-- other places, with what is left behind these tokens
pub works_with_places : (s : Inside) (places : Vec Place Global) (gone : List Held) → Works s
    → Ascends places.items → (standing_in s).held ≡ gone ++ held_in places.items
    → (vec_len s.places < vec_capacity s.places → vec_len places < vec_capacity places)
    → Works (record s { places = places })
works_with_places s places gone works ascends held room = record {
  holds = record { ascends = ascends; gone = gone; held = held };
  waits = λ call unrefused is. let w = works.waits call unrefused is in record { line = w.line; call = w.call; same = w.same; asked = w.asked; place = room w.place; reply = w.reply };
  between = λ unrefused going is. let b = works.between unrefused going is in record { stands = b.stands; line = b.line };
  done = λ ends. let e = works.done ends in record { told = e.told; place = e.place; idle = e.idle };
}

-- after a reply

pub standing_answered : (s : Inside) (replies : List Reply) (reply : Reply) → replies ≡ s.replies.items ++ reply ∷ []
    → stands (content_by s.contents.items) (lines_of s.caller s.lines) replies ≡ after_reply (content_by s.contents.items) (standing_in s) reply
standing_answered s replies reply taken =
    ap (λ (rs : List Reply). stands (content_by s.contents.items) (lines_of s.caller s.lines) rs) taken
    ∙ goes_by_reply s.lines s.contents.items s.caller s.replies.items reply

module _ (s : Inside) (asked : Option Call) (places : Vec Place Global) (replies : Vec Reply Global) (call : Call) (reply : Reply)
    (works : Works s) (unrefused : s.refused ≡ false) (waits : s.asked ≡ Some call) (none : given_in s ≡ [])
    (idle : asked ≡ None) (ascends : Ascends places.items) (held : held_in places.items ≡ held_after call reply (held_in s.places.items))
    (taken : replies.items ≡ s.replies.items ++ reply ∷ []) where
  abbrev later : Standing
  later = stands (content_by s.contents.items) (lines_of s.caller s.lines) replies.items

  left : later.held ≡ held_in places.items
  left =
      let w = works.waits call unrefused waits in
      held_then (content_by s.contents.items) s.lines s.progress (standing_in s) later w.line w.call reply w.asked (standing_answered s replies.items reply taken)
      ∙ ap (λ (all : List Held). held_after w.call reply all) (all_left_of (standing_in s).held works.holds.gone (held_in s.places.items) works.holds.held none)
      ∙ held_without w.call reply (held_in s.places.items)
      ∙ ap (λ (kept : Call). held_after kept reply (held_in s.places.items)) (sym w.same)
      ∙ sym held

  pub works_answered : Works (record s { asked = asked; places = places; replies = replies })
  works_answered =
      let content = content_by s.contents.items in
      let w = works.waits call unrefused waits in
      let step = standing_answered s replies.items reply taken in
      record {
        holds = record { ascends = ascends; gone = []; held = left };
        waits = λ other unrefused is. absurd (none_some other (sym idle ∙ is));
        between = λ unrefused going is. record {
          stands = subst (λ (rs : List Reply). Stands content s.lines rs s.progress later) (sym taken)
              (stands_then content s.lines s.progress (standing_in s) later w.line w.call reply w.asked step s.replies.items);
          line = subst (λ (rs : List Reply). HasLine s.progress s.lines rs) (sym taken)
              (line_then content s.lines s.progress (standing_in s) later w.line w.call reply w.asked step s.replies.items);
        };
        done = λ ends. absurd (none_some call (sym (works.done ends).idle ∙ waits));
      }

  pub view_answered : view_of (record s { asked = asked; places = places; replies = replies }) ≡ answered reply (view_of s)
  view_answered =
      let given : map give_back_call (spent later.held (held_in places.items)) ≡ given_in s = none_given later.held (held_in places.items) left ∙ sym none in
      let waiting : is_some asked ≡ false = ap (λ (o : Option Call). is_some o) idle in
      cc

-- after it was told what comes next

none_kept : (asked : Option Call) (other : Call) → asked ≡ None → asked ≡ Some other → ⊥
none_kept asked other none some = none_some other (sym none ∙ some)

module _ (s : Inside) (progress : Progress) (replies : Vec Reply Global) (places : Vec Place Global) (asked : Option Call) (works : Works s)
    (same_replies : replies.items ≡ s.replies.items) (same_places : places.items ≡ s.places.items) where
  abbrev now : Standing
  now = stands (content_by s.contents.items) (lines_of s.caller s.lines) replies.items

  same_standing : now ≡ standing_in s
  same_standing = ap (λ (rs : List Reply). stands (content_by s.contents.items) (lines_of s.caller s.lines) rs) same_replies

  same_given : map give_back_call (spent now.held (held_in places.items)) ≡ given_in s
  same_given =
      ap (λ (standing : Standing). map give_back_call (spent standing.held (held_in places.items))) same_standing
      ∙ ap (λ (ps : List Place). map give_back_call (spent (standing_in s).held (held_in ps))) same_places

  still_held : now.held ≡ works.holds.gone ++ held_in places.items
  still_held =
      ap (λ (standing : Standing). standing.held) same_standing ∙ works.holds.held
      ∙ ap (λ (ps : List Place). works.holds.gone ++ held_in ps) (sym same_places)

  still_ascends : Ascends places.items
  still_ascends = subst (λ (ps : List Place). Ascends ps) (sym same_places) works.holds.ascends

  pub works_stopped : s.ended ≡ false → Works (record s { progress = progress; replies = replies; places = places; asked = asked; refused = true })
  works_stopped going = record {
    holds = record { ascends = still_ascends; gone = works.holds.gone; held = still_held };
    waits = λ call unrefused is. absurd (true≢false unrefused);
    between = λ unrefused going is. absurd (true≢false unrefused);
    done = λ ends. absurd (true≢false (sym ends ∙ going));
  }

  pub view_stopped : asked ≡ None → s.asked ≡ None
      → view_of (record s { progress = progress; replies = replies; places = places; asked = asked; refused = true }) ≡ stopped (view_of s)
  view_stopped idle was =
      let given = same_given in
      let waiting : is_some asked ≡ is_some s.asked = ap (λ (o : Option Call). is_some o) (idle ∙ sym was) in
      cc

  pub works_told : (ended : Bool) (next : Next) → asked ≡ option_map without_texts (call_in next) → ended ≡ is_end next
      → IfSome asked (λ call. vec_len places < vec_capacity places) → IfSome asked (λ call. vec_len replies < vec_capacity replies)
      → Arrives (content_by s.contents.items) s.lines progress (standing_in s) next
      → Works (record s { progress = progress; replies = replies; places = places; asked = asked; ended = ended })
  works_told ended (nexts.Call number call) asks ends place reply arrives = record {
    holds = record { ascends = still_ascends; gone = works.holds.gone; held = still_held };
    waits = λ other unrefused is.
        record {
          line = arrives.0;
          call = call;
          same = sym (some_same (without_texts call) other (sym asks ∙ is));
          asked = subst (λ (standing : Standing). Asked (content_by s.contents.items) s.lines progress standing arrives.0 call) (sym same_standing) arrives.2;
          place = subst (λ (o : Option Call). IfSome o (λ one. vec_len places < vec_capacity places)) is place;
          reply = subst (λ (o : Option Call). IfSome o (λ one. vec_len replies < vec_capacity replies)) is reply;
        };
    between = λ unrefused going is. absurd (none_some (without_texts call) (sym is ∙ asks));
    done = λ ended_now. absurd (true≢false (sym ended_now ∙ ends));
  }
  works_told ended nexts.End asks ends place reply arrives = record {
    holds = record { ascends = still_ascends; gone = works.holds.gone; held = still_held };
    waits = λ other unrefused is. absurd (none_some other (sym asks ∙ is));
    between = λ unrefused going is. absurd (true≢false (sym ends ∙ going));
    done = λ ended_now. record {
      told = ap (λ (standing : Standing). standing.told) same_standing ∙ arrives.0;
      place = ap (λ (standing : Standing). standing.place) same_standing ∙ arrives.1;
      idle = asks;
    };
  }

  pub view_told : (ended : Bool) (next : Next) → asked ≡ option_map without_texts (call_in next) → ended ≡ is_end next
      → view_of (record s { progress = progress; replies = replies; places = places; asked = asked; ended = ended }) ≡ told next (view_of s)
  view_told ended next asks ends =
      let given = same_given in
      let waiting : is_some asked ≡ is_call next = ap (λ (o : Option Call). is_some o) asks ∙ is_called next in
      cc

-- the call that comes next is the one that is meant
pub next_told : (s : Inside) (progress : Progress) (next : Next)
    → Arrives (content_by s.contents.items) s.lines progress (standing_in s) next → next ≡ next_of (view_of s)
next_told s progress (nexts.Call number call) arrives =
    ap (λ (n : ℕ). nexts.Call n call) (sym arrives.1) ∙ sym (ap (λ (place : At). next_at place) arrives.2.stands)
next_told s progress nexts.End arrives = sym (ap (λ (place : At). next_at place) arrives.1)

-- 5. Before the first line.

-- the lines of a caller are its own
own_twice : (caller : ℕ) (lines : List Line) → lines_of caller (lines_of caller lines) ≡ lines_of caller lines
own_twice caller [] = refl
own_twice caller (line ∷ lines) = at (own_twice caller lines) (nat_eq line.caller caller) refl
  where
    at : lines_of caller (lines_of caller lines) ≡ lines_of caller lines → (is : Bool) → nat_eq line.caller caller ≡ is
        → lines_of caller (cond is (line ∷ lines_of caller lines) (lines_of caller lines)) ≡ cond is (line ∷ lines_of caller lines) (lines_of caller lines)
    at rest true same =
        ap (λ (b : Bool). cond b (line ∷ lines_of caller (lines_of caller lines)) (lines_of caller (lines_of caller lines))) same
        ∙ ap (λ (xs : List Line). line ∷ xs) rest
    at rest false same = rest

-- whoever owns its lines of a batch speaks for its number
pub speaks : (all : List Line) (contents : List (List ℕ)) (view : ScriptCallerView) → view.lines ≡ lines_of view.caller all → view.contents ≡ contents
    → SpeaksFor all contents view
speaks all contents view lines same replies =
    let there : standing_of view.lines view.contents view.caller replies ≡ standing_of all contents view.caller replies =
    ap (λ (kept : List (List ℕ)). standing_of view.lines kept view.caller replies) same
    ∙ ap (λ (own : List Line). stands (content_by contents) own replies) (ap (λ (own : List Line). lines_of view.caller own) lines ∙ own_twice view.caller all) in
    (ap (λ (s : Standing). next_at s.place) there, ap (λ (s : Standing). s.told) there, ap (λ (s : Standing). give_back_calls s.held) there)

empty_at : (names : Names) → names.entries ≡ [] → (name : List ℕ) → bound_at names name ≡ None
empty_at names empty name = rw empty refl

agree_empty : (names : Names) → names.entries ≡ [] → Agree names nothing_bound
agree_empty names empty = record { at = λ name. subst (λ (o : Option Bound). StandsFor o None) (sym (empty_at names empty name)) tt }

ascends_none : (places : List Place) → places ≡ [] → Ascends places
ascends_none places none = subst (λ (ps : List Place). Ascends ps) (sym none) (λ i j d below within. absurd (omega (arith, within)))

module _ (s : Inside) (all : List Line) (lines : s.lines ≡ lines_of s.caller all)
    (replies : s.replies.items ≡ []) (places : s.places.items ≡ []) where
  first : standing_in s ≡ opening (content_by s.contents.items) s.lines
  first =
      ap (λ (rs : List Reply). stands (content_by s.contents.items) (lines_of s.caller s.lines) rs) replies
      ∙ ap (λ (own : List Line). opening (content_by s.contents.items) own)
      (ap (λ (own : List Line). lines_of s.caller own) lines ∙ own_twice s.caller all ∙ sym lines)

  none_held : (standing_in s).held ≡ held_in s.places.items
  none_held =
      ap (λ (standing : Standing). standing.held) first ∙ opening-held (content_by s.contents.items) s.lines
      ∙ ap (λ (ps : List Place). held_in ps) (sym places)

  pub works_first : s.progress.told.items ≡ [] → s.progress.names.entries ≡ [] → s.progress.stage ≡ None → s.progress.line ≡ 0 → s.asked ≡ None → s.ended ≡ false
      → Works s
  works_first told names stage line idle going = record {
    holds = record { ascends = ascends_none s.places.items places; gone = []; held = none_held };
    waits = λ call unrefused is. absurd (none_some call (sym idle ∙ is));
    between = λ unrefused going_on is. record {
      stands = subst (λ (at : Option Stage). StandsAt (content_by s.contents.items) s.lines s.replies.items s.progress (standing_in s) at) (sym stage)
          (ready_first (content_by s.contents.items) s.lines s.progress (standing_in s) first (agree_empty s.progress.names names) stage told line);
      line = subst (λ (at : Option Stage). IfSome at (λ one. (s.progress.line < length s.lines) × (0 < length s.replies.items))) (sym stage) tt;
    };
    done = λ ends. absurd (true≢false (sym ends ∙ going));
  }

  pub view_fresh : s.asked ≡ None → s.ended ≡ false → s.refused ≡ false → view_of s ≡ fresh s.lines s.contents.items s.caller
  view_fresh idle going unrefused =
      let given : given_in s ≡ [] = none_given (standing_in s).held (held_in s.places.items) none_held in
      let waiting : is_some s.asked ≡ false = ap (λ (o : Option Call). is_some o) idle in
      cc

-- 6. What a caller asks of the laws above.

asked_of : (asked : Option Call) → is_some asked ≡ true → (call : Call) × (asked ≡ Some call)
asked_of (Some call) is = (call, refl)
asked_of None is = absurd (true≢false (sym is))

asked_none : (asked : Option Call) → is_some asked ≡ false → asked ≡ None
asked_none (Some call) is = absurd (true≢false is)
asked_none None is = refl

-- there is room for a token and for a reply, where a call waits
pub room_for_token : (s : Inside) → Works s → s.refused ≡ false → IfSome s.asked (λ call. vec_len s.places < vec_capacity s.places)
room_for_token s works unrefused = at s.asked refl
  where
    at : (asked : Option Call) → s.asked ≡ asked → IfSome asked (λ call. vec_len s.places < vec_capacity s.places)
    at None is = tt
    at (Some call) is = (works.waits call unrefused is).place

pub room_for_reply : (s : Inside) → Works s → s.refused ≡ false → IfSome s.asked (λ call. vec_len s.replies < vec_capacity s.replies)
room_for_reply s works unrefused = at s.asked refl
  where
    at : (asked : Option Call) → s.asked ≡ asked → IfSome asked (λ call. vec_len s.replies < vec_capacity s.replies)
    at None is = tt
    at (Some call) is = (works.waits call unrefused is).reply

module _ (s : Inside) (asked : Option Call) (places : Vec Place Global) (replies : Vec Reply Global) (reply : Reply)
    (works : Works s) (goes_on : GoesOn (view_of s) true) (idle : asked ≡ None) (ascends : Ascends places.items)
    (held : IfSome s.asked (λ call. held_in places.items ≡ held_after call reply (held_in s.places.items)))
    (taken : IfSome s.asked (λ call. replies.items ≡ s.replies.items ++ reply ∷ [])) where
  pub works_after_reply : Works (record s { asked = asked; places = places; replies = replies })
  works_after_reply =
      let w = asked_of s.asked goes_on.waiting in
      works_answered s asked places replies w.0 reply works goes_on.unrefused w.1 goes_on.keeps idle ascends
      (subst (λ (o : Option Call). IfSome o (λ call. held_in places.items ≡ held_after call reply (held_in s.places.items))) w.1 held)
      (subst (λ (o : Option Call). IfSome o (λ call. replies.items ≡ s.replies.items ++ reply ∷ [])) w.1 taken)

  pub view_after_reply : view_of (record s { asked = asked; places = places; replies = replies }) ≡ answered reply (view_of s)
  view_after_reply =
      let w = asked_of s.asked goes_on.waiting in
      view_answered s asked places replies w.0 reply works goes_on.unrefused w.1 goes_on.keeps idle ascends
      (subst (λ (o : Option Call). IfSome o (λ call. held_in places.items ≡ held_after call reply (held_in s.places.items))) w.1 held)
      (subst (λ (o : Option Call). IfSome o (λ call. replies.items ≡ s.replies.items ++ reply ∷ [])) w.1 taken)

-- it comes from where the caller stands
pub arrives_here : (s : Inside) (progress : Progress) (contents : List (List ℕ)) (lines : List Line) (next : Next)
    → Works s → GoesOn (view_of s) false → s.ended ≡ false → contents ≡ s.contents.items → lines ≡ s.lines
    → ((standing : Standing) → Stands (content_by contents) lines s.replies.items s.progress standing → Arrives (content_by contents) lines progress standing next)
    → Arrives (content_by s.contents.items) s.lines progress (standing_in s) next
arrives_here s progress contents lines next works goes_on going same_contents same_lines arrives =
    let b = works.between goes_on.unrefused going (asked_none s.asked goes_on.waiting) in
    subst (λ (ls : List Line). Arrives (content_by s.contents.items) ls progress (standing_in s) next) same_lines
    (subst (λ (cs : List (List ℕ)). Arrives (content_by cs) lines progress (standing_in s) next) same_contents
    (arrives (standing_in s)
    (subst (λ (cs : List (List ℕ)). Stands (content_by cs) lines s.replies.items s.progress (standing_in s)) (sym same_contents)
    (subst (λ (ls : List Line). Stands (content_by s.contents.items) ls s.replies.items s.progress (standing_in s)) (sym same_lines) b.stands))))

-- the newest token that is left is given back
pub gives : (s : Inside) (places : Vec Place Global) (token : Held) (call : Call) → Works s → held_in s.places.items ≡ token ∷ held_in places.items
    → call ≡ give_back_call token → Gives (view_of s) (Some call) (view_of (record s { places = places }))
gives s places token call works taken is =
    let all : List Held = (standing_in s).held in
    let gone : List Held = works.holds.gone in
    let given = one_given all gone (held_in s.places.items) (held_in places.items) token works.holds.held taken in
    subst (λ (c : Call). Gives (view_of s) (Some c) (view_of (record s { places = places }))) (sym is) (
      ap (λ (calls : List Call). let v : ScriptCallerView = record (view_of s) { given = calls } in v) given,
      (
        map give_back_call (held_in places.items),
        still_given all gone (held_in s.places.items) (held_in places.items) token works.holds.held taken,
      ),
    )

-- 7. An answer that is this one.

pub if_ok_at : {T E : Type 0} (P : T → Type 0) (result : Result T E) (x : T) → result ≡ Ok x → IfOk result P → P x
if_ok_at {T} {E} P result x is h = subst (λ (r : Result T E). IfOk r P) is h

pub on_ok_at : {T E : Type 0} (P : Type 0) (result : Result T E) (x : T) → result ≡ Ok x → OnOk result P → P
on_ok_at {T} {E} P result x is h = subst (λ (r : Result T E). OnOk r P) is h

pub if_ok_from : {T E : Type 0} (P : T → Type 0) (result : Result T E) (x : T) → result ≡ Ok x → P x → IfOk result P
if_ok_from {T} {E} P result x is h = subst (λ (r : Result T E). IfOk r P) (sym is) h
