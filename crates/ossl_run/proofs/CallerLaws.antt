-- Callers whose lines are done: what they are told by what they give back changes none of their results.
use Rattle.std.proofs.Common.{◌≡◌, ℕ, ◌+◌, ◌-◌, ◌<◌, ◌≤◌, zero, suc, nat_eq, List, [], ◌∷◌, ◌++◌, length, map, get_or, refl, sym, ◌∙◌, ap, subst, append_assoc, arith}
use Rattle.std.specs.List.{fold}
use Rattle.std.proofs.lemmas.List.{map-append}
use Rattle.std.proofs.lemmas.List.Elements.{filter-append}
use Rattle.std.proofs.lemmas.List.FromFn.{get_or-range_with_len}
use Rattle.std.proofs.lemmas.List.Sums.{fold-append}
use Rattle.ossl_base.specs.declared.entry.Entry.{Entry}
use Rattle.ossl_commands.specs.Counts.{callers_of}
use Rattle.ossl_script.specs.Caller.{Place, Standing, after_reply, after_reply_at, lines_of, next_at, opening, results_of as results_in}
use Rattle.ossl_script.specs.Caller.Place.{asking, ended}
use Rattle.ossl_script.specs.declared.caller.LineResult.{LineResult}
use Rattle.ossl_script.specs.declared.caller.Next.TheVariants as nexts
use Rattle.ossl_script.specs.Given.{Content, content_by}
use Rattle.ossl_script.specs.View.{printed_of}
use Rattle.ossl_state.specs.declared.call.Call.{Call}
use Rattle.ossl_state.specs.declared.call.Reply.{Reply}
use Rattle.ossl_state.specs.Tokens.{entries_of}
use Rattle.ossl_ordered.specs.declared.player.Player.{Player}
use Rattle.ossl_ordered.specs.Run.{own_numbers}
use Rattle.ossl_ordered.specs.Turns.{IsInTurn}
use Rattle.ossl_ordered.specs.Work.{AreAtWork, AreEnded, AreKept, IsAtWork}
use Rattle.ossl_ordered.proofs.DoneLaws.{ended_at}
use Rattle.ossl_print.specs.Batched.{Batch, next_of, replies_of, replies_to, results_of}
use Rattle.ossl_print.specs.Order.{history_number}
use Rattle.ossl_print.specs.Results.{IsEachTold, told_to}
use Rattle.ossl_print.proofs.EndedLaws.{ended_told}

-- a caller at its end stays where it stands
stays_at : (content : Content) (standing : Standing) (reply : Reply) (place : Place) → standing.place ≡ place → next_at standing.place ≡ nexts.End
    → after_reply_at content standing reply place ≡ standing
stays_at content standing reply (asking number call follows lines) same is =
    let bad : nexts.Call number call ≡ nexts.End = sym (ap next_at same) ∙ is in
    absurd cc
stays_at content standing reply ended same is = refl

ended_stays : (content : Content) (standing : Standing) (replies : List Reply) → next_at standing.place ≡ nexts.End → fold (after_reply content) standing replies ≡ standing
ended_stays content standing [] is = refl
ended_stays content standing (reply ∷ replies) is =
    ap (λ s. fold (after_reply content) s replies) (stays_at content standing reply standing.place refl is) ∙ ended_stays content standing replies is

pub ended_results : (batch : Batch) (caller : ℕ) (replies more : List Reply) → next_of batch caller replies ≡ nexts.End
    → results_of batch caller (replies ++ more) ≡ results_of batch caller replies
ended_results batch caller replies more is =
    let content = content_by batch.contents in
    let begin = opening content (lines_of caller batch.lines) in
    ap (λ (s : Standing). s.told) (fold-append (after_reply content) begin replies more ∙ ended_stays content (fold (after_reply content) begin replies) more is)

-- the replies to a caller in two parts
pub replies_parts : (c : ℕ) (one two : List (Entry Call Reply)) → replies_to c (one ++ two) ≡ replies_to c one ++ replies_to c two
replies_parts c one two =
    ap replies_of (filter-append (λ (e : Entry Call Reply). nat_eq e.caller c) one two) ∙ map-append (λ (e : Entry Call Reply). e.reply) (entries_of c one) (entries_of c two)

-- a caller of a batch stands under its own number
pub own_number : (batch : Batch) (c : ℕ) → 0 < c → c ≤ callers_of batch.lines → history_number (own_numbers batch) c ≡ c
own_number batch c some few =
    let place : c - 1 < callers_of batch.lines = omega (arith, some, few) in
    get_or-range_with_len 1 (callers_of batch.lines) (c - 1) 0 place ∙ (omega (arith, some))

-- the results of one more caller are taken from the callers that are left
pub results_more : {A : Type 0} (items : A → List LineResult) (done now : List A) (taken : A) (player : Player)
    (before left : List Player) (all : List (List LineResult)) → now ≡ done ++ taken ∷ []
    → items taken ≡ printed_of player.work → before ≡ player ∷ left
    → map items done ++ map (λ (p : Player). printed_of p.work) before ≡ all
    → map items now ++ map (λ (p : Player). printed_of p.work) left ≡ all
results_more items done now taken player before left all grown is first told =
    let printed : Player → List LineResult = λ p. printed_of p.work in
    ap (λ l. map items l ++ map printed left) grown
    ∙ ap (λ l. l ++ map printed left) (map-append items done (taken ∷ []))
    ∙ append_assoc (map items done) (items taken ∷ []) (map printed left)
    ∙ ap (λ rs. map items done ++ rs ∷ map printed left) is
    ∙ ap (λ l. map items done ++ map printed l) (sym first)
    ∙ told

pub ended_left : (player : Player) (before left : List Player) → before ≡ player ∷ left
    → AreEnded before → AreEnded left
ended_left player before left first are k other below =
    let all : AreEnded (player ∷ left) = subst AreEnded first are in
    all (suc k) other (omega (arith, below))

-- a value of a list of values of another
mapped_at : {X Y : Type 0} (f : X → Y) (xs : List X) (i : ℕ) (d : X) (e : Y) → i < length xs → get_or (map f xs) i e ≡ f (get_or xs i d)
mapped_at f [] i d e within = absurd (omega (arith, within))
mapped_at f (x ∷ xs) zero d e within = refl
mapped_at f (x ∷ xs) (suc i) d e within = mapped_at f xs i d e (omega (arith, within))

some_player : (players : List Player) (i : ℕ) → i < length players → Player
some_player [] i within = absurd (omega (arith, within))
some_player (p ∷ players) i within = p

module _ (batch : Batch) (contexts : ℕ) (list : List ℕ) (opening turns returning before : List (Entry Call Reply)) (ran left : List Player)
    (at : AreAtWork batch contexts opening turns before ran) (kept : AreKept ran left) (in_turn : IsInTurn batch list [] turns) where
  -- how many callers there are
  pub each_left : length left ≡ callers_of batch.lines
  each_left = kept.0 ∙ at.each

  module _ (c : ℕ) (some : 0 < c) (few : c ≤ length left) where
    inside : c ≤ callers_of batch.lines
    inside = omega (arith, few, each_left)

    here : c - 1 < length ran
    here = omega (arith, some, few, kept.0)

    number : c - 1 + 1 ≡ c
    number = omega (arith, some)

    player : Player
    player = some_player ran (c - 1) here

    now : next_of batch c (replies_to c turns) ≡ nexts.End
    now = ended_at batch c list turns some inside in_turn

    work : IsAtWork batch c turns (get_or ran (c - 1) player)
    work = subst (λ n. IsAtWork batch n turns (get_or ran (c - 1) player)) number (at.work (c - 1) player here)

    -- what is printed of its lines
    printed_turns : printed_of (get_or left (c - 1) player).work ≡ results_of batch c (replies_to c turns)
    printed_turns =
        ap printed_of (kept.1 (c - 1) player here).work
        ∙ (work.speaks (get_or ran (c - 1) player).work.replies).1
        ∙ ap (λ n. results_in batch.lines batch.contents n (get_or ran (c - 1) player).work.replies) work.same
        ∙ ap (λ r. results_in batch.lines batch.contents c r) work.replies

    told_turns : told_to (map (λ (p : Player). printed_of p.work) left) c ≡ results_of batch c (replies_to c turns)
    told_turns =
        mapped_at (λ (p : Player). printed_of p.work) left (c - 1) player [] (omega (arith, some, few)) ∙ printed_turns

    pub told_after : told_to (map (λ (p : Player). printed_of p.work) left) c ≡ results_of batch c (replies_to (history_number (own_numbers batch) c) (turns ++ returning))
    told_after =
        told_turns
        ∙ sym (ended_results batch c (replies_to c turns) (replies_to c returning) now)
        ∙ ap (results_of batch c) (sym (replies_parts c turns returning) ∙ ap (λ n. replies_to n (turns ++ returning)) (sym (own_number batch c some inside)))

    pub each_told : IsEachTold batch.lines c (told_to (map (λ (p : Player). printed_of p.work) left) c)
    each_told = subst (λ rs. IsEachTold batch.lines c rs) (sym told_turns) (ended_told batch c (replies_to c turns) now)
