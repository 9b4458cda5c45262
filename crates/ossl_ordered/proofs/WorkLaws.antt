-- Callers at work: one that takes a turn, and the others.
use Rattle.std.proofs.Common.{◌≡◌, ◌⊎◌, ℕ, ◌+◌, ◌<◌, ◌≤◌, false, nat_eq, List, [], ◌∷◌, ◌++◌, length, map, get_or, refl, sym, ap, subst, ◌∙◌, append_assoc, arith, inl, inr}
use Rattle.std.proofs.Math.ListN.{set}
use Rattle.std.specs.Prelude.{Some}
use Rattle.std.proofs.lemmas.Bool.{cases_eq, eq-eqb, ne_eqb}
use Rattle.std.proofs.lemmas.List.{append-nil, get_or-set_same, get_or-set_other, length-set}
use Rattle.std.proofs.lemmas.List.Elements.{filter-append}
use Rattle.ossl_base.specs.declared.entry.Entry.{Entry}
use Rattle.ossl_commands.specs.declared.command.Line.{Line}
use Rattle.ossl_commands.specs.Counts.{callers_of, contexts_of}
use Rattle.ossl_state.specs.declared.call.Call.{Call}
use Rattle.ossl_state.specs.declared.call.Reply.{Reply}
use Rattle.ossl_state.specs.History.{Fixed, IsAllowed, IsLegal}
use Rattle.ossl_state.specs.Tokens.{entries_of}
use Rattle.ossl_script.specs.declared.caller.Next.TheVariants as nexts
use Rattle.ossl_script.specs.Caller.{Follows, call_in, giving_back, next_call, results_of}
use Rattle.ossl_script.specs.View.{ScriptCallerView, SpeaksFor}
use Rattle.ossl_script.proofs.AllowedLaws.{calls_are_allowed}
use Rattle.ossl_ordered.specs.declared.player.Player.{Player}
use Rattle.ossl_ordered.specs.Work.{AreAtWork, IsAtWork, IsNextOf, IsReady, MayGo, Took}
use Rattle.ossl_ordered.proofs.DoneLaws.{none_of}
use Rattle.ossl_ordered.proofs.TurnLaws.{replies-push}
use Rattle.ossl_print.specs.Batched.{Batch, next_of as next_in, replies_of, replies_to}

-- one call more
follows-push : (lines : List Line) (contents : List (List ℕ)) (c : ℕ) (replies : List Reply) (es : List (Entry Call Reply)) (e : Entry Call Reply) → Follows lines contents c replies es →
    call_in (next_call lines contents c (replies ++ replies_of es)) ≡ Some e.call → Follows lines contents c replies (es ++ e ∷ [])
follows-push lines contents c replies [] e so_far next = (subst (λ l. call_in (next_call lines contents c l) ≡ Some e.call) (append-nil replies) next, tt)
follows-push lines contents c replies (x ∷ es) e so_far next = (
  so_far.0,
  follows-push lines contents c (replies ++ x.reply ∷ []) es e so_far.1
      (subst (λ l. call_in (next_call lines contents c l) ≡ Some e.call) (sym (append_assoc replies (x.reply ∷ []) (replies_of es))) next),
)

-- what a caller of these lines, files and number says is that of this batch
abbrev Speaks : List Line → List (List ℕ) → List Line → List (List ℕ) → ℕ → Type 0
Speaks lines contents own held c = (replies : List Reply)
    → (next_call own held c replies ≡ next_call lines contents c replies)
    × (results_of own held c replies ≡ results_of lines contents c replies)
    × (giving_back own held c replies ≡ giving_back lines contents c replies)

pub speaks_same : (lines : List Line) (contents : List (List ℕ)) (old new : ScriptCallerView) → new.lines ≡ old.lines → new.contents ≡ old.contents → new.caller ≡ old.caller →
    SpeaksFor lines contents old → SpeaksFor lines contents new
speaks_same lines contents old new own held number speaks =
    subst (λ c. Speaks lines contents new.lines new.contents c) (sym number)
    (subst (λ h. Speaks lines contents new.lines h old.caller) (sym held)
    (subst (λ o. Speaks lines contents o old.contents old.caller) (sym own) speaks))

-- the entries of a caller after one more entry
pub own_push : (c : ℕ) (es : List (Entry Call Reply)) (e : Entry Call Reply) → e.caller ≡ c → entries_of c (es ++ e ∷ []) ≡ entries_of c es ++ e ∷ []
own_push c es e mine = filter-append (λ (x : Entry Call Reply). nat_eq x.caller c) es (e ∷ []) ∙ rw (eq-eqb e.caller c mine) refl

other_push : (c : ℕ) (es : List (Entry Call Reply)) (e : Entry Call Reply) → nat_eq e.caller c ≡ false → entries_of c (es ++ e ∷ []) ≡ entries_of c es
other_push c es e other = filter-append (λ (x : Entry Call Reply). nat_eq x.caller c) es (e ∷ []) ∙ rw (other, append-nil) refl

-- the next call of a caller that is ready
pub next_is : (batch : Batch) (turns : List (Entry Call Reply)) (c : ℕ) (player : Player) → IsAtWork batch c turns player → IsReady player → next_in batch c (replies_to c turns) ≡ player.next
next_is batch turns c player work ready =
    sym (
    ready.next
    ∙ (work.speaks player.work.replies).0
    ∙ ap (λ n. next_call batch.lines batch.contents n player.work.replies) work.same
    ∙ ap (λ r. next_call batch.lines batch.contents c r) work.replies)

-- a caller that was at work still is after another's entry
pub other_work : (batch : Batch) (c : ℕ) (turns more : List (Entry Call Reply)) (player : Player) → entries_of c more ≡ entries_of c turns → IsAtWork batch c turns player → IsAtWork batch c more player
other_work batch c turns more player same work = record {
  number = work.number;
  same = work.same;
  speaks = work.speaks;
  follows = subst (λ es. Follows batch.lines batch.contents c [] es) (sym same) work.follows;
  replies = work.replies ∙ ap replies_of (sym same);
  keeps = work.keeps;
}

module _ (batch : Batch) (c : ℕ) (turns : List (Entry Call Reply)) (old new : Player) (e : Entry Call Reply) (work : IsAtWork batch c turns old) (ready : IsReady old) (took : Took old new e) where
  mine : e.caller ≡ c
  mine = took.caller ∙ work.number

  next : next_in batch c (replies_to c turns) ≡ nexts.Call took.line e.call
  next = next_is batch turns c old work ready ∙ took.call

  own_work : IsAtWork batch c (turns ++ e ∷ []) new
  own_work = record {
    number = took.number ∙ work.number;
    same = took.same ∙ work.same;
    speaks = speaks_same batch.lines batch.contents old.work new.work took.lines took.contents took.same work.speaks;
    follows = subst (λ es. Follows batch.lines batch.contents c [] es) (sym (own_push c turns e mine))
        (follows-push batch.lines batch.contents c [] (entries_of c turns) e work.follows (ap call_in next));
    replies = took.replies ∙ ap (λ l. l ++ e.reply ∷ []) work.replies ∙ sym (replies-push c turns e ∙ rw (eq-eqb e.caller c mine) refl);
    keeps = took.given ∙ work.keeps;
  }

module _ (batch : Batch) (contexts : ℕ) (opening turns before : List (Entry Call Reply)) (players : List Player) (at : AreAtWork batch contexts opening turns before players) where
  -- all entries of a caller are those of its turns
  pub own_entries : (c : ℕ) → 0 < c → entries_of c before ≡ entries_of c turns
  own_entries c some =
      ap (entries_of c) at.parts ∙ filter-append (λ (x : Entry Call Reply). nat_eq x.caller c) opening turns
      ∙ ap (λ l. l ++ entries_of c turns) (none_of c 0 opening (ne_eqb 0 c (λ same. absurd (omega (arith, some, same)))) at.apart)

  module _ (place : ℕ) (here : place < length players) (old : Player) (there : old ≡ get_or players place old) (ready : IsReady old) where
    work_of : IsAtWork batch (place + 1) turns old
    work_of = subst (λ p. IsAtWork batch (place + 1) turns p) (sym there) (at.work place old here)

    -- it may make its next call
    pub may_go : (fixed : Fixed) → fixed.contexts ≡ contexts → IsLegal fixed before → (line : ℕ) (call : Call) → old.next ≡ nexts.Call line call → MayGo fixed before old
    may_go fixed same legal line call is = (line, call, is, allowed)
      where
        c : ℕ
        c = place + 1

        own : entries_of (place + 1) before ≡ entries_of (place + 1) turns
        own = own_entries (place + 1) (omega arith)

        follows : Follows batch.lines batch.contents (place + 1) [] (entries_of (place + 1) before)
        follows = subst (λ es. Follows batch.lines batch.contents (place + 1) [] es) (sym own) (work_of.follows)

        next_ : next_call batch.lines batch.contents (place + 1) (map (λ e. e.reply) (entries_of (place + 1) before)) ≡ nexts.Call line call
        next_ = ap (λ es. next_call batch.lines batch.contents (place + 1) (map (λ (e : Entry Call Reply). e.reply) es)) own ∙ next_is batch turns (place + 1) old work_of ready ∙ is

        few : contexts_of batch.lines ≤ fixed.contexts
        few = omega (arith, at.few, same)

        allowed : IsAllowed fixed (entries_of old.caller before) call
        allowed = subst (λ n. IsAllowed fixed (entries_of n before) call) (sym work_of.number)
            (calls_are_allowed batch.lines batch.contents (place + 1) fixed before (place + 1) line call legal follows few next_)

    -- it took its turn
    module _ (new : Player) (e : Entry Call Reply) (took : Took old new e) (after : List (Entry Call Reply)) (adds : after ≡ before ++ e ∷ []) where
      pub next_of_it : IsNextOf batch turns place e
      next_of_it = record {
        caller = mine batch (place + 1) turns old new e work_of ready took;
        line = took.line;
        call = next batch (place + 1) turns old new e work_of ready took;
      }

      pub at_work-more : AreAtWork batch contexts opening (turns ++ e ∷ []) after (set players place new)
      at_work-more = record {
        parts = adds ∙ ap (λ l. l ++ e ∷ []) at.parts ∙ append_assoc opening turns (e ∷ []);
        apart = at.apart;
        few = at.few;
        none = at.none;
        others = λ c outside. other_push c turns e (ne_eqb e.caller c (λ is. absurd (apart_from c outside is))) ∙ at.others c outside;
        each = length-set players place new ∙ at.each;
        work = λ k other below. elim (cases_eq k place) [
          | inl same ↦ subst (λ k. IsAtWork batch (k + 1) (turns ++ e ∷ []) (get_or (set players place new) k other)) (sym same)
              (subst (λ p. IsAtWork batch (place + 1) (turns ++ e ∷ []) p) (sym (get_or-set_same players place new other here)) (own_work batch (place + 1) turns old new e work_of ready took))
          | inr apart ↦ subst (λ p. IsAtWork batch (k + 1) (turns ++ e ∷ []) p) (sym (get_or-set_other players place k new other apart))
              (other_work batch (k + 1) turns (turns ++ e ∷ []) (get_or players k other)
              (other_push (k + 1) turns e (ne_eqb e.caller (k + 1) (λ is. absurd (apart (let number : e.caller ≡ place + 1 = mine batch (place + 1) turns old new e work_of ready took in omega (arith, number, is))))))
              (at.work k other (omega (arith, below, length-set players place new))))
        ];
      }
        where
          apart_from : (c : ℕ) → (c ≡ 0) ⊎ (callers_of batch.lines < c) → e.caller ≡ c → ⊥
          apart_from c (inl zero_) is =
              let number : e.caller ≡ place + 1 = mine batch (place + 1) turns old new e work_of ready took in
              absurd (omega (arith, number, is, zero_))
          apart_from c (inr above) is =
              let number : e.caller ≡ place + 1 = mine batch (place + 1) turns old new e work_of ready took in
              absurd (omega (arith, number, is, above, here, at.each))
