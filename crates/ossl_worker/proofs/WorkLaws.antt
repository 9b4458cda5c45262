-- A caller at its lines, call by call.
use Rattle.std.proofs.Common.{◌≡◌, ℕ, true, false, List, [], ◌∷◌, ◌++◌, map, refl, sym, ap, subst, ◌∙◌, append_assoc}
use Rattle.std.specs.Prelude.{Some}
use Rattle.std.proofs.lemmas.List.{append-nil, map-append}
use Rattle.ossl_base.specs.declared.entry.Entry.{Entry}
use Rattle.ossl_commands.specs.declared.command.Line.{Line}
use Rattle.ossl_script.specs.declared.caller.Next.{Next}
use Rattle.ossl_script.specs.declared.caller.Next.TheVariants as nexts
use Rattle.ossl_script.specs.Caller.{Follows, call_in, next_call}
use Rattle.ossl_script.specs.View.{GoesOn, ScriptCallerView, answered, is_end, next_of, stopped, told}
use Rattle.ossl_script.proofs.AllowedLaws.{calls_are_allowed}
use Rattle.ossl_state.specs.declared.call.Call.{Call}
use Rattle.ossl_state.specs.declared.call.Reply.{Reply}
use Rattle.ossl_state.specs.History.{Fixed, IsAllowed, IsLegal}
use Rattle.ossl_state.specs.Tokens.{entries_of}
use Rattle.ossl_turn.specs.History.{entry_of}
use Rattle.ossl_core.specs.Answered.{CallerFacts, IsAnswered}
use Rattle.ossl_worker.specs.Work.{HasMade, IsFreshScript, IsLegalOf, IsSameScript, IsWithin}

abbrev pub replies_of : List (Entry Call Reply) → List Reply
replies_of entries = map (λ e. e.reply) entries

-- one call more
pub follows-push : (lines : List Line) (contents : List (List ℕ)) (c : ℕ) (replies : List Reply)
    (es : List (Entry Call Reply)) (e : Entry Call Reply) → Follows lines contents c replies es
    → call_in (next_call lines contents c (replies ++ replies_of es)) ≡ Some e.call
    → Follows lines contents c replies (es ++ e ∷ [])
follows-push lines contents c replies [] e so_far next =
    (subst (λ l. call_in (next_call lines contents c l) ≡ Some e.call) (append-nil replies) next, tt)
follows-push lines contents c replies (x ∷ es) e so_far next = (
  so_far.0,
  follows-push lines contents c (replies ++ x.reply ∷ []) es e so_far.1
      (subst (λ l. call_in (next_call lines contents c l) ≡ Some e.call)
      (sym (append_assoc replies (x.reply ∷ []) (replies_of es))) next),
)

-- the same calls come next by other lines that say the same
pub follows_as : (lines others : List Line) (contents held : List (List ℕ)) (c : ℕ)
    → ((replies : List Reply) → next_call others held c replies ≡ next_call lines contents c replies)
    → (replies : List Reply) (es : List (Entry Call Reply))
    → Follows lines contents c replies es → Follows others held c replies es
follows_as lines others contents held c same replies [] follows = tt
follows_as lines others contents held c same replies (e ∷ es) follows = (
  ap call_in (same replies) ∙ follows.0,
  follows_as lines others contents held c same (replies ++ e.reply ∷ []) es follows.1,
)

none_given : (given : List (Entry Call Reply)) → map (λ (e : Entry Call Reply). e.call) given ≡ [] → given ≡ []
none_given [] is = refl
none_given (e ∷ given) is = absurd cc

-- while nothing is given back, all entries are calls of the lines
pub all_made : (script : ScriptCallerView) (entries : List (Entry Call Reply)) (has : HasMade script entries)
    → script.given ≡ [] → entries ≡ has.made
all_made script entries has keeps =
    has.parts ∙ ap (λ l. has.made ++ l) (none_given has.given (has.returned ∙ keeps)) ∙ append-nil has.made

-- a caller at its lines: nothing is given back yet
pub record IsAtWork (fixed : Fixed) (start script : ScriptCallerView) (number : ℕ)
    (entries : List (Entry Call Reply)) : Type 0 where
  pub legal : IsLegalOf fixed number entries
  pub within : IsWithin fixed.contexts script
  pub same : IsSameScript start script
  pub made : HasMade script entries
  pub keeps : script.given ≡ []

pub made_by_none : (script : ScriptCallerView) → IsFreshScript script → HasMade script []
made_by_none script is = subst (λ s. HasMade s []) (sym is) (record {
  made = [];
  given = [];
  parts = refl;
  follows = tt;
  replies = refl;
  returned = refl;
  ended = λ not. absurd cc;
})

-- an entry of nobody makes no history
pub legal_by_none : (fixed : Fixed) (number : ℕ) → IsLegalOf fixed number []
legal_by_none fixed number = record { history = []; legal = tt; own = refl }

module _ (fixed : Fixed) (start script : ScriptCallerView) (number : ℕ) (entries : List (Entry Call Reply))
    (work : IsAtWork fixed start script number entries) where
  ended_told : (next : Next) → next ≡ next_of script → is_end next ≡ true → next_of script ≡ nexts.End
  ended_told (nexts.Call line call) is end = absurd cc
  ended_told nexts.End is end = sym is

  -- it was told what comes next
  pub work_told : (next : Next) → next ≡ next_of script → IsAtWork fixed start (told next script) number entries
  work_told next is = record {
    legal = work.legal;
    within = record {
      lines = work.within.lines;
      contents = work.within.contents;
      speaks = work.within.speaks;
      few = work.within.few;
    };
    same = record { lines = work.same.lines; contents = work.same.contents; caller = work.same.caller };
    made = record {
      made = work.made.made;
      given = work.made.given;
      parts = work.made.parts;
      follows = work.made.follows;
      replies = work.made.replies;
      returned = work.made.returned;
      ended = ended_told next is;
    };
    keeps = work.keeps;
  }

  -- memory was refused
  pub work_stopped : IsAtWork fixed start (stopped script) number entries
  work_stopped = record {
    legal = work.legal;
    within = record {
      lines = work.within.lines;
      contents = work.within.contents;
      speaks = work.within.speaks;
      few = work.within.few;
    };
    same = record { lines = work.same.lines; contents = work.same.contents; caller = work.same.caller };
    made = record {
      made = work.made.made;
      given = work.made.given;
      parts = work.made.parts;
      follows = work.made.follows;
      replies = work.made.replies;
      returned = work.made.returned;
      ended = work.made.ended;
    };
    keeps = work.keeps;
  }

  module _ (line : ℕ) (call : Call) (next : next_of script ≡ nexts.Call line call) where
    all : entries ≡ work.made.made
    all = all_made script entries work.made work.keeps

    own : entries_of number work.legal.history ≡ work.made.made
    own = work.legal.own ∙ all

    -- it may make the call that comes next
    pub may_call : IsAllowed fixed entries call
    may_call =
        subst (λ es. IsAllowed fixed es call) work.legal.own
        (calls_are_allowed work.within.lines work.within.contents script.caller fixed work.legal.history number line call
        work.legal.legal follows work.within.few comes)
      where
        follows : Follows work.within.lines work.within.contents script.caller [] (entries_of number work.legal.history)
        follows = subst (λ es. Follows work.within.lines work.within.contents script.caller [] es) (sym own)
            (follows_as script.lines work.within.lines script.contents work.within.contents script.caller
            (λ replies. sym (work.within.speaks replies).0) [] work.made.made work.made.follows)

        comes : next_call work.within.lines work.within.contents script.caller
            (map (λ e. e.reply) (entries_of number work.legal.history)) ≡ nexts.Call line call
        comes =
            ap (λ es. next_call work.within.lines work.within.contents script.caller (replies_of es)) own
            ∙ ap (next_call work.within.lines work.within.contents script.caller) (sym work.made.replies)
            ∙ sym (work.within.speaks script.replies).0
            ∙ next

    -- it made that call, and took the reply
    pub work_took : (reply : Reply) (after : List (Entry Call Reply)) → IsLegal fixed after
        → entries_of number after ≡ entries ++ entry_of number call reply ∷ []
        → IsAtWork fixed start (answered reply (told (nexts.Call line call) script)) number
        (entries ++ entry_of number call reply ∷ [])
    work_took reply after legal own_after = record {
      legal = record { history = after; legal = legal; own = own_after };
      within = record {
        lines = work.within.lines;
        contents = work.within.contents;
        speaks = work.within.speaks;
        few = work.within.few;
      };
      same = record { lines = work.same.lines; contents = work.same.contents; caller = work.same.caller };
      made = record {
        made = work.made.made ++ e ∷ [];
        given = [];
        parts = ap (λ l. l ++ e ∷ []) all ∙ sym (append-nil (work.made.made ++ e ∷ []));
        follows = follows-push script.lines script.contents script.caller [] work.made.made e work.made.follows
            (ap (λ l. call_in (next_call script.lines script.contents script.caller l)) (sym work.made.replies) ∙ ap call_in next);
        replies = ap (λ l. l ++ reply ∷ []) work.made.replies
            ∙ sym (map-append (λ (x : Entry Call Reply). x.reply) work.made.made (e ∷ []));
        returned = sym work.keeps;
        ended = λ not. absurd cc;
      };
      keeps = work.keeps;
    }
      where
        e : Entry Call Reply
        e = entry_of number call reply

-- a caller made its next call, and took the reply
module _ {P : Type 0} (fixed : Fixed) (start script asked : ScriptCallerView) (before after : CallerFacts P) (next : Next)
    (line : ℕ) (call : Call) (reply : Reply) (work : IsAtWork fixed start script before.number before.own)
    (next_is : next ≡ next_of script) (is : next ≡ nexts.Call line call) (told_is : asked ≡ told next script)
    (a : IsAnswered fixed before after call reply) where
  took_on : IsAtWork fixed start (answered reply asked) after.number after.own
  took_on =
      let own_after : entries_of before.number after.seen ≡ before.own ++ entry_of before.number call reply ∷ [] =
      subst (λ n. entries_of n after.seen ≡ after.own) a.answers.stays.2 a.answers.own_seen ∙ a.answers.own in
      let asked_is : asked ≡ told (nexts.Call line call) script = told_is ∙ ap (λ n. told n script) is in
      subst (λ (z : ScriptCallerView × ℕ × List (Entry Call Reply)). IsAtWork fixed start (answered reply z.0) z.1 z.2)
      (λ i. (sym asked_is i, sym a.answers.stays.2 i, sym a.answers.own i))
      (work_took fixed start script before.number before.own work line call (sym next_is ∙ is) reply after.seen a.legal own_after)

  pub took_next : (last : ScriptCallerView) → last ≡ answered reply asked
      → IsAtWork fixed start last after.number after.own
  took_next last is_last = subst (λ s. IsAtWork fixed start s after.number after.own) (sym is_last) took_on

  pub goes_next : (last : ScriptCallerView) → last ≡ answered reply asked → GoesOn script false → GoesOn last false
  goes_next last is_last goes = subst (λ s. GoesOn s false) (sym is_last) (record {
    waiting = refl;
    unrefused = ap (λ s. s.refused) told_is ∙ goes.unrefused;
    keeps = ap (λ s. s.given) told_is ∙ goes.keeps;
  })

  -- memory was refused behind the reply
  pub took_last : (last : ScriptCallerView) → last ≡ stopped (answered reply asked) → HasMade last after.own
  took_last last is_last =
      subst (λ s. HasMade s after.own) (sym is_last)
      (work_stopped fixed start (answered reply asked) after.number after.own took_on).made
