-- A caller that gives back what it holds.
use Rattle.std.proofs.Common.{◌≡◌, ℕ, true, List, [], ◌∷◌, ◌++◌, map, refl, sym, ap, subst, ◌∙◌, append_assoc}
use Rattle.std.proofs.lemmas.List.{map-append}
use Rattle.ossl_base.specs.declared.entry.Entry.{Entry}
use Rattle.ossl_calls.specs.Registry.{takes_no_memory}
use Rattle.ossl_core.specs.Answered.{CallerFacts, IsAnswered}
use Rattle.ossl_core.specs.Owned.{OwnsNothing}
use Rattle.ossl_script.specs.declared.held.Held.{Held}
use Rattle.ossl_script.specs.declared.held.TokenKind.{TokenKind}
use Rattle.ossl_script.specs.declared.held.TokenKind.TheVariants.{Activation, Method, Context}
use Rattle.ossl_script.specs.Caller.{giving_back, standing_of}
use Rattle.ossl_script.specs.Held.{give_back_call, give_back_calls}
use Rattle.ossl_script.specs.View.{ScriptCallerView, back_of}
use Rattle.ossl_script.proofs.AllowedLaws.{giving_back_is_allowed}
use Rattle.ossl_script.proofs.HeldLaws.{giving_back_leaves_none}
use Rattle.ossl_state.specs.declared.call.Call.{Call}
use Rattle.ossl_state.specs.declared.call.Reply.{Reply}
use Rattle.ossl_state.specs.declared.state.State.{State}
use Rattle.ossl_state.specs.History.{Fixed, IsAllowed}
use Rattle.ossl_state.specs.Tokens.{owns}
use Rattle.ossl_turn.specs.History.{entry_of}
use Rattle.ossl_worker.specs.Work.{HasMade, IsLegalOf}

-- a call that gives back takes no memory
takes_none : (s : State) (held : List Held) (before : List Call) (call : Call) (more : List Call)
    → before ++ call ∷ more ≡ give_back_calls held → takes_no_memory s call ≡ true
takes_none s [] [] call more is = absurd cc
takes_none s [] (first ∷ before) call more is = absurd cc
takes_none s (one ∷ held) (first ∷ before) call more is = takes_none s held before call more (cc)
takes_none s (one ∷ held) [] call more is =
    let equal : call ≡ give_back_call one = (cc) in
    subst (λ c. takes_no_memory s c ≡ true) (sym equal) (at one.number one.kind)
  where
    at : (n : ℕ) (kind : TokenKind) → takes_no_memory s (give_back_call (record { number = n; kind = kind })) ≡ true
    at n Activation = refl
    at n Method = refl
    at n Context = refl

pub back_takes_none : (s : State) (script : ScriptCallerView) (call : Call) (more : List Call)
    → script.given ++ call ∷ more ≡ back_of script → takes_no_memory s call ≡ true
back_takes_none s script call more is =
    takes_none s (standing_of script.lines script.contents script.caller script.replies).held script.given call more is

module _ (script : ScriptCallerView) (entries : List (Entry Call Reply)) (has : HasMade script entries) where
  abbrev back_by : List (Entry Call Reply) → List Call
  back_by made = giving_back script.lines script.contents script.caller (map (λ e. e.reply) made)

  back_is : back_of script ≡ giving_back script.lines script.contents script.caller (map (λ e. e.reply) has.made)
  back_is = ap (giving_back script.lines script.contents script.caller) has.replies

  -- the next call that gives back is allowed
  pub may_give : (fixed : Fixed) (number : ℕ) (call : Call) (more : List Call) → IsLegalOf fixed number entries
      → script.given ++ call ∷ more ≡ back_of script → IsAllowed fixed entries call
  may_give fixed number call more legal is =
      subst (λ es. IsAllowed fixed es call) legal.own
      (giving_back_is_allowed script.lines script.contents script.caller fixed legal.history number has.made has.given call
      more legal.legal (legal.own ∙ has.parts) has.follows (ap (λ l. l ++ call ∷ more) has.returned ∙ is ∙ back_is))

  -- it was made
  pub gave_one : (number : ℕ) (call : Call) (reply : Reply)
      → HasMade (record script { given = script.given ++ call ∷ [] }) (entries ++ entry_of number call reply ∷ [])
  gave_one number call reply = record {
    made = has.made;
    given = has.given ++ e ∷ [];
    parts = ap (λ l. l ++ e ∷ []) has.parts ∙ append_assoc has.made has.given (e ∷ []);
    follows = has.follows;
    replies = has.replies;
    returned = map-append (λ (x : Entry Call Reply). x.call) has.given (e ∷ []) ∙ ap (λ l. l ++ call ∷ []) has.returned;
    ended = has.ended;
  }
    where
      e : Entry Call Reply
      e = entry_of number call reply

  -- behind the last of them nothing is owned
  pub owns_none : script.given ≡ back_of script → OwnsNothing entries
  owns_none all t kind =
      ap (λ (mine : List (Entry Call Reply)). owns mine t kind) has.parts
      ∙ giving_back_leaves_none script.lines script.contents script.caller has.made has.given has.follows
      (has.returned ∙ all ∙ back_is) t kind

-- a call that gives back was made
module _ {P : Type 0} (fixed : Fixed) (start script given : ScriptCallerView) (before after : CallerFacts P) (call : Call) (reply : Reply)
    (has : HasMade script before.own) (kept : script ≡ record start { given = script.given })
    (gave : given ≡ record script { given = script.given ++ call ∷ [] }) (a : IsAnswered fixed before after call reply) where
  pub gave_kept : given ≡ record start { given = given.given }
  gave_kept =
      let more : given.given ≡ script.given ++ call ∷ [] = ap (λ s. s.given) gave in
      gave ∙ ap (λ (s : ScriptCallerView). record s { given = script.given ++ call ∷ [] }) kept
      ∙ ap (λ g. record start { given = g }) (sym more)

  pub gave_made : HasMade given after.own
  gave_made =
      subst (λ (z : ScriptCallerView × List (Entry Call Reply)). HasMade z.0 z.1) (λ i. (sym gave i, sym a.answers.own i))
      (gave_one script before.own has before.number call reply)

  pub gave_legal : IsLegalOf fixed after.number after.own
  gave_legal = record { history = after.seen; legal = a.legal; own = a.answers.own_seen }
