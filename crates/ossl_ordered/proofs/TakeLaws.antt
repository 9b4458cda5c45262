-- One turn of a caller among all.
use Rattle.std.proofs.Common.{◌≡◌, ◌⊎◌, ℕ, ◌<◌, List, [], ◌∷◌, ◌++◌, length, get_or, refl, sym, ap, subst, ◌∙◌, arith, inl, inr}
use Rattle.std.proofs.Math.ListN.{set}
use Rattle.std.specs.Prelude.{OnErr, OnOk, Result, Ok, Err, Some}
use Rattle.std.proofs.lemmas.Bool.{cases_eq}
use Rattle.std.proofs.lemmas.List.{append-nil, get_or-set_same, get_or-set_other, length-set, set-get_or}
use Rattle.ossl_base.specs.declared.entry.Entry.{Entry}
use Rattle.ossl_state.specs.declared.call.Call.{Call}
use Rattle.ossl_state.specs.declared.call.Reply.{Reply}
use Rattle.ossl_state.specs.History.{Fixed, IsLegal}
use Rattle.ossl_script.specs.declared.caller.Next.{Next}
use Rattle.ossl_script.specs.declared.caller.Next.TheVariants as nexts
use Rattle.ossl_ordered.specs.declared.player.Player.{Player}
use Rattle.ossl_ordered.specs.declared.turns.Turn.{Turn}
use Rattle.ossl_ordered.specs.Turns.{turn_of}
use Rattle.ossl_ordered.specs.Work.{AreAtWork, AreReady, HasCall, IsReady, MayGo, Runs, Takes, TakesAt, Working}
use Rattle.ossl_ordered.proofs.WorkLaws.{at_work-more, may_go, next_of_it}

pub on_ok : {T E : Type 0} (r : Result T E) (P Q : Type 0) → (P → Q) → OnOk r P → OnOk r Q
on_ok (Ok x) P Q go h = go h
on_ok (Err e) P Q go h = tt

pub on_err : {T E : Type 0} (r : Result T E) (P Q : Type 0) → (P → Q) → OnErr r P → OnErr r Q
on_err (Ok x) P Q go h = tt
on_err (Err e) P Q go h = go h

next_some : (c : ℕ) (next : Next) (t : Turn) → turn_of c next ≡ Some t → (line : ℕ) × (call : Call) × (next ≡ nexts.Call line call)
next_some c (nexts.Call line call) t is = (line, call, refl)
next_some c nexts.End t is = cc

module _ (contexts : ℕ) (before : List (Entry Call Reply)) (players : List Player) (place : ℕ) (here : place < length players) (old : Player) (there : old ≡ get_or players place old) (ready : AreReady players) where
  pub ready_there : IsReady old
  ready_there = subst IsReady (sym there) (ready place old here)

  pub may_take : (fixed : Fixed) → fixed.contexts ≡ contexts → IsLegal fixed before → Working contexts before players → HasCall players place → MayGo fixed before old
  may_take fixed same legal (batch, opening, turns, at) has =
      let turn = has old in
      let mine : turn_of old.caller old.next ≡ Some turn.0 = subst (λ (p : Player). turn_of p.caller p.next ≡ Some turn.0) (sym there) turn.1 in
      let call = next_some old.caller old.next turn.0 mine in
      may_go batch contexts opening turns before players at place here old there ready_there fixed same legal call.0 call.1 call.2

  module _ (after : List (Entry Call Reply)) (new : Player) where
    pub takes_at : Takes old new before after → TakesAt place contexts before after players (set players place new)
    takes_at (e, adds, took) batch opening turns at = (
      e ∷ [],
      at_work-more batch contexts opening turns before players at place here old there ready_there new e took after adds,
      (e, refl, next_of_it batch contexts opening turns before players at place here old there ready_there new e took after adds),
    )

    pub runs_err : Takes old new before after ⊎ (after ≡ before) × (new ≡ old) → Runs contexts before after players (set players place new)
    runs_err (inl takes) batch opening turns at = let done = takes_at takes batch opening turns at in (done.0, done.1, tt)
    runs_err (inr (same, stays)) batch opening turns at =
        let kept : set players place new ≡ players = ap (set players place) (stays ∙ there) ∙ set-get_or players place old in (
          [],
          subst (λ ps. AreAtWork batch contexts opening (turns ++ []) after ps) (sym kept)
              (subst (λ es. AreAtWork batch contexts opening (turns ++ []) es players) (sym same)
              (subst (λ ts. AreAtWork batch contexts opening ts before players) (sym (append-nil turns)) at)),
          tt,
        )

    pub ready_set : IsReady new → AreReady (set players place new)
    ready_set ready_new k other below = elim (cases_eq k place) [
      | inl same ↦ subst (λ k. IsReady (get_or (set players place new) k other)) (sym same) (subst IsReady (sym (get_or-set_same players place new other here)) ready_new)
      | inr apart ↦ subst IsReady (sym (get_or-set_other players place k new other apart)) (ready k other (omega (arith, below, length-set players place new)))
    ]
