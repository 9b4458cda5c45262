-- What the steps of a call tell together.
use Rattle.std.proofs.Common.{◌≡◌, ◌≢◌, ℕ, ◌+◌, ◌%◌, ◌^◌, ◌≤◌, List, [], ◌∷◌, ◌++◌, map, true, All, Some, Result, Ok, Err, refl, sym, ap, ◌∙◌, subst, arith}
use mathlib.Core.List.{IsPrefix}
use mathlib.Core.Option.{none}
use Rattle.atomic_table.specs.Table.{Me, step}
use Rattle.ossl_base.specs.declared.entry.Entry.{Entry}
use Rattle.ossl_turn.specs.declared.rule.View.{View}
use Rattle.ossl_turn.specs.declared.rule.Claim.{Claim}
use Rattle.ossl_turn.specs.declared.rule.Stage.TheVariants.{Turn}
use Rattle.ossl_turn.specs.History.{own_of, entry_of, IsHistory}
use Rattle.ossl_turn.specs.Turn.{ticket_of}
use Rattle.ossl_turn.specs.Kinds.{at_stage, Finds, looked, HasTurn, IsWaiting, Holds, Makes, HasAnswer, HasNoAnswer, after_call, joined, SeesHistory, newcomer, with_number}
use Rattle.ossl_turn.specs.Passes.{PassFacts, Answers, HasHistory, facts_of, claim_seen, taken_over}
use Rattle.atomic_table.specs.Seated.{TableId}
use Rattle.ossl_turn.proofs.Views.{history_snoc, own_none, own_same}
use Rattle.ossl_turn.proofs.Lists.{some_of, object_or}

module _ {O C R F : Type 0} (history : O → List (Entry C R)) (fixed : O → F) (follows : F → List (Entry C R) → Entry C R → Type 0) where
  -- the word that the pass drew is its ticket modulo 2^64
  ticket_word : (v : View C R O) (n : ℕ) (m : Me O (View C R O)) (w : IsWaiting v n m) → ticket_of m.0.stage % 2 ^ 64 ≡ n
  ticket_word v n m (k, is, word) = ap (λ (z : Me O (View C R O)). ticket_of z.0.stage % 2 ^ 64) is ∙ sym word

  -- a look that finds another word leaves the pass waiting
  pub waits_still : (v : View C R O) (n r : ℕ) (m m' : Me O (View C R O)) → IsWaiting v n m → r ≢ n → looked history fixed follows (step 1 2 0 0 none) m r m' → IsWaiting v n m'
  waits_still v n r m m' w ne seen = subst (IsWaiting v n) (sym (seen.0 (λ e. ne (e ∙ ticket_word v n m w)))) w

  -- a look that finds its ticket has the turn and the object
  pub turn_found : (v : View C R O) (n r : ℕ) (m m' : Me O (View C R O)) → IsWaiting v n m → r ≡ n → looked history fixed follows (step 1 2 0 0 none) m r m' → HasTurn history fixed follows v m'
  turn_found v n r m m' (k, is, word) e seen = let t = seen.1 (e ∙ sym (ticket_word v n m (k, is, word))) in let o : O = t.0 in (
    k,
    o,
    t.1 ∙ ap (λ (z : Me O (View C R O)). (at_stage z.0 (Turn (ticket_of z.0.stage) (history o)), (0, o) ∷ z.1)) is,
    subst (λ (z : Me O (View C R O)). Finds history fixed follows z.0 o) is t.2,
  )

  -- a seat holds one object
  same_object : (a b : O) (m : Me O (View C R O)) → m.1 ≡ (0, a) ∷ [] → m.1 ≡ (0, b) ∷ [] → a ≡ b
  same_object a b m p q = ap (object_or a) (sym p ∙ q)

  -- after an answered call
  pub has_answer : {X : Type 0} (W : O → Type 0) (v : View C R O) (m m' : Me O (View C R O)) (number : ℕ) (call : C) (r : R) (res : Result R X) → res ≡ Ok r → v.live ≡ true → v.claim.number ≡ number → HasTurn history fixed follows v m → m'.0 ≡ m.0
      → Holds m (λ o. Holds m' (λ p. Makes history fixed follows number call o p res × W o)) → HasAnswer history fixed follows m'
  has_answer W v m m' number call r res ok live is (k, o, eq, finds) same (o', out, (p, out', (made', x))) = let oo : o' ≡ o = same_object o' o m out (ap (λ (z : Me O (View C R O)). z.1) eq) in let here : m'.0 ≡ at_stage v (Turn k (history o)) = same ∙ ap (λ (z : Me O (View C R O)). z.0) eq in
      let made = subst (Makes history fixed follows number call o' p) ok made' in let kept : fixed p ≡ fixed o = made.0 ∙ ap fixed oo in (
        k,
        history o,
        entry_of number call r,
        p,
        out',
        ap (λ (z : View C R O). z.live) here ∙ live,
        ap (λ (z : View C R O). z.stage) here,
        made.1.0 ∙ ap (λ (z : O). history z ++ entry_of number call r ∷ []) oo,
        sym (ap (λ (z : View C R O). z.claim.number) here ∙ is),
        (finds.0.0, ap (λ (z : View C R O). z.origin) here ∙ finds.0.1, kept ∙ finds.0.2),
        subst (λ (z : View C R O). IsPrefix z.claim.seen (history o)) (sym here) finds.1,
        subst (λ (z : O × F). follows z.1 (history z.0) (entry_of number call r)) (λ i. (oo i, (ap fixed oo ∙ sym kept) i)) made.1.1,
      )

  pub has_no_answer : {X : Type 0} (W : O → Type 0) (v : View C R O) (m m' : Me O (View C R O)) (number : ℕ) (call : C) (x : X) (res : Result R X) → res ≡ Err x → v.live ≡ true → HasTurn history fixed follows v m → m'.0 ≡ m.0
      → Holds m (λ o. Holds m' (λ p. Makes history fixed follows number call o p res × W o)) → HasNoAnswer history fixed follows m'
  has_no_answer W v m m' number call x res err live (k, o, eq, finds) same (o', out, (p, out', (made', y))) = let oo : o' ≡ o = same_object o' o m out (ap (λ (z : Me O (View C R O)). z.1) eq) in let here : m'.0 ≡ at_stage v (Turn k (history o)) = same ∙ ap (λ (z : Me O (View C R O)). z.0) eq in
      let made = subst (Makes history fixed follows number call o' p) err made' in let kept : fixed p ≡ fixed o = made.0 ∙ ap fixed oo in (
        k,
        history o,
        p,
        out',
        ap (λ (z : View C R O). z.live) here ∙ live,
        ap (λ (z : View C R O). z.stage) here,
        made.2 ∙ ap history oo,
        (finds.0.0, ap (λ (z : View C R O). z.origin) here ∙ finds.0.1, kept ∙ finds.0.2),
      )

  -- the whole of an answered call
  pub answers : {X : Type 0} (W : O → Type 0) (id id' : TableId) (v : View C R O) (m m' m'' : Me O (View C R O)) (number : ℕ) (call : C) (r : R) (res : Result R X) (f : O) → res ≡ Ok r → v.live ≡ true → v.claim.number ≡ number → v.origin ≡ Some f → HasTurn history fixed follows v m → m'.0 ≡ m.0
      → Holds m (λ o. Holds m' (λ p. Makes history fixed follows number call o p res × W o)) → Holds m' (λ o. m'' ≡ (after_call m'.0 (history o), [])) → id' ≡ id
      → Answers (follows (fixed f)) (facts_of {O = O} id (v, [])) (facts_of id' m'') (entry_of number call r)
  answers W id id' v m m' m'' number call r res f ok live is fix turn same (o', out, (p, out', (made', x))) (p', out'', last) ids =
      let (k, o, eq, finds) = turn in let oo : o' ≡ o = same_object o' o m out (ap (λ (z : Me O (View C R O)). z.1) eq) in let pp : p' ≡ p = same_object p' p m' out'' out' in
      let here : m'.0 ≡ at_stage v (Turn k (history o)) = same ∙ ap (λ (z : Me O (View C R O)). z.0) eq in let made = subst (Makes history fixed follows number call o' p) ok made' in
      let e : Entry C R = entry_of number call r in let longer : history p ≡ history o ++ e ∷ [] = made.1.0 ∙ ap (λ (z : O). history z ++ e ∷ []) oo in
      let f_is : fixed o ≡ fixed f = finds.0.2 ∙ ap fixed (some_of finds.0.0 f (sym finds.0.1 ∙ fix)) in
      let final : m'' ≡ (after_call v (history p), []) = last ∙ (λ i. (after_call (here i) (history (pp i)), [])) in
      let own : own_of v.claim.number (history p) ≡ v.claim.own ++ e ∷ [] = ap (own_of v.claim.number) longer ∙ (own_same v.claim.number (history o) e (sym is) ∙ ap (λ (z : List (Entry C R)). z ++ e ∷ []) finds.2) in
      subst (λ (z : Me O (View C R O) × TableId). Answers (follows (fixed f)) (facts_of {O = O} id (v, [])) (facts_of z.1 z.0) e) (λ i. (sym final i, sym ids i)) record {
        history = (finds.1.0, longer ∙ ap (λ (z : List (Entry C R)). z ++ e ∷ []) (sym finds.1.1));
        lawful = subst (IsHistory (follows (fixed f))) (sym longer) (history_snoc (follows (fixed f)) (history o) e (subst (λ (z : F). IsHistory (follows z) (history o)) f_is finds.3)
            (subst (λ (z : F × List (Entry C R)). follows z.0 z.1 e) (λ i. ((ap fixed oo ∙ f_is) i, history (oo i))) made.1.1));
        own = own;
        own_seen = refl;
        stays = (refl, refl, refl, refl);
      }

module _ {O C R F : Type 0} where
  pub joined_more : (v w : View C R F) (done : List (PassFacts C R F)) (p : PassFacts C R F) (m m' : Me O (View C R F)) (c : List (ℕ × O)) → m ≡ (taken_over v done, c) → w.claim ≡ claim_seen p → m' ≡ (joined m.0 w, m.1) → m' ≡ (taken_over v (p ∷ done), c)
  joined_more v w done p m m' c is claim next = next ∙ (ap (λ (z : Me O (View C R F)). (joined z.0 w, z.1)) is ∙ ap (λ (z : Claim C R). (record v { taken = z ∷ (map claim_seen done ++ v.taken) }, c)) claim)

module _ {O C R F : Type 0} (fixed : O → F) (follows : F → List (Entry C R) → Entry C R → Type 0) where
  -- what a pass that was just split off has seen is lawful, and it has no call in it
  pub new_lawful : (id : TableId) (f : O) (v : View C R O) (m : Me O (View C R O)) → m ≡ (newcomer (with_number v), []) → v.origin ≡ Some f →
      All (λ e. e.caller ≤ v.made) v.claim.seen → SeesHistory fixed follows v → HasHistory (follows (fixed f)) (facts_of id m)
  new_lawful id f v m is fix low (f', origin, lawful) =
      subst (λ (z : Me O (View C R O)). HasHistory (follows (fixed f)) (facts_of id z)) (sym is) (
        subst (λ (x : O). IsHistory (follows (fixed x)) v.claim.seen) (some_of f' f (sym origin ∙ fix)) lawful,
        own_none (v.made + 1) v.made v.claim.seen (omega arith) low,
      )
