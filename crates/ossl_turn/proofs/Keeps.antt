-- Each step of the turn keeps its rule.
use Rattle.std.proofs.Common.{◌≡◌, ◌≢◌, ◌⊎◌, inl, inr, ⊎_elim, ℕ, zero, suc, ◌+◌, ◌%◌, ◌^◌, ◌<◌, ◌≤◌, List, [], ◌∷◌, ◌++◌, length, set, get_or, true, false, All, Contains, refl, sym, ap, ◌∙◌, subst, arith, append-nil, true≢false, length-set, length-append, le_refl, lit<}
use Rattle.std.proofs.lemmas.Bool.{eqb-true}
use Rattle.std.proofs.lemmas.List.Elements.{All-append, filter_passes}
use Rattle.std.specs.Prelude.{◌==◌}
use mathlib.Core.Option.{Option, none, some, some-injective, some-ne-none}
use mathlib.Core.List.{IsPrefix}
use mathlib.Core.Logic.{dite}
use native.Mathlib.Decide.{ℕ_discrete}
use native.Mathlib.Nat.{mod-add-mod, mod-eq_of_lt}
use lib.ListN.{get_elem?}
use lib.Seq.{set-get_or}
use Rattle.atomic_table.specs.Table.{State, Me, step, keeps, takes, gives, Allows, Splits, Joins, Seen, opening, Final}
use Rattle.atomic_table.proofs.Lists.{at_set, at_longer, set_else, set_here, set_again, one_turn}
use Rattle.ossl_base.specs.declared.entry.Entry.{Entry}
use Rattle.ossl_turn.specs.declared.rule.View.{View}
use Rattle.ossl_turn.specs.declared.rule.Claim.{Claim}
use Rattle.ossl_turn.specs.declared.rule.Stage.{Stage}
use Rattle.ossl_turn.specs.declared.rule.Stage.TheVariants.{Idle, Waiting, Turn}
use Rattle.ossl_turn.specs.History.{own_of, IsHistory}
use Rattle.ossl_turn.specs.Turn.{HasTicket, has_turn, ticket_of, ticket_count, Stands, Now, Queues, IsSpent, Knows, TurnRule, first_view}
use Rattle.ossl_turn.specs.Kinds.{SameFixed, at_stage, with_number, split_off, newcomer, joined, spent, after_call, drew_number, drew_ticket, served_none, served, Finds, looked}
use Rattle.ossl_turn.proofs.Lists.{all_one, all_cons, all_at, some_of, object_or}
use Rattle.ossl_turn.proofs.Views.{set_there, set_swap, at_end_or, all_prefix, at_below, same_at, prefix_more, history_snoc, history_front, own_other, own_none, waiting_set, waiting_few, waiting_snoc, spent_stays}

module _ {C R F : Type 0} (f : F) where
  -- what a pass has seen and called stands in a longer history that has no more under its number
  stands_more : (log log' more : List (Entry C R)) (c : Claim C R) → log' ≡ log ++ more → own_of c.number log' ≡ own_of c.number log → Stands log c → Stands log' c
  stands_more log log' more c longer same st = (subst (IsPrefix c.seen) (sym longer) (prefix_more c.seen log more st.0), same ∙ st.1)

  -- what a seat knows, while another one steps
  knows_still : (t t' : Now C R) (vs vs' : List (View C R F)) (j : ℕ) (u : View C R F) → Knows f t vs j u → (j ≡ 0 → (t'.made ≡ t.made) × (t'.drawn ≡ t.drawn)) → (more : List (Entry C R)) → t'.log ≡ t.log ++ more
      → (u.live ≡ true → own_of j t'.log ≡ own_of j t.log) → ((n : ℕ) → IsSpent vs n → (own_of n t'.log ≡ own_of n t.log) × IsSpent vs' n) → (Queues t u.stage → Queues t' u.stage) → Knows f t' vs' j u
  knows_still t t' vs vs' j u k same more longer mine gone queued = record {
    first = λ e. let a = k.first e in let b = same e in (a.0, a.1 ∙ sym b.0, a.2 ∙ sym b.1);
    alive = λ live. let a = k.alive live in (a.0, stands_more t.log t'.log more u.claim longer (ap (λ (n : ℕ). own_of n t'.log) a.0 ∙ (mine live ∙ ap (λ (n : ℕ). own_of n t.log) (sym a.0))) a.1, a.2);
    spent = k.spent;
    queues = queued k.queues;
    taken = λ i d h. let a = k.taken i d h in let c = get_or u.taken i d in let g = gone c.number a.1 in (stands_more t.log t'.log more c longer g.0 a.0, g.1);
  }

module _ {C R : Type 0} where
  -- more tickets change nothing for those in the queue
  queues_more : (t t' : Now C R) (st : Stage C R) → t'.serving ≡ t.serving → t.tickets ≤ t'.tickets → t'.log ≡ t.log → Queues t st → Queues t' st
  queues_more t t' Idle a b c q = tt
  queues_more t t' (Waiting k) a b c q = let x : t.serving ≤ k = q.0 in let y : k < t.tickets = q.1 in (omega arith, omega arith)
  queues_more t t' (Turn k h) a b c q = let y : k < t.tickets = q.1 in (q.0 ∙ sym a, omega arith, q.2 ∙ sym c)

  -- a ticket that is out stands in the queue
  in_queue : (t : Now C R) (st : Stage C R) (k : ℕ) → Queues t st → HasTicket st k → (t.serving ≤ k) × (k < t.tickets)
  in_queue t Idle k q h = absurd h
  in_queue t (Waiting m) k q h = let e : m ≡ k = h in let x : t.serving ≤ m = q.0 in let y : m < t.tickets = q.1 in (omega arith, omega arith)
  in_queue t (Turn m g) k q h = let e : m ≡ k = h in let x : m ≡ t.serving = q.0 in let y : m < t.tickets = q.1 in (omega arith, omega arith)

  -- a ticket that is not at the head stays in the queue when a turn is over
  later : (t t' : Now C R) (st : Stage C R) → t'.serving ≡ t.serving + 1 → t'.tickets ≡ t.tickets → (¬ HasTicket st t.serving) → Queues t st → Queues t' st
  later t t' Idle a b ne q = tt
  later t t' (Waiting k) a b ne q = let x : t.serving ≤ k = q.0 in let y : k < t.tickets = q.1 in let z : k ≢ t.serving = ne in (omega arith, omega arith)
  later t t' (Turn k h) a b ne q = absurd (ne q.0)

  -- a pass has no turn, or has the ticket that is served
  turn_or : (t : Now C R) (st : Stage C R) → Queues t st → (has_turn st ≡ false) ⊎ HasTicket st t.serving
  turn_or t Idle q = inl refl
  turn_or t (Waiting k) q = inl refl
  turn_or t (Turn k h) q = inr q.0

module _ {O C R F : Type 0} (history : O → List (Entry C R)) (fixed : O → F) (follows : F → List (Entry C R) → Entry C R → Type 0) where
  abbrev E : Type 0
  E = Entry C R

  abbrev V : Type 0
  V = View C R O

  abbrev N : Type 0
  N = Now C R

  abbrev St : Type 0
  St = State O V

  abbrev M : Type 0
  M = Me O V

  abbrev Rule : O → St → Type 0
  Rule = TurnRule history fixed follows

  abbrev NoTurn : List V → Type 0
  NoTurn vs = (i : ℕ) (u : V) → get_elem? vs i ≡ some u → has_turn u.stage ≡ false

  abbrev HasObject : O → List E → List (Option O) → Type 0
  HasObject f log hs = (o : O) × (get_elem? hs 0 ≡ some (some o)) × (history o ≡ log) × (fixed o ≡ fixed f)

  -- no ticket is out twice, where the new view has none of another pass
  apart_set : (vs : List V) (id : ℕ) (w : V) → ((i j k : ℕ) (a b : V) → get_elem? vs i ≡ some a → get_elem? vs j ≡ some b → HasTicket a.stage k → HasTicket b.stage k → i ≡ j)
      → ((j k : ℕ) (u : V) → j ≢ id → get_elem? vs j ≡ some u → HasTicket u.stage k → HasTicket w.stage k → ⊥)
      → (i j k : ℕ) (a b : V) → get_elem? (set vs id w) i ≡ some a → get_elem? (set vs id w) j ≡ some b → HasTicket a.stage k → HasTicket b.stage k → i ≡ j
  apart_set vs id w old fresh i j k a b p q x y = ⊎_elim
      (λ (m : (i ≡ id) × (w ≡ a)). ⊎_elim (λ (n : (j ≡ id) × (w ≡ b)). m.0 ∙ sym n.0)
      (λ (n : (j ≢ id) × (get_elem? vs j ≡ some b)). absurd (fresh j k b n.0 n.1 y (subst (λ (z : V). HasTicket z.stage k) (sym m.1) x))) (at_set vs id j w b q))
      (λ (m : (i ≢ id) × (get_elem? vs i ≡ some a)). ⊎_elim (λ (n : (j ≡ id) × (w ≡ b)). absurd (fresh i k a m.0 m.1 x (subst (λ (z : V). HasTicket z.stage k) (sym n.1) y)))
      (λ (n : (j ≢ id) × (get_elem? vs j ≡ some b)). old i j k a b m.1 n.1 x y) (at_set vs id j w b q)) (at_set vs id i w a p)

  -- a ticket is still out after a step, with the pass that stepped or with another one
  every_set : (vs : List V) (id : ℕ) (v w : V) (k : ℕ) → get_elem? vs id ≡ some v → HasTicket w.stage k ⊎ (((i : ℕ) × (u : V) × (get_elem? vs i ≡ some u) × HasTicket u.stage k) × (¬ HasTicket v.stage k))
      → (i : ℕ) × (u : V) × (get_elem? (set vs id w) i ≡ some u) × HasTicket u.stage k
  every_set vs id v w k at some_has = ⊎_elim (λ (mine : HasTicket w.stage k). (id, w, set_there vs id w v at, mine))
      (λ (o : ((i : ℕ) × (u : V) × (get_elem? vs i ≡ some u) × HasTicket u.stage k) × (¬ HasTicket v.stage k)).
      let i = o.0.0 in let u = o.0.1 in let there = o.0.2 in
      let ne : i ≢ id = (λ e. o.1 (subst (λ (z : V). HasTicket z.stage k) (same_at vs id u v (subst (λ (m : ℕ). get_elem? vs m ≡ some u) e there) at) o.0.3)) in
      (i, u, set_else vs id i w ne ∙ there, o.0.3)) some_has

  -- a seat that has no turn, before and after, leaves the object where it is
  object_stays : (f : O) (log : List E) (hs : List (Option O)) (vs : List V) (id : ℕ) (v w : V) → get_elem? vs id ≡ some v → has_turn v.stage ≡ false
      → (NoTurn vs → HasObject f log hs) → NoTurn (set vs id w) → HasObject f log hs
  object_stays f log hs vs id v w at idle old quiet = old (λ i u there. dite (ℕ_discrete i id)
      (λ e. ap (λ (z : V). has_turn z.stage) (same_at vs id u v (subst (λ (m : ℕ). get_elem? vs m ≡ some u) e there) at) ∙ idle)
      (λ ne. quiet i u (set_else vs id i w ne ∙ there)))

  -- a step of the seat id, whose view becomes w
  moves : (f : O) (s : St) (r : Rule f s) (id : ℕ) (v w : V) (t : N) (ws : List ℕ) (hs : List (Option O)) → get_elem? s.views id ≡ some v
      → ws ≡ t.drawn ∷ t.tickets % 2 ^ 64 ∷ t.serving % 2 ^ 64 ∷ [] → t.made ≡ r.now.made → (t.made ≤ t.drawn) × (t.drawn ≤ t.made + 1)
      → t.serving + ticket_count w.stage + r.now.tickets ≡ t.tickets + ticket_count v.stage + r.now.serving
      → Knows f t (set s.views id w) id w
      → ((j : ℕ) (u : V) → j ≢ id → get_elem? s.views j ≡ some u → Knows f r.now s.views j u → Knows f t (set s.views id w) j u)
      → ((j k : ℕ) (u : V) → j ≢ id → get_elem? s.views j ≡ some u → HasTicket u.stage k → HasTicket w.stage k → ⊥)
      → ((k : ℕ) → t.serving ≤ k → k < t.tickets → HasTicket w.stage k ⊎ ((r.now.serving ≤ k) × (k < r.now.tickets) × (¬ HasTicket v.stage k)))
      → (NoTurn (set s.views id w) → HasObject f t.log hs)
      → IsHistory (follows (fixed f)) t.log → All (λ e. e.caller ≤ t.made) t.log
      → Rule f record { words = ws; homes = hs; views = set s.views id w }
  moves f s r id v w t ws hs at words made drawn queue mine others fresh every object lawful within = record {
    now = t;
    words = words;
    drawn = drawn;
    few = let few = r.few in omega arith;
    count = length-set s.views id w ∙ (r.count ∙ ap (λ (n : ℕ). n + 1) (sym made));
    queue = let a = waiting_set s.views id v w at in let b = r.queue in omega arith;
    each = λ j u there. ⊎_elim (λ (m : (j ≡ id) × (w ≡ u)). subst (λ (z : ℕ × V). Knows f t (set s.views id w) z.0 z.1) (λ i. (sym m.0 i, m.1 i)) mine)
        (λ (m : (j ≢ id) × (get_elem? s.views j ≡ some u)). others j u m.0 m.1 (r.each j u m.1)) (at_set s.views id j w u there);
    apart = apart_set s.views id w r.apart fresh;
    every = λ k low high. every_set s.views id v w k at (⊎_elim (λ (h : HasTicket w.stage k). inl h)
        (λ (h : (r.now.serving ≤ k) × (k < r.now.tickets) × (¬ HasTicket v.stage k)). inr (r.every k h.0 h.1, h.2)) (every k low high));
    object = object;
    lawful = lawful;
    within = within;
  }

  -- a pass that is alive knows what it knew, at another stage
  restaged : (f : O) (t : N) (vs : List V) (i : ℕ) (v : V) (st : Stage C R) → v.live ≡ true → Knows f t vs i v → Queues t st → Knows f t vs i (at_stage v st)
  restaged f t vs i v st live k q = record { first = k.first; alive = k.alive; spent = λ dead. absurd (true≢false (sym live ∙ dead)); queues = q; taken = k.taken }

  -- the seat id or another one, where the history, the turns served and the counts of the first stay
  still : (f : O) (t t' : N) (vs : List V) (id : ℕ) (v w : V) → get_elem? vs id ≡ some v → v.live ≡ true → t'.log ≡ t.log → t'.serving ≡ t.serving → t.tickets ≤ t'.tickets
      → (j : ℕ) (u : V) → (j ≡ 0 → (t'.made ≡ t.made) × (t'.drawn ≡ t.drawn)) → Knows f t vs j u → Knows f t' (set vs id w) j u
  still f t t' vs id v w at live log serving tickets j u counts k = knows_still f t t' vs (set vs id w) j u k counts [] (log ∙ sym (append-nil t.log)) (λ _. ap (own_of j) log)
      (λ n gone. (ap (own_of n) log, spent_stays vs id v w at live n gone)) (queues_more t t' u.stage serving tickets log)

  -- no more turns are over than tickets drawn
  low : (f : O) (s : St) (r : Rule f s) → r.now.serving ≤ r.now.tickets
  low f s r = let q = r.queue in omega arith

  -- fewer tickets are out than would repeat modulo 2^64
  near : (f : O) (s : St) (r : Rule f s) → r.now.tickets ≤ r.now.serving + 65536
  near f s r = let q = r.queue in let c = r.count in let few = r.few in let w = waiting_few s.views in omega arith

  -- drawing a ticket keeps the rule
  pub draws_ticket : (f : O) (slots id : ℕ) (me : M) → me.0.live ≡ true → me.0.stage ≡ Idle → Allows (Rule f) slots id me 1 (λ n. (n + 1) % 2 ^ 64) (drew_ticket (step slots 1 1 0 none) me)
  draws_ticket f slots id me live idle s r wide at small =
      let v : V = me.0 in let k : ℕ = r.now.tickets in let w : V = at_stage v (Waiting k) in let t : N = record r.now { tickets = k + 1 } in
      let none_out : ticket_count v.stage ≡ 0 = ap ticket_count idle in let below = low f s r in (
        w,
        keeps,
        tt,
        moves f s r id v w t (set s.words 1 ((get_or s.words 1 0 + 1) % 2 ^ 64)) s.homes at
            (ap (λ ws. set ws 1 ((get_or ws 1 0 + 1) % 2 ^ 64)) r.words ∙ ap (λ (z : ℕ). r.now.drawn ∷ z ∷ r.now.serving % 2 ^ 64 ∷ []) (mod-add-mod k (2 ^ 64) 1))
            refl r.drawn (omega arith)
            (restaged f t (set s.views id w) id v (Waiting k) live (still f r.now t s.views id v w at live refl refl (omega arith) id v (λ _. (refl, refl)) (r.each id v at)) (below, omega arith))
            (λ j u ne there. still f r.now t s.views id v w at live refl refl (omega arith) j u (λ _. (refl, refl)))
            (λ j m u ne there has mine. let q = in_queue r.now u.stage m ((r.each j u there).queues) has in let e : k ≡ m = mine in omega arith)
            (λ m lo hi. dite (ℕ_discrete k m) (λ e. inl e) (λ ne. inr (lo, omega arith, λ has. subst (λ st. HasTicket st m) idle has)))
            (object_stays f r.now.log s.homes s.views id v w at (ap has_turn idle) r.object) r.lawful r.within,
        (k, refl, ap (λ ws. get_or ws 1 0) r.words),
      )

  -- while a seat waits at the head of the queue, none has the turn
  none_ahead : (f : O) (s : St) (r : Rule f s) (id : ℕ) (v : V) → get_elem? s.views id ≡ some v → v.stage ≡ Waiting r.now.serving → NoTurn s.views
  none_ahead f s r id v at waits i u there = ⊎_elim (λ (h : has_turn u.stage ≡ false). h)
      (λ (h : HasTicket u.stage r.now.serving).
      let mine : HasTicket v.stage r.now.serving = subst (λ st. HasTicket st r.now.serving) (sym waits) refl in
      let e : i ≡ id = r.apart i id r.now.serving u v there at h mine in
      ap (λ (z : V). has_turn z.stage) (same_at s.views id u v (subst (λ (m : ℕ). get_elem? s.views m ≡ some u) e there) at) ∙ ap has_turn waits)
      (turn_or r.now u.stage ((r.each i u there).queues))

  -- what the pass with the turn finds: the object at the history
  finds : (f : O) (s : St) (r : Rule f s) (id : ℕ) (v : V) → get_elem? s.views id ≡ some v → v.live ≡ true → (o : O) → history o ≡ r.now.log → fixed o ≡ fixed f → Finds history fixed follows v o
  finds f s r id v at live o same fix = let a = (r.each id v at).alive live in (
    (f, a.2, fix),
    subst (IsPrefix v.claim.seen) (sym same) a.1.0,
    ap (own_of v.claim.number) same ∙ a.1.1,
    subst (λ (z : F × List E). IsHistory (follows z.0) z.1) (λ i. (sym fix i, sym same i)) r.lawful,
  )

  -- looking at the serving word keeps the rule, and takes the object where the turn has come
  pub looks : (f : O) (slots id : ℕ) (me : M) (k : ℕ) → me.0.live ≡ true → me.0.stage ≡ Waiting k → Allows (Rule f) slots id me 2 (λ n. n) (looked history fixed follows (step slots 2 0 0 none) me)
  looks f slots id me k live waits s r wide at small =
      let v : V = me.0 in let t : N = r.now in let mine = subst (Queues t) waits ((r.each id v at).queues) in let lo : t.serving ≤ k = mine.0 in let hi : k < t.tickets = mine.1 in let span = near f s r in
      let is_k : ticket_of v.stage ≡ k = ap ticket_of waits in
      let found : get_or s.words 2 0 ≡ t.serving % 2 ^ 64 = ap (λ ws. get_or ws 2 0) r.words in
      dite (ℕ_discrete (get_or s.words 2 0) (k % 2 ^ 64))
      (λ hit.
      let head : t.serving ≡ k = one_turn t.serving k (2 ^ 64) lo (omega arith) (sym found ∙ hit) in
      let thing = r.object (none_ahead f s r id v at (waits ∙ ap Waiting (sym head))) in let o : O = thing.0 in let w : V = at_stage v (Turn k (history o)) in
      let one : ticket_count v.stage ≡ 1 = ap ticket_count waits in (
        w,
        takes 0 o,
        thing.1,
        moves f s r id v w t (set s.words 2 (get_or s.words 2 0)) (set s.homes 0 none) at
            (ap (λ ws. set ws 2 (get_or ws 2 0)) r.words) refl r.drawn (omega arith)
            (restaged f t (set s.views id w) id v (Turn k (history o)) live (still f t t s.views id v w at live refl refl (le_refl t.tickets) id v (λ _. (refl, refl)) (r.each id v at)) (sym head, hi, thing.2))
            (λ j u ne there. still f t t s.views id v w at live refl refl (le_refl t.tickets) j u (λ _. (refl, refl)))
            (λ j m u ne there has has'. ne (r.apart j id m u v there at has (subst (λ st. HasTicket st m) (sym waits) has')))
            (λ m a b. dite (ℕ_discrete k m) (λ e. inl e) (λ ne. inr (a, b, λ has. ne (subst (λ st. HasTicket st m) waits has))))
            (λ quiet. absurd (true≢false (quiet id w (set_there s.views id w v at)))) r.lawful r.within,
        (
          (λ miss. absurd (miss (hit ∙ ap (λ (z : ℕ). z % 2 ^ 64) (sym is_k)))),
          λ _. (o, ap (λ (z : ℕ). (at_stage v (Turn z (history o)), (0, o) ∷ me.1)) (sym is_k), finds f s r id v at live o thing.2 thing.3),
        ),
      ))
      (λ miss. (
        v,
        keeps,
        tt,
        subst (λ (z : List ℕ × List V). Rule f record { words = z.0; homes = s.homes; views = z.1 }) (λ i. (sym (set-get_or s.words 2 0) i, sym (set_again s.views id v at) i)) r,
        ((λ _. refl), λ hit. absurd (miss (hit ∙ ap (λ (z : ℕ). z % 2 ^ 64) is_k))),
      ))

  -- the seat that has the turn gives the object back, and the history is more of what it was
  serves_more : (f : O) (s : St) (r : Rule f s) (slots id : ℕ) (v w : V) (o : O) (k : ℕ) (h more : List E) → length s.homes ≡ slots → 0 < slots → get_elem? s.views id ≡ some v → v.live ≡ true → v.stage ≡ Turn k h
      → w.stage ≡ Idle → w.live ≡ true → w.made ≡ v.made → w.drawn ≡ v.drawn → w.origin ≡ v.origin → w.taken ≡ v.taken
      → w.claim.number ≡ v.claim.number → Stands (history o) w.claim
      → history o ≡ h ++ more → ((n : ℕ) → n ≢ v.claim.number → own_of n (history o) ≡ own_of n h) → SameFixed fixed v o → IsHistory (follows (fixed o)) (history o) → (v.claim.number ≤ r.now.made → All (λ e. e.caller ≤ r.now.made) (history o))
      → Rule f record { words = set s.words 2 ((get_or s.words 2 0 + 1) % 2 ^ 64); homes = set s.homes 0 (some o); views = set s.views id w }
  serves_more f s r slots id v w o k h more wide some_slot at live turn idle live' made drawn fix taken number stands longer others_own fixed_o lawful within =
      let t : N = record r.now { log = history o; serving = r.now.serving + 1 } in let kn = r.each id v at in let mine = subst (Queues r.now) turn kn.queues in
      let head : k ≡ r.now.serving = mine.0 in let log_h : h ≡ r.now.log = mine.2 in let a = kn.alive live in let is_id : v.claim.number ≡ id = a.0 in
      let grown : history o ≡ r.now.log ++ more = longer ∙ ap (λ (z : List E). z ++ more) log_h in
      let own_still : (n : ℕ) → n ≢ id → own_of n (history o) ≡ own_of n r.now.log = λ n ne. others_own n (λ e. ne (e ∙ is_id)) ∙ ap (own_of n) log_h in
      let has_it : HasTicket v.stage k = subst (λ st. HasTicket st k) (sym turn) refl in
      let gone_ne : (n : ℕ) → IsSpent s.views n → n ≢ id = λ n (u, there, dead) e. true≢false (sym live ∙ (ap (λ (z : V). z.live) (same_at s.views id v u at (subst (λ (m : ℕ). get_elem? s.views m ≡ some u) e there)) ∙ dead)) in
      let gone : (n : ℕ) → IsSpent s.views n → (own_of n (history o) ≡ own_of n r.now.log) × IsSpent (set s.views id w) n = λ n sp. (own_still n (gone_ne n sp), spent_stays s.views id v w at live n sp) in
      let one : ticket_count v.stage ≡ 1 = ap ticket_count turn in let zero_now : ticket_count w.stage ≡ 0 = ap ticket_count idle in
      let f_is : fixed o ≡ fixed f = fixed_o.2 ∙ ap fixed (some_of fixed_o.0 f (sym fixed_o.1 ∙ a.2)) in let inside = at_below s.views id v at in let count = r.count in
      moves f s r id v w t (set s.words 2 ((get_or s.words 2 0 + 1) % 2 ^ 64)) (set s.homes 0 (some o)) at
      (ap (λ ws. set ws 2 ((get_or ws 2 0 + 1) % 2 ^ 64)) r.words ∙ ap (λ (z : ℕ). r.now.drawn ∷ r.now.tickets % 2 ^ 64 ∷ z ∷ []) (mod-add-mod r.now.serving (2 ^ 64) 1))
      refl r.drawn (omega arith)
      record {
        first = λ e. let b = kn.first e in (live', made ∙ b.1, drawn ∙ b.2);
        alive = λ _. (number ∙ is_id, stands, fix ∙ a.2);
        spent = λ _. idle;
        queues = subst (Queues t) (sym idle) tt;
        taken = subst (All (λ c. Stands (history o) c × IsSpent (set s.views id w) c.number)) (sym taken)
            (λ i d l. let b = kn.taken i d l in let c = get_or v.taken i d in let g = gone c.number b.1 in (stands_more f r.now.log (history o) more c grown g.0 b.0, g.1));
      }
      (λ j u ne there kn'. knows_still f r.now t s.views (set s.views id w) j u kn' (λ _. (refl, refl)) more grown (λ _. own_still j ne) gone
      (later r.now t u.stage refl refl (λ has. ne (r.apart j id k u v there at (subst (HasTicket u.stage) (sym head) has) has_it))))
      (λ j m u ne there has has'. subst (λ st. HasTicket st m) idle has')
      (λ m a b. inr (omega arith, b, λ has. let e : k ≡ m = subst (λ st. HasTicket st m) turn has in omega arith))
      (λ _. (o, set_here s.homes 0 (some o) (omega arith), refl, f_is))
      (subst (λ (z : F). IsHistory (follows z) (history o)) f_is lawful)
      (within (omega arith))

  -- the same as `serves`, for a seat that is written out
  served_once : (f : O) (slots id : ℕ) (v : V) (o : O) (k : ℕ) (h : List E) (e : E) → 0 < slots → v.live ≡ true → v.stage ≡ Turn k h → history o ≡ h ++ e ∷ [] → e.caller ≡ v.claim.number → SameFixed fixed v o
      → IsPrefix v.claim.seen h → follows (fixed o) h e → Allows (Rule f) slots id (v, (0, o) ∷ []) 2 (λ n. (n + 1) % 2 ^ 64) (served history (step slots 2 1 0 none) (v, (0, o) ∷ []))
  served_once f slots id v o k h e some_slot live turn longer by fixed_o seen next s r wide at small =
      let w : V = after_call v (history o) in let mine = subst (Queues r.now) turn ((r.each id v at).queues) in let a = (r.each id v at).alive live in let f_is : fixed o ≡ fixed f = fixed_o.2 ∙ ap fixed (some_of fixed_o.0 f (sym fixed_o.1 ∙ a.2)) in
      let inside = at_below s.views id v at in let count = r.count in let is_id : v.claim.number ≡ id = a.0 in (
        w,
        gives,
        tt,
        serves_more f s r slots id v w o k h (e ∷ []) wide some_slot at live turn refl live refl refl refl refl refl (([], append-nil (history o)), refl) longer
            (λ n ne. ap (own_of n) longer ∙ own_other n h e (λ q. ne (sym q ∙ by))) fixed_o
            (subst (IsHistory (follows (fixed o))) (sym longer) (history_snoc (follows (fixed o)) h e (subst (λ (z : F × List E). IsHistory (follows z.0) z.1) (λ i. (sym f_is i, sym mine.2 i)) r.lawful) next))
            (λ own_low. subst (All (λ (x : E). x.caller ≤ r.now.made)) (sym longer) (All-append (λ (x : E). x.caller ≤ r.now.made) h (e ∷ []) (subst (All (λ (x : E). x.caller ≤ r.now.made)) (sym mine.2) r.within) (all_one (λ (x : E). x.caller ≤ r.now.made) e (omega (arith, by, own_low))))),
        λ o' same. ap (λ (z : O). (after_call v (history z), [])) (ap (object_or o) same),
      )

  -- serving with an entry keeps the rule
  pub serves : (f : O) (slots id : ℕ) (me : M) (o : O) (k : ℕ) (h : List E) (e : E) → 0 < slots → me.1 ≡ (0, o) ∷ [] → me.0.live ≡ true → me.0.stage ≡ Turn k h → history o ≡ h ++ e ∷ [] → e.caller ≡ me.0.claim.number → SameFixed fixed me.0 o
      → IsPrefix me.0.claim.seen h → follows (fixed o) h e → Allows (Rule f) slots id me 2 (λ n. (n + 1) % 2 ^ 64) (served history (step slots 2 1 0 none) me)
  serves f slots id me o k h e some_slot out live turn longer by fixed_o seen next =
      subst (λ (c : List (ℕ × O)). Allows (Rule f) slots id (me.0, c) 2 (λ n. (n + 1) % 2 ^ 64) (served history (step slots 2 1 0 none) (me.0, c))) (sym out)
      (served_once f slots id me.0 o k h e some_slot live turn longer by fixed_o seen next)

  -- the same as `serves_none`, for a seat that is written out
  served_nothing : (f : O) (slots id : ℕ) (v : V) (o : O) (k : ℕ) (h : List E) → 0 < slots → v.live ≡ true → v.stage ≡ Turn k h → history o ≡ h → SameFixed fixed v o
      → Allows (Rule f) slots id (v, (0, o) ∷ []) 2 (λ n. (n + 1) % 2 ^ 64) (served_none (step slots 2 1 0 none) (v, (0, o) ∷ []))
  served_nothing f slots id v o k h some_slot live turn same fixed_o s r wide at small =
      let w : V = at_stage v Idle in let mine = subst (Queues r.now) turn ((r.each id v at).queues) in let a = (r.each id v at).alive live in let f_is : fixed o ≡ fixed f = fixed_o.2 ∙ ap fixed (some_of fixed_o.0 f (sym fixed_o.1 ∙ a.2)) in
      let is_log : history o ≡ r.now.log = same ∙ mine.2 in (
        w,
        gives,
        tt,
        serves_more f s r slots id v w o k h [] wide some_slot at live turn refl live refl refl refl refl refl (subst (λ (z : List E). Stands z v.claim) (sym is_log) a.1) (same ∙ sym (append-nil h))
            (λ n ne. ap (own_of n) same) fixed_o
            (subst (λ (z : F × List E). IsHistory (follows z.0) z.1) (λ i. (sym f_is i, sym is_log i)) r.lawful)
            (λ own_low. subst (All (λ (x : E). x.caller ≤ r.now.made)) (sym is_log) r.within),
        refl,
      )

  -- serving without an entry keeps the rule
  pub serves_none : (f : O) (slots id : ℕ) (me : M) (o : O) (k : ℕ) (h : List E) → 0 < slots → me.1 ≡ (0, o) ∷ [] → me.0.live ≡ true → me.0.stage ≡ Turn k h → history o ≡ h → SameFixed fixed me.0 o
      → Allows (Rule f) slots id me 2 (λ n. (n + 1) % 2 ^ 64) (served_none (step slots 2 1 0 none) me)
  serves_none f slots id me o k h some_slot out live turn same fixed_o =
      subst (λ (c : List (ℕ × O)). Allows (Rule f) slots id (me.0, c) 2 (λ n. (n + 1) % 2 ^ 64) (served_none (step slots 2 1 0 none) (me.0, c))) (sym out)
      (served_nothing f slots id me.0 o k h some_slot live turn same fixed_o)

  -- at the opening there is one view, the first
  opened : (o : O) (i : ℕ) (v : V) → get_elem? (first_view (history o) o ∷ []) i ≡ some v → (i ≡ 0) × (first_view (history o) o ≡ v)
  opened o zero v e = (refl, some-injective (first_view (history o) o) v e)
  opened o (suc i) v e = absurd (some-ne-none v (sym e))

  -- a history of the caller 0 alone has no number above 0
  all_zero : (h : List E) → own_of 0 h ≡ h → All (λ (e : E). e.caller ≤ 0) h
  all_zero h own k d below =
      let mine : All (λ (e : E). (e.caller == 0) ≡ true) h = subst (All (λ (e : E). (e.caller == 0) ≡ true)) own (filter_passes (λ (e : E). e.caller == 0) h) in
      let is : (get_or h k d).caller ≡ 0 = eqb-true (get_or h k d).caller 0 (mine k d below) in
      omega (arith, is)

  -- the rule holds at the opening
  pub opens : (o : O) → IsHistory (follows (fixed o)) (history o) → own_of 0 (history o) ≡ history o
      → Rule o (opening (0 ∷ 0 ∷ 0 ∷ []) (o ∷ []) (first_view (history o) o))
  opens o lawful own = record {
    now = now;
    words = refl;
    drawn = (omega arith, omega arith);
    few = lit< tt;
    count = refl;
    queue = refl;
    each = λ i v there. let e = opened o i v there in subst (λ (z : ℕ × V). Knows o now (first_view (history o) o ∷ []) z.0 z.1) (λ j. (sym e.0 j, e.1 j))
        record { first = λ _. (refl, refl, refl); alive = λ _. (refl, (([], append-nil (history o)), own), refl); spent = λ _. refl; queues = tt; taken = λ k d h. absurd (omega arith) };
    apart = λ i j k v w a b x y. let p = opened o i v a in let q = opened o j w b in p.0 ∙ sym q.0;
    every = λ k a b. absurd (omega arith);
    object = λ _. (o, refl, refl, refl);
    lawful = lawful;
    within = all_zero (history o) own;
  }
    where
      now : N
      now = record { log = history o; serving = 0; tickets = 0; made = 0; drawn = 0 }

  -- drawing a number keeps the rule
  pub draws_number : (f : O) (slots id : ℕ) (me : M) → me.0.live ≡ true → me.0.stage ≡ Idle → me.0.claim.number ≡ 0 → me.0.drawn ≡ me.0.made → Allows (Rule f) slots id me 0 (λ n. (n + 1) % 2 ^ 64) (drew_number fixed follows (step slots 0 1 0 none) me)
  draws_number f slots id me live idle zero_number level s r wide at small =
      let v : V = me.0 in let w : V = with_number v in let t : N = record r.now { drawn = r.now.drawn + 1 } in let kn = r.each id v at in let is_id : v.claim.number ≡ id = (kn.alive live).0 in let first = kn.first (sym is_id ∙ zero_number) in
      let made : v.made ≡ r.now.made = first.1 in let drawn : v.drawn ≡ r.now.drawn = first.2 in let few = r.few in
      let fits : r.now.drawn + 1 < 2 ^ 64 = omega arith in (
        w,
        keeps,
        tt,
        moves f s r id v w t (set s.words 0 ((get_or s.words 0 0 + 1) % 2 ^ 64)) s.homes at
            (ap (λ ws. set ws 0 ((get_or ws 0 0 + 1) % 2 ^ 64)) r.words ∙ ap (λ (z : ℕ). z ∷ r.now.tickets % 2 ^ 64 ∷ r.now.serving % 2 ^ 64 ∷ []) (mod-eq_of_lt fits))
            refl (omega arith, omega arith) (omega arith)
            record {
              first = λ _. (live, made, ap (λ (n : ℕ). n + 1) drawn);
              alive = kn.alive;
              spent = kn.spent;
              queues = queues_more r.now t v.stage refl (le_refl r.now.tickets) refl kn.queues;
              taken = λ i d l. let b = kn.taken i d l in (b.0, spent_stays s.views id v w at live (get_or v.taken i d).number b.1);
            }
            (λ j u ne there. still f r.now t s.views id v w at live refl refl (le_refl r.now.tickets) j u (λ z. absurd (ne (z ∙ (sym zero_number ∙ is_id)))))
            (λ j m u ne there has has'. subst (λ st. HasTicket st m) idle has')
            (λ m lo hi. inr (lo, hi, λ has. subst (λ st. HasTicket st m) idle has))
            (object_stays f r.now.log s.homes s.views id v w at (ap has_turn idle) r.object) r.lawful r.within,
        (
          refl,
          ap (λ ws. get_or ws 0 0) r.words ∙ sym drawn,
          all_prefix (λ (e : E). e.caller ≤ v.made) v.claim.seen r.now.log (kn.alive live).1.0
              (subst (λ (n : ℕ). All (λ (e : E). e.caller ≤ n) r.now.log) (sym made) r.within),
          (f, (kn.alive live).2, history_front (follows (fixed f)) v.claim.seen r.now.log (kn.alive live).1.0 r.lawful),
        ),
      )

  -- splitting a pass off the first keeps the rule
  pub splits : (f : O) (id : ℕ) (v : V) → v.live ≡ true → v.stage ≡ Idle → v.claim.number ≡ 0 → v.drawn ≡ v.made + 1 → v.made < 65535 → Splits (Rule f) id v (split_off v) (newcomer v)
  splits f id v live idle zero_number ahead room s r at =
      let kn = r.each id v at in let is_id : v.claim.number ≡ id = (kn.alive live).0 in let first = kn.first (sym is_id ∙ zero_number) in let made : v.made ≡ r.now.made = first.1 in let drawn : v.drawn ≡ r.now.drawn = first.2 in
      let w : V = split_off v in let x : V = newcomer v in let t : N = record r.now { made = r.now.made + 1 } in let vs : List V = set s.views id w in let vs' : List V = vs ++ x ∷ [] in
      let long : length vs ≡ r.now.made + 1 = length-set s.views id w ∙ r.count in
      let gone : (n : ℕ) → IsSpent s.views n → IsSpent vs' n = λ n sp. let (u, there, dead) = spent_stays s.views id v w at live n sp in (u, at_longer vs (x ∷ []) n u there, dead) in
      record {
        now = t;
        words = r.words;
        drawn = (omega arith, omega arith);
        few = omega arith;
        count = length-append vs (x ∷ []) ∙ ap (λ (n : ℕ). n + 1) long;
        queue = let a = waiting_snoc vs x in let b = waiting_set s.views id v w at in let c = r.queue in omega arith;
        each = λ j u there. ⊎_elim
            (λ (h : get_elem? vs j ≡ some u). ⊎_elim
            (λ (m : (j ≡ id) × (w ≡ u)). subst (λ (z : ℕ × V). Knows f t vs' z.0 z.1) (λ i. (sym m.0 i, m.1 i)) record {
              first = λ _. (live, ap (λ (n : ℕ). n + 1) made, drawn);
              alive = kn.alive;
              spent = kn.spent;
              queues = queues_more r.now t v.stage refl (le_refl r.now.tickets) refl kn.queues;
              taken = λ i d l. let b = kn.taken i d l in (b.0, gone (get_or v.taken i d).number b.1);
            })
            (λ (m : (j ≢ id) × (get_elem? s.views j ≡ some u)). knows_still f r.now t s.views vs' j u (r.each j u m.1) (λ z. absurd (m.0 (z ∙ (sym zero_number ∙ is_id)))) [] (sym (append-nil r.now.log)) (λ _. refl)
            (λ n sp. (refl, gone n sp)) (queues_more r.now t u.stage refl (le_refl r.now.tickets) refl)) (at_set s.views id j w u h))
            (λ (h : (j ≡ length vs) × (x ≡ u)). subst (Knows f t vs' j) h.1 record {
              first = λ z. absurd (omega (arith, h.0));
              alive = λ _. (omega (arith, h.0), ((kn.alive live).1.0, own_none (v.made + 1) r.now.made r.now.log (omega arith) r.within), (kn.alive live).2);
              spent = λ _. refl;
              queues = tt;
              taken = λ i d l. absurd (omega arith);
            }) (at_end_or vs x u j there);
        apart = λ i j k a b p q y z. ⊎_elim (λ (h : get_elem? vs i ≡ some a). ⊎_elim (λ (g : get_elem? vs j ≡ some b).
            apart_set s.views id w r.apart (λ j' k' u ne there has has'. subst (λ st. HasTicket st k') idle has') i j k a b h g y z)
            (λ (g : (j ≡ length vs) × (x ≡ b)). absurd (subst (λ (c : V). HasTicket c.stage k) (sym g.1) z)) (at_end_or vs x b j q))
            (λ (h : (i ≡ length vs) × (x ≡ a)). absurd (subst (λ (c : V). HasTicket c.stage k) (sym h.1) y)) (at_end_or vs x a i p);
        every = λ k lo hi. let (i, u, there, has) = every_set s.views id v w k at (inr (r.every k lo hi, λ has. subst (λ st. HasTicket st k) idle has)) in (i, u, at_longer vs (x ∷ []) i u there, has);
        object = λ quiet. object_stays f r.now.log s.homes s.views id v w at (ap has_turn idle) r.object (λ i u there. quiet i u (at_longer vs (x ∷ []) i u there));
        lawful = r.lawful;
        within = λ k d h. let a : (get_or r.now.log k d).caller ≤ r.now.made = r.within k d h in omega arith;
      }

  -- taking a pass over keeps the rule
  pub joins : (f : O) (id : ℕ) (v : V) (other : ℕ) (w : V) → v.live ≡ true → v.stage ≡ Idle → v.claim.number ≡ 0 → w.live ≡ true → w.stage ≡ Idle → Joins (Rule f) id v other w (joined v w) spent
  unfolding moves
  joins f id v other w live idle zero_number live' idle' s r at apart there =
      let both : V = joined v w in let at' : get_elem? s.views other ≡ some w = sym (set_else s.views id other both apart) ∙ there in
      let kn = r.each id v at in let is_id : v.claim.number ≡ id = (kn.alive live).0 in let kw = (r.each other w at').alive live' in
      let vs : List V = set s.views other spent in let s' : St = record { words = s.words; homes = s.homes; views = vs } in
      let quiet : ticket_count v.stage ≡ 0 = ap ticket_count idle in let quiet' : ticket_count w.stage ≡ 0 = ap ticket_count idle' in
      let r' : Rule f s' = moves f s r other w spent r.now s.words s.homes at' r.words refl r.drawn (omega arith)
      record { first = λ z. absurd (apart (z ∙ (sym zero_number ∙ is_id))); alive = λ l. absurd (true≢false (sym l)); spent = λ _. refl; queues = tt; taken = λ i d l. absurd (omega arith) }
      (λ j u ne here. still f r.now r.now s.views other w spent at' live' refl refl (le_refl r.now.tickets) j u (λ _. (refl, refl)))
      (λ j m u ne here has has'. has')
      (λ m lo hi. inr (lo, hi, λ has. subst (λ st. HasTicket st m) idle' has))
      (object_stays f r.now.log s.homes s.views other w spent at' (ap has_turn idle') r.object) r.lawful r.within in
      let ne : id ≢ other = (λ e. apart (sym e)) in let at_id : get_elem? vs id ≡ some v = set_else s.views other id spent ne ∙ at in
      let kv = r'.each id v at_id in let vs' : List V = set vs id both in
      let dead : IsSpent vs' w.claim.number = subst (IsSpent vs') (sym kw.0) (spent, set_else vs id other both apart ∙ set_there s.views other spent w at', refl) in
      let r'' = moves f s' r' id v both r.now s.words s.homes at_id r.words refl r.drawn (omega arith)
      record {
        first = kv.first;
        alive = kv.alive;
        spent = kv.spent;
        queues = kv.queues;
        taken = all_cons (λ (c : Claim C R). Stands r.now.log c × IsSpent vs' c.number) w.claim v.taken (kw.1, dead) (λ i d l. let b = kv.taken i d l in (b.0, spent_stays vs id v both at_id live (get_or v.taken i d).number b.1));
      }
      (λ j u ne here. still f r.now r.now vs id v both at_id live refl refl (le_refl r.now.tickets) j u (λ _. (refl, refl)))
      (λ j m u ne here has has'. subst (λ st. HasTicket st m) idle has')
      (λ m lo hi. inr (lo, hi, λ has. subst (λ st. HasTicket st m) idle has))
      (object_stays f r.now.log s.homes vs id v both at_id (ap has_turn idle) r'.object) r.lawful r.within in
      subst (λ (z : List V). Rule f record { words = s.words; homes = s.homes; views = z }) (set_swap s.views other id spent both apart) r''

  -- at the end the object has a history of which each claim that the first seat took over stands
  pub closes : (f : O) (id : ℕ) (v : V) (ws : List ℕ) (xs : List O) (o : O) → Final (Seen (Rule f) id v) ws xs → v.live ≡ true → v.stage ≡ Idle → v.claim.number ≡ 0
      → ((n : ℕ) → 0 < n → n ≤ v.made → (c : Claim C R) × Contains v.taken c × (c.number ≡ n)) → get_elem? xs 0 ≡ some o
      → (fixed o ≡ fixed f) × Stands (history o) v.claim × All (Stands (history o)) v.taken × All (λ e. e.caller ≤ v.made) (history o) × IsHistory (follows (fixed f)) (history o)
  closes f id v ws xs o (s, (r, at), ws_are, long, values) live idle zero_number cover here =
      let kn = r.each id v at in let is_id : v.claim.number ≡ id = (kn.alive live).0 in let first = kn.first (sym is_id ∙ zero_number) in let made : v.made ≡ r.now.made = first.1 in let count = r.count in
      let quiet : NoTurn s.views = λ i u there. dite (ℕ_discrete i 0)
      (λ e. ap (λ (z : V). has_turn z.stage) (same_at s.views id u v (subst (λ (m : ℕ). get_elem? s.views m ≡ some u) (e ∙ (sym zero_number ∙ is_id)) there) at) ∙ ap has_turn idle)
      (λ ne. let inside = at_below s.views i u there in let (c, has, is) = cover i (omega arith) (omega arith) in
      let (u', there', dead) = (all_at (λ (d : Claim C R). Stands r.now.log d × IsSpent s.views d.number) v.taken c kn.taken has).1 in
      let same : u' ≡ u = same_at s.views i u' u (subst (λ (m : ℕ). get_elem? s.views m ≡ some u') is there') there in
      ap has_turn ((r.each i u there).spent (sym (ap (λ (z : V). z.live) same) ∙ dead))) in
      let (o', home, log_is, fix) = r.object quiet in let same : o' ≡ o = same_at xs 0 o' o (values 0 o' home) here in
      subst (λ (z : O). (fixed z ≡ fixed f) × Stands (history z) v.claim × All (Stands (history z)) v.taken × All (λ e. e.caller ≤ v.made) (history z) × IsHistory (follows (fixed f)) (history z)) same
      (subst (λ (log : List E). (fixed o' ≡ fixed f) × Stands log v.claim × All (Stands log) v.taken × All (λ e. e.caller ≤ v.made) log × IsHistory (follows (fixed f)) log) (sym log_is)
      (fix, (kn.alive live).1, (λ k d h. (kn.taken k d h).0), subst (λ (n : ℕ). All (λ (e : E). e.caller ≤ n) r.now.log) (sym made) r.within, r.lawful))

  -- the pass with the turn has the ticket that is served
  at_head : (f : O) (s : St) (r : Rule f s) (i : ℕ) (v : V) → get_elem? s.views i ≡ some v → has_turn v.stage ≡ true → HasTicket v.stage r.now.serving
  at_head f s r i v there has = ⊎_elim (λ (h : has_turn v.stage ≡ false). absurd (true≢false (sym has ∙ h))) (λ (h : HasTicket v.stage r.now.serving). h) (turn_or r.now v.stage ((r.each i v there).queues))

  -- at most one pass has the turn, and its ticket is the number of turns that are over
  pub one_has_turn : (f : O) (s : St) (r : Rule f s) (i j : ℕ) (v w : V) → get_elem? s.views i ≡ some v → get_elem? s.views j ≡ some w → has_turn v.stage ≡ true → has_turn w.stage ≡ true → (i ≡ j) × HasTicket v.stage r.now.serving
  one_has_turn f s r i j v w at there has has' = let mine = at_head f s r i v at has in (r.apart i j r.now.serving v w at there mine (at_head f s r j w there has'), mine)
