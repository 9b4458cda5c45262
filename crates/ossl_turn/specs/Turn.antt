-- The rule of the turn: what holds of the words, of the slot and of what all passes know, between any two steps.
-- Word 0 counts the numbers drawn. Word 1 counts the tickets drawn and word 2, the serving word, the turns that are
-- over, each modulo 2^64. Slot 0 has the object. A ticket lock (Mellor-Crummey and Scott, 1991) with the history that
-- linearizability (Herlihy and Wing, 1990) speaks of.
use Rattle.std.specs.Prelude.{◌≡◌, ℕ, ◌+◌, ◌%◌, ◌^◌, ◌<◌, ◌≤◌, List, [], ◌∷◌, length, Bool, true, false, All, Some}
use mathlib.Core.Option.{some}
use mathlib.Core.List.{IsPrefix}
use lib.ListN.{get_elem?}
use Rattle.atomic_table.specs.Table.{State}
use Rattle.ossl_base.specs.declared.entry.Entry.{Entry}
use Rattle.ossl_turn.specs.declared.rule.Stage.{Stage}
use Rattle.ossl_turn.specs.declared.rule.Stage.TheVariants.{Idle, Waiting, Turn}
use Rattle.ossl_turn.specs.declared.rule.Claim.{Claim}
use Rattle.ossl_turn.specs.declared.rule.View.{View}
use Rattle.ossl_turn.specs.History.{own_of, IsHistory}

module _ {C R : Type 0} where
  -- a pass of this number, with its own calls and the history that it has seen
  abbrev pub claim_of : ℕ → List (Entry C R) → List (Entry C R) → Claim C R
  claim_of n own seen = record { number = n; own = own; seen = seen }

  -- what was seen is how the history begins, and the own calls are those under the number
  abbrev pub Stands : List (Entry C R) → Claim C R → Type 0
  Stands log c = IsPrefix c.seen log × (own_of c.number log ≡ c.own)

  abbrev pub HasTicket : Stage C R → ℕ → Type 0
  HasTicket Idle k = ⊥
  HasTicket (Waiting t) k = t ≡ k
  HasTicket (Turn t h) k = t ≡ k

  abbrev pub ticket_of : Stage C R → ℕ
  ticket_of Idle = 0
  ticket_of (Waiting t) = t
  ticket_of (Turn t h) = t

  abbrev pub has_turn : Stage C R → Bool
  has_turn (Turn t h) = true
  has_turn _ = false

  abbrev pub ticket_count : Stage C R → ℕ
  ticket_count Idle = 0
  ticket_count _ = 1

-- How things stand: the history, how many turns are over and how many tickets are drawn, and how many passes the first
-- one split off and how many numbers it drew
pub record Now (C R : Type 0) : Type 0 where
  pub log : List (Entry C R)
  pub serving : ℕ
  pub tickets : ℕ
  pub made : ℕ
  pub drawn : ℕ

module _ {C R : Type 0} where
  -- a ticket that is out is from the serving word on and before the ticket word, and the pass with the turn has the
  -- first of them and knows the history
  abbrev pub Queues : Now C R → Stage C R → Type 0
  Queues t Idle = Unit {0}
  Queues t (Waiting k) = (t.serving ≤ k) × (k < t.tickets)
  Queues t (Turn k h) = (k ≡ t.serving) × (k < t.tickets) × (h ≡ t.log)

module _ {C R F : Type 0} where
  -- the first pass, before any step: it has seen the history so far, all of which is its own
  abbrev pub first_view : List (Entry C R) → F → View C R F
  first_view h f = record {
    live = true;
    claim = claim_of 0 h h;
    stage = Idle;
    origin = Some f;
    made = 0;
    drawn = 0;
    taken = [];
  }

  -- the i-th view is v
  abbrev pub IsView : List (View C R F) → ℕ → View C R F → Type 0
  IsView views i v = get_elem? views i ≡ some v

  -- how many tickets are out
  abbrev pub waiting : List (View C R F) → ℕ
  waiting [] = 0
  waiting (v ∷ vs) = ticket_count v.stage + waiting vs

  abbrev pub NoneHasTurn : List (View C R F) → Type 0
  NoneHasTurn views = (i : ℕ) (v : View C R F) → IsView views i v → has_turn v.stage ≡ false

  -- the pass of the number n was taken over
  abbrev pub IsSpent : List (View C R F) → ℕ → Type 0
  IsSpent views n = (u : View C R F) × IsView views n u × (u.live ≡ false)

  -- what holds of the i-th view. A pass's number is the place of its view, so numbers are distinct
  pub record Knows (f : F) (t : Now C R) (views : List (View C R F)) (i : ℕ) (v : View C R F) : Type 0 where
    -- the first pass is never taken over, and it alone splits passes off
    pub first : i ≡ 0 → (v.live ≡ true) × (v.made ≡ t.made) × (v.drawn ≡ t.drawn)
    pub alive : v.live ≡ true → (v.claim.number ≡ i) × Stands t.log v.claim × (v.origin ≡ Some f)
    pub spent : v.live ≡ false → v.stage ≡ Idle
    pub queues : Queues t v.stage
    -- the same is said of each pass that it took over
    pub taken : All (λ c. Stands t.log c × IsSpent views c.number) v.taken

module _ {O C R F : Type 0} (history : O → List (Entry C R)) (fixed : O → F)
    (follows : F → List (Entry C R) → Entry C R → Type 0) where
  -- The rule, with f the object as it was opened
  pub record TurnRule (f : O) (s : State O (View C R O)) : Type 0 where
    pub now : Now C R
    pub words : s.words ≡ now.drawn ∷ now.tickets % 2 ^ 64 ∷ now.serving % 2 ^ 64 ∷ []
    -- at most one number is drawn and not yet given to a pass
    pub drawn : (now.made ≤ now.drawn) × (now.drawn ≤ now.made + 1)
    pub few : now.made < 65536
    pub count : length s.views ≡ now.made + 1
    -- the tickets that are out are the numbers from the serving word on that come before the ticket word, each once
    pub queue : now.serving + waiting s.views ≡ now.tickets
    pub each : (i : ℕ) (v : View C R O) → IsView s.views i v → Knows f now s.views i v
    pub apart : (i j k : ℕ) (v w : View C R O) → IsView s.views i v → IsView s.views j w → HasTicket v.stage k
        → HasTicket w.stage k → i ≡ j
    pub every : (k : ℕ) → now.serving ≤ k → k < now.tickets
        → (i : ℕ) × (v : View C R O) × IsView s.views i v × HasTicket v.stage k
    -- while no pass has the turn, the slot has the object, at this history
    pub object : NoneHasTurn s.views
        → (o : O) × (get_elem? s.homes 0 ≡ some (some o)) × (history o ≡ now.log) × (fixed o ≡ fixed f)
    pub lawful : IsHistory (follows (fixed f)) now.log
    pub within : All (λ e. e.caller ≤ now.made) now.log
