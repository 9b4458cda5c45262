-- What each kind of step tells the pass that makes it. Each says the whole new seat: what the pass knows, and the slot
-- where it holds it.
use Rattle.std.specs.Prelude.{◌≡◌, ◌≢◌, ℕ, ◌+◌, ◌%◌, ◌^◌, ◌≤◌, List, [], ◌∷◌, ◌++◌, true, false, All, Some, None}
use Rattle.std.specs.Prelude.{Result, IfOk, OnErr}
use mathlib.Core.List.{IsPrefix}
use Rattle.atomic_table.specs.Table.{Me, Step}
use Rattle.ossl_base.specs.declared.entry.Entry.{Entry}
use Rattle.ossl_turn.specs.declared.rule.Stage.{Stage}
use Rattle.ossl_turn.specs.declared.rule.Stage.TheVariants.{Idle, Waiting, Turn}
use Rattle.ossl_turn.specs.declared.rule.View.{View}
use Rattle.ossl_turn.specs.History.{own_of, entry_of, IsHistory}
use Rattle.ossl_turn.specs.Turn.{claim_of, ticket_of}

module _ {C R F : Type 0} where
  abbrev pub at_stage : View C R F → Stage C R → View C R F
  at_stage v st = record v { stage = st }

  abbrev pub with_number : View C R F → View C R F
  with_number v = record v { drawn = v.drawn + 1 }

  abbrev pub split_off : View C R F → View C R F
  split_off v = record v { made = v.made + 1 }

  -- a new pass has seen what the first has, and no call is its own
  abbrev pub newcomer : View C R F → View C R F
  newcomer v = record {
    live = true;
    claim = claim_of (v.made + 1) [] v.claim.seen;
    stage = Idle;
    origin = v.origin;
    made = 0;
    drawn = 0;
    taken = [];
  }

  abbrev pub joined : View C R F → View C R F → View C R F
  joined v w = record v { taken = w.claim ∷ v.taken }

  -- what is left of a pass that was taken over
  abbrev pub spent : View C R F
  spent = record {
    live = false;
    claim = claim_of 0 [] [];
    stage = Idle;
    origin = None;
    made = 0;
    drawn = 0;
    taken = [];
  }

  -- the turn is over, and the pass has seen the history h
  abbrev pub after_call : View C R F → List (Entry C R) → View C R F
  after_call v h = record v { stage = Idle; claim = claim_of v.claim.number (own_of v.claim.number h) h }

  module _ {O : Type 0} where
    -- draw ticket: the caller has this ticket
    abbrev pub drew_ticket : Step O → Me O (View C R F) → ℕ → Me O (View C R F) → Type 0
    drew_ticket st m r n = (k : ℕ) × (n ≡ (at_stage m.0 (Waiting k), m.1)) × (r ≡ k % 2 ^ 64)

    -- serve, where the call found no memory: ticket and turn end, and the object is back
    abbrev pub served_none : Step O → Me O (View C R F) → ℕ → Me O (View C R F) → Type 0
    served_none st m r n = n ≡ (at_stage m.0 Idle, [])

module _ {O C R F : Type 0} (fixed : O → F) where
  -- the object has the fixed part of the object as it was opened
  abbrev pub SameFixed : View C R O → O → Type 0
  SameFixed v o = (f : O) × (v.origin ≡ Some f) × (fixed o ≡ fixed f)

module _ {O C R F : Type 0} (fixed : O → F) (follows : F → List (Entry C R) → Entry C R → Type 0) where
  -- what the pass has seen is a history of the object as it was opened
  abbrev pub SeesHistory : View C R O → Type 0
  SeesHistory v = (f : O) × (v.origin ≡ Some f) × IsHistory (follows (fixed f)) v.claim.seen

  -- draw number: the first pass holds the next number, and is told of what it has seen: that it is lawful, and that no
  -- entry in it has a number above what was made
  abbrev pub drew_number : Step O → Me O (View C R O) → ℕ → Me O (View C R O) → Type 0
  drew_number st m r n = (n ≡ (with_number m.0, m.1)) × (r ≡ m.0.drawn)
      × All (λ e. e.caller ≤ m.0.made) m.0.claim.seen × SeesHistory m.0

module _ {C R F : Type 0} where
  module _ {O : Type 0} (history : O → List (Entry C R)) where
    -- serve, with an entry: ticket and turn end, the object is back, and the pass has seen all of its history
    abbrev pub served : Step O → Me O (View C R F) → ℕ → Me O (View C R F) → Type 0
    served st m r n = (o : O) → m.1 ≡ (0, o) ∷ [] → n ≡ (after_call m.0 (history o), [])

    module _ (fixed : O → F) (follows : F → List (Entry C R) → Entry C R → Type 0) where
      -- the object's history begins with what the pass has seen, the pass's own calls are those under its number, and
      -- each entry may follow those before it
      abbrev pub Finds : View C R O → O → Type 0
      Finds v o = SameFixed fixed v o × IsPrefix v.claim.seen (history o)
          × (own_of v.claim.number (history o) ≡ v.claim.own) × IsHistory (follows (fixed o)) (history o)

      -- look at serving: where the word is the ticket, the caller has the turn and takes the object out of the slot;
      -- else nothing changes
      abbrev pub looked : Step O → Me O (View C R O) → ℕ → Me O (View C R O) → Type 0
      looked st m r n = let k = ticket_of m.0.stage in
          (r ≢ k % 2 ^ 64 → n ≡ m)
          × (r ≡ k % 2 ^ 64 → (o : O) × (n ≡ (at_stage m.0 (Turn k (history o)), (0, o) ∷ m.1)) × Finds m.0 o)

      -- the pass of the view v has got the turn, and the object
      abbrev pub HasTurn : View C R O → Me O (View C R O) → Type 0
      HasTurn v m = (k : ℕ) × (o : O) × (m ≡ (at_stage v (Turn k (history o)), (0, o) ∷ [])) × Finds v o

module _ {O C R F : Type 0} where
  -- the pass of the view v waits with a ticket, which is n modulo 2^64
  abbrev pub IsWaiting : View C R F → ℕ → Me O (View C R F) → Type 0
  IsWaiting v n m = (k : ℕ) × (m ≡ (at_stage v (Waiting k), [])) × (n ≡ k % 2 ^ 64)

module _ {O V : Type 0} where
  -- the seat holds the slot, with an object of which P holds
  abbrev pub Holds : Me O V → (O → Type 0) → Type 0
  Holds m P = (o : O) × (m.1 ≡ (0, o) ∷ []) × P o

module _ {O C R F : Type 0} (history : O → List (Entry C R)) (fixed : O → F)
    (follows : F → List (Entry C R) → Entry C R → Type 0) where
  -- one call of the object o, which is then p
  abbrev pub Makes : {X : Type 0} → ℕ → C → O → O → Result R X → Type 0
  Makes number call o p result = (fixed p ≡ fixed o)
      × IfOk result (λ r. (history p ≡ history o ++ entry_of number call r ∷ [])
      × follows (fixed o) (history o) (entry_of number call r))
      × OnErr result (history p ≡ history o)

  -- the pass with the turn holds the object with one more entry, of its own
  abbrev pub HasAnswer : Me O (View C R O) → Type 0
  HasAnswer m = (k : ℕ) × (h : List (Entry C R)) × (e : Entry C R) × (o : O) × (m.1 ≡ (0, o) ∷ []) × (m.0.live ≡ true)
      × (m.0.stage ≡ Turn k h) × (history o ≡ h ++ e ∷ []) × (e.caller ≡ m.0.claim.number)
      × SameFixed fixed m.0 o × IsPrefix m.0.claim.seen h × follows (fixed o) h e

  -- the pass with the turn holds the object with the history that it found
  abbrev pub HasNoAnswer : Me O (View C R O) → Type 0
  HasNoAnswer m = (k : ℕ) × (h : List (Entry C R)) × (o : O) × (m.1 ≡ (0, o) ∷ []) × (m.0.live ≡ true)
      × (m.0.stage ≡ Turn k h) × (history o ≡ h) × SameFixed fixed m.0 o
