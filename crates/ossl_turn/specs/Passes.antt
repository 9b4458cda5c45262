-- What a clause sees of a pass and of the shared object.
use Rattle.std.specs.Prelude.{◌≡◌, ℕ, ◌+◌, ◌<◌, ◌≤◌, List, [], ◌∷◌, ◌++◌, true, Option, Some, All, Contains, map}
use Rattle.std.specs.Prelude.{length, slice_index_or}
use mathlib.Core.List.{IsPrefix}
use Rattle.atomic_table.specs.Table.{Me}
use Rattle.atomic_table.specs.Seated.{TableId}
use Rattle.ossl_base.specs.declared.entry.Entry.{Entry}
use Rattle.ossl_turn.specs.declared.rule.View.{View}
use Rattle.ossl_turn.specs.declared.rule.Claim.{Claim}
use Rattle.ossl_turn.specs.declared.rule.Stage.TheVariants.{Idle}
use Rattle.ossl_turn.specs.History.{own_of, IsHistory}
use Rattle.ossl_turn.specs.Turn.{claim_of}

-- a pass: which object it is of and that object as it was opened, its number, how many passes it split off, the history
-- that it has seen, and its own calls
pub record PassFacts (C R F : Type 0) : Type 0 where
  pub of : TableId
  pub origin : Option F
  pub number : ℕ
  pub made : ℕ
  pub seen : List (Entry C R)
  pub own : List (Entry C R)

-- a shared object: which one it is, and the object as it was opened
pub record SharedFacts (F : Type 0) : Type 0 where
  pub of : TableId
  pub origin : F

module _ {C R F : Type 0} where
  abbrev pub facts_of : {O : Type 0} → TableId → Me O (View C R F) → PassFacts C R F
  facts_of id m = record {
    of = id;
    origin = m.0.origin;
    number = m.0.claim.number;
    made = m.0.made;
    seen = m.0.claim.seen;
    own = m.0.claim.own;
  }

  -- a pass between two calls
  abbrev pub IsFree : {O : Type 0} → ℕ → ℕ → Me O (View C R F) → Type 0
  IsFree number made m = (m.1 ≡ []) × (m.0.live ≡ true) × (m.0.stage ≡ Idle) × (m.0.drawn ≡ m.0.made)
      × (m.0.claim.number ≡ number) × (m.0.made ≡ made)

  -- the pass came from this shared object
  abbrev pub CameFrom : SharedFacts F → PassFacts C R F → Type 0
  CameFrom shared pass = (pass.of ≡ shared.of) × (pass.origin ≡ Some shared.origin)

  -- the history begins with all that the pass had seen and ends with the call e. The pass has seen it whole, and e is
  -- one more of its own calls
  pub record Answers (may_follow : List (Entry C R) → Entry C R → Type 0) (before after : PassFacts C R F)
      (e : Entry C R) : Type 0 where
    pub history : (between : List (Entry C R)) × (after.seen ≡ (before.seen ++ between) ++ e ∷ [])
    pub lawful : IsHistory may_follow after.seen
    pub own : after.own ≡ before.own ++ e ∷ []
    pub own_seen : own_of after.number after.seen ≡ after.own
    pub stays : (after.of ≡ before.of) × (after.origin ≡ before.origin) × (after.number ≡ before.number)
        × (after.made ≡ before.made)

  -- what the pass has seen is a history, and its own calls are all that this has under its number
  abbrev pub HasHistory : (List (Entry C R) → Entry C R → Type 0) → PassFacts C R F → Type 0
  HasHistory may_follow p = IsHistory may_follow p.seen × (own_of p.number p.seen ≡ p.own)

  -- the pass p is split off the first: it has the next number, no call of its own, and has seen what the first has, in
  -- which no entry has a number above what was made
  pub record IsSplit (before after p : PassFacts C R F) : Type 0 where
    pub number : p.number ≡ before.made + 1
    pub fresh : (p.of ≡ before.of) × (p.origin ≡ before.origin) × (p.made ≡ 0) × (p.own ≡ []) × (p.seen ≡ before.seen)
    pub within : All (λ e. e.caller ≤ before.made) before.seen
    pub made : after.made ≡ before.made + 1
    pub stays : (after.of ≡ before.of) × (after.origin ≡ before.origin) × (after.number ≡ before.number)
        × (after.own ≡ before.own) × (after.seen ≡ before.seen)

  -- these are all passes: there are as many as the first made and itself, and each number below that is one's
  pub record AreAll (passes : List (PassFacts C R F)) : Type 0 where
    pub some_pass : 0 < length passes
    pub made : All (λ p. p.number ≡ 0 → p.made + 1 ≡ length passes) passes
    pub numbers : (n : ℕ) → n < length passes → (p : PassFacts C R F) × Contains passes p × (p.number ≡ n)

  -- the passes have the numbers 1, 2, 3 and so on, and none split off another
  abbrev pub AreNumbered : List (PassFacts C R F) → Type 0
  AreNumbered passes = (k : ℕ) (d : PassFacts C R F) → k < length passes
      → ((slice_index_or passes k d).number ≡ k + 1) × ((slice_index_or passes k d).made ≡ 0)

  -- a pass split off this first one: no call is its own, and it has seen what the first has
  pub record IsFresh (first p : PassFacts C R F) : Type 0 where
    pub of : p.of ≡ first.of
    pub origin : p.origin ≡ first.origin
    pub made : p.made ≡ 0
    pub own : p.own ≡ []
    pub seen : p.seen ≡ first.seen

  -- the first pass after so many passes were split off it: its lists and the shared object stay
  pub record IsAfterSplits (count : ℕ) (before after : PassFacts C R F) : Type 0 where
    pub of : after.of ≡ before.of
    pub origin : after.origin ≡ before.origin
    pub number : after.number ≡ before.number
    pub made : after.made ≡ before.made + count
    pub own : after.own ≡ before.own
    pub seen : after.seen ≡ before.seen

  -- the history begins with what the pass has seen, and the pass's own calls are all that it has under its number
  abbrev pub Confirms : List (Entry C R) → PassFacts C R F → Type 0
  Confirms log p = IsPrefix p.seen log × (own_of p.number log ≡ p.own)

  abbrev pub claim_seen : PassFacts C R F → Claim C R
  claim_seen p = claim_of p.number p.own p.seen

  -- the first pass's view, when it has taken these over
  abbrev pub taken_over : View C R F → List (PassFacts C R F) → View C R F
  taken_over v ps = record v { taken = map claim_seen ps ++ v.taken }

module _ {O C R F : Type 0} (history : O → List (Entry C R)) (fixed : O → F)
    (follows : F → List (Entry C R) → Entry C R → Type 0) where
  -- an object as a call of this pass may find it
  pub record MayFind (shared : SharedFacts O) (pass : PassFacts C R O) (o : O) : Type 0 where
    pub same_fixed : fixed o ≡ fixed shared.origin
    pub seen : IsPrefix pass.seen (history o)
    pub own : own_of pass.number (history o) ≡ pass.own
    pub lawful : IsHistory (follows (fixed o)) (history o)
