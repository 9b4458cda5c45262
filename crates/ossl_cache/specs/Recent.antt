-- The recent answers of a library context, the most recently used first (this project's own).
use Rattle.std.specs.Prelude.{ℕ, Bool, not, ◌&&◌, nat_eq, List, ◌∷◌, filter, take}
use Rattle.ossl_codes.specs.declared.code.Operation.{Operation}
use Rattle.ossl_codes.specs.contracts.code.OperationPartialEq.TheImpl
use Rattle.ossl_property.specs.Same.{same_query}
use Rattle.ossl_cache.specs.declared.key.Key.{Key}
use Rattle.ossl_cache.specs.declared.key.Kept.{Kept}

-- a key, with what answered it
abbrev pub Answer : Type 0
Answer = Key × Kept

-- the key asks for this operation and number
abbrev pub asks_for : Operation → ℕ → Key → Bool
asks_for op number key = TheImpl.ghosts.eq key.op op && nat_eq key.number number

-- the same operation, number and query
abbrev pub same_key : Key → Key → Bool
same_key a b = asks_for b.op b.number a && same_query a.query b.query

-- how many keys are kept
abbrev pub most : ℕ
most = 64

-- the answers without those that a test names; the others keep their order
abbrev pub without : (Answer → Bool) → List Answer → List Answer
without test answers = filter (λ a. not (test a)) answers

-- a new answer goes to the front, in the place of an older one with its key, and the last goes where there are 65
abbrev pub with_answer : Key → Kept → List Answer → List Answer
with_answer key kept answers = take most ((key, kept) ∷ without (λ a. same_key key a.0) answers)

-- the key of an answer asks for this operation and number
abbrev pub is_asked : Operation → ℕ → Answer → Bool
is_asked op number a = asks_for op number a.0

-- an answer that this instance gave
abbrev pub is_answered : ℕ → Answer → Bool
is_answered instance a = nat_eq a.1.instance instance
