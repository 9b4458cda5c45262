-- Lists and histories of one element or of none.
use Rattle.std.proofs.Common.{◌≡◌, ℕ, zero, suc, List, [], ◌∷◌, ◌++◌, All, Contains, Some, subst, arith}
use Rattle.ossl_base.specs.declared.entry.Entry.{Entry}
use Rattle.ossl_turn.specs.History.{IsHistory}

-- what holds of an element holds of the list of it alone
pub all_one : {A : Type 0} (P : A → Type 0) (x : A) → P x → All P (x ∷ [])
all_one P x p zero d h = p
all_one P x p (suc k) d h = absurd (omega arith)

-- what holds of the first and of the rest holds of the list
pub all_cons : {A : Type 0} (P : A → Type 0) (x : A) (xs : List A) → P x → All P xs → All P (x ∷ xs)
all_cons P x xs p ps zero d h = p
all_cons P x xs p ps (suc k) d h = ps k d (omega arith)

-- what holds of all holds of each
pub all_at : {A : Type 0} (P : A → Type 0) (xs : List A) (x : A) → All P xs → Contains xs x → P x
all_at P xs x all (k, h, e) = subst P e (all k x h)

-- the empty list has no entry
no_entry : {A : Type 0} (before : List A) (e : A) (after : List A) → [] ≡ before ++ e ∷ after → ⊥
no_entry [] e after p = cc
no_entry (b ∷ bs) e after p = cc

-- no entries are a history
pub no_history : {C R : Type 0} (follows : List (Entry C R) → Entry C R → Type 0) → IsHistory follows []
no_history follows before e after p = absurd (no_entry before e after p)

-- the object that a seat holds, or another one
abbrev pub object_or : {A : Type 0} → A → List (ℕ × A) → A
object_or d [] = d
object_or d (x ∷ xs) = x.1

-- `Some` of one value is of no other
pub some_of : {A : Type 0} (x y : A) → Some x ≡ Some y → x ≡ y
some_of x y e = cc
