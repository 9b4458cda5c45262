use Rattle.std.proofs.Common.{◌≡◌, ℕ, List, ◌++◌, length, take, drop, sym, subst, arith}
use Rattle.std.proofs.lemmas.List.{take_all, append-nil}
use Rattle.std.proofs.Math.ListN.{drop_of_length-le}
use Rattle.registry_callers.specs.Counted.{AreCounted}
use Rattle.registry_callers.proofs.run.run.Goals as goal

-- a list that was lent whole, and came back with as many elements, is what came back
lent_whole : {A : Type 0} (n : ℕ) (old new : List A) → n ≡ length old → length new ≡ length old →
    take n (new ++ drop (length new) old) ≡ new
lent_whole n old new is same =
    rw (drop_of_length-le old {i = length new} (omega arith), append-nil) (take_all n new (omega arith))

pub dismiss-requires-clause-counted : goal.dismiss-requires-clause-counted
dismiss-requires-clause-counted g c κs within =
    let old = c.hire.new.callers in let run = c.work_and_close-done in let lent = c.deref_mut.ensures.value in
    let count : length run.new.callers ≡ length old.items = rw (← lent) run.ensures.count in
    let counted : AreCounted (length old.items) run.new.callers = rw (← lent) run.ensures.counted in
    let all : old.len ≡ length old.items = omega (arith, old.ok.0) in
    subst (AreCounted old.len) (sym (lent_whole old.len old.items run.new.callers all count))
    (subst (λ n. AreCounted n run.new.callers) (sym all) counted)
