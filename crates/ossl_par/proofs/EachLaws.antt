-- In a run, whatever the order of its calls, each caller has done its lines, and the program's calls are apart.
use Rattle.std.proofs.Common.{◌≡◌, ℕ, ◌+◌, ◌<◌, ◌≤◌, zero, suc, Bool, false, nat_eq, List, [], ◌++◌}
use Rattle.std.proofs.Common.{refl, sym, ap, subst, ◌∙◌, arith}
use Rattle.std.specs.List.{range_with_len}
use Rattle.std.proofs.lemmas.Bool.{ne_eqb}
use Rattle.std.proofs.lemmas.List.{append-nil}
use Rattle.std.proofs.lemmas.List.Elements.{filter-append}
use Rattle.ossl_base.specs.declared.entry.Entry.{Entry}
use Rattle.ossl_commands.specs.Counts.{callers_of}
use Rattle.ossl_ordered.specs.Turns.{IsDone}
use Rattle.ossl_ordered.proofs.DoneLaws.{none_of}
use Rattle.ossl_provider.specs.Members.{is_in}
use Rattle.ossl_run.proofs.CallerLaws.{own_number}
use Rattle.ossl_state.specs.declared.call.Call.{Call}
use Rattle.ossl_state.specs.declared.call.Reply.{Reply}
use Rattle.ossl_state.specs.Tokens.{entries_of}
use Rattle.ossl_par.specs.Threads.{EachCallerOfRunIsDone, ProgramOfRunIsApart}

-- a number that is none of a range
above_range : (from n c : ℕ) → from + n ≤ c → is_in c (range_with_len from n) ≡ false
above_range from zero c above = refl
above_range from (suc n) c above =
    let behind = above_range (from + 1) n c (omega (arith, above)) in
    rw (ne_eqb from c (λ same. absurd (omega (arith, above, same))), behind) refl

below_range : (from n c : ℕ) → c < from → is_in c (range_with_len from n) ≡ false
below_range from zero c below = refl
below_range from (suc n) c below =
    let behind = below_range (from + 1) n c (omega (arith, below)) in
    rw (ne_eqb from c (λ same. absurd (omega (arith, below, same))), behind) refl

none_by_program : (c : ℕ) (entries : List (Entry Call Reply)) → 0 < c → entries_of 0 entries ≡ entries
    → entries_of c entries ≡ []
none_by_program c entries some own = none_of c 0 entries (ne_eqb 0 c (λ is. absurd (omega (arith, some, is)))) own

-- the closing has no entry of a caller's own
pub before_closing : (c : ℕ) (log closing : List (Entry Call Reply)) → 0 < c → entries_of 0 closing ≡ closing
    → entries_of c (log ++ closing) ≡ entries_of c log
before_closing c log closing some last =
    filter-append (λ (e : Entry Call Reply). nat_eq e.caller c) log closing
    ∙ ap (λ l. entries_of c log ++ l) (none_by_program c closing some last)
    ∙ append-nil (entries_of c log)

-- nor has the opening
behind_opening : (c : ℕ) (opening middle : List (Entry Call Reply)) → 0 < c → entries_of 0 opening ≡ opening
    → entries_of c (opening ++ middle) ≡ entries_of c middle
behind_opening c opening middle some first =
    filter-append (λ (e : Entry Call Reply). nat_eq e.caller c) opening middle
    ∙ ap (λ l. l ++ entries_of c middle) (none_by_program c opening some first)

pub each_caller_of_run_is_done : EachCallerOfRunIsDone
each_caller_of_run_is_done settings batch entries c run some = (inside, outside)
  where
    own : entries_of c entries ≡ entries_of c run.middle
    own =
        ap (entries_of c) run.parts
        ∙ before_closing c (run.opening ++ run.middle) run.closing some run.closed.caller
        ∙ behind_opening c run.opening run.middle some run.opened.caller

    inside : c ≤ callers_of batch.lines → IsDone batch c (entries_of c entries)
    inside few = subst (IsDone batch c) (sym own)
        (subst (λ n. IsDone batch c (entries_of n run.middle)) (own_number batch c some few) (run.done c some few))

    outside : callers_of batch.lines < c → entries_of c entries ≡ []
    outside above = own ∙ run.others c (above_range 1 (callers_of batch.lines) c (omega (arith, above)))

pub program_of_run_is_apart : ProgramOfRunIsApart
program_of_run_is_apart settings batch entries run =
    let mine : Entry Call Reply → Bool = λ e. nat_eq e.caller 0 in
    let none : entries_of 0 run.middle ≡ [] = run.others 0 (below_range 1 (callers_of batch.lines) 0 (omega arith)) in
    ap (entries_of 0) run.parts
    ∙ filter-append mine (run.opening ++ run.middle) run.closing
    ∙ ap (λ l. l ++ entries_of 0 run.closing) (filter-append mine run.opening run.middle)
    ∙ ap (λ l. (entries_of 0 run.opening ++ l) ++ entries_of 0 run.closing) none
    ∙ ap (λ l. l ++ entries_of 0 run.closing) (append-nil (entries_of 0 run.opening))
    ∙ ap (λ l. l ++ entries_of 0 run.closing) run.opened.caller
    ∙ ap (λ l. run.opening ++ l) run.closed.caller
