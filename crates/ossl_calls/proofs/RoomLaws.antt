-- How many entries it takes to give everything back.
use Rattle.std.proofs.Common.{◌≡◌, ℕ, ◌+◌, ◌≤◌, Bool, true, not, ◌&&◌, nat_eq, cond, List, [], ◌∷◌, ◌++◌, length, replicate, get_or, refl, sym, ◌∙◌, ap, arith, zero-add, inl, inr, suc, zero}
use Rattle.std.proofs.Math.ListN.{set}
use Rattle.std.specs.List.{list_any}
use Rattle.std.specs.Prelude.{None, Some, if◌then◌else◌, IsTrue}
use Rattle.std.specs.declared.option.Option.{Option}
use Rattle.std.proofs.lemmas.Bool.{cases_Bool, and_parts}
use Rattle.std.proofs.lemmas.List.{length_push}
use Rattle.std.proofs.lemmas.List.Sums.{sum_by-append}
use Rattle.ossl_base.specs.declared.entry.Entry.{Entry}
use Rattle.ossl_provider.specs.Sheet.{Facts}
use Rattle.ossl_property.specs.declared.clause.Clause.{Clause}
use Rattle.ossl_state.specs.declared.call.Call.{Call}
use Rattle.ossl_state.specs.declared.call.Call.TheVariants.{Load, Unload}
use Rattle.ossl_state.specs.declared.call.Reply.{Reply}
use Rattle.ossl_state.specs.declared.call.Reply.TheVariants.{Loaded}
use Rattle.ossl_state.specs.declared.state.Choice.{Choice}
use Rattle.ossl_state.specs.declared.state.Kind.TheVariants.{Method, Context}
use Rattle.ossl_state.specs.declared.state.LibCtx.{LibCtx}
use Rattle.ossl_state.specs.declared.state.Live.{Live}
use Rattle.ossl_state.specs.declared.state.State.{State}
use Rattle.ossl_calls.specs.declared.change.Change.{Change}
use Rattle.ossl_calls.specs.declared.change.Change.TheVariants.{Same, Queried, Added}
use Rattle.ossl_state.specs.declared.state.Going.{Going}
use Rattle.ossl_state.specs.declared.state.Going.TheVariants.{Element, Activation, Nothing, Library}
use Rattle.ossl_calls.specs.Change.{changed}
use Rattle.ossl_calls.specs.Events.{unloading_from}
use Rattle.ossl_state.specs.Going.{answer_of, returned_by, without_going}
use Rattle.ossl_state.specs.History.{Fixed}
use Rattle.ossl_state.specs.Sound.{IsSound, Lent, is_lent_to, is_own, lent_after, lent_by, lent_with, open_count, giving_back}
use Rattle.ossl_state.specs.State.{fresh_lib, no_lib, lib_at, is_active_box}
use Rattle.ossl_state.specs.Step.{new_method, used_of, defaulted_of, with_default, joined_of, held_instance, is_named, with_instance, with_groups, grouped_of, offer_of, activation_given, after_activation, after_load_of, kept_of, loaded_of, unloaded_of, with_fallback_used, with_method, with_unloaded, without_element}
use Rattle.ossl_state.specs.Tokens.{activation_token, method_token, context_token, owns, entries_of}
use Rattle.ossl_state.proofs.ListLaws.{any_more, length-filter, length-filter_less}
use Rattle.ossl_state.proofs.TokenLaws.{lent-push}

open_count-cons : (x : LibCtx) (libs : List LibCtx) → open_count (x ∷ libs) ≡ (if x.is_open then 1 else 0) + open_count libs
open_count-cons x libs = sum_by-append (λ (lib : LibCtx). cond lib.is_open 1 0) (x ∷ []) libs ∙ rw zero-add refl

-- a library context that stays open or closed
open_count-set : (libs : List LibCtx) (l : ℕ) (lib : LibCtx) → lib.is_open ≡ (get_or libs l no_lib).is_open → open_count (set libs l lib) ≡ open_count libs
open_count-set [] l lib same = refl
open_count-set (x ∷ libs) zero lib same = open_count-cons lib libs ∙ ap (λ b. (if b then 1 else 0) + open_count libs) same ∙ sym (open_count-cons x libs)
open_count-set (x ∷ libs) (suc l) lib same =
    open_count-cons x (set libs l lib) ∙ ap (λ n. (if x.is_open then 1 else 0) + n) (open_count-set libs l lib same) ∙ sym (open_count-cons x libs)

activation-room : (facts : List Facts) (s : State) (l k : ℕ) → giving_back (after_activation facts s l k) ≡ giving_back s
activation-room facts s l k = elim (cases_Bool (is_active_box k (lib_at s l).order)) [
  | inl active ↦ rw active refl
  | inr absent ↦ rw absent (instance (held_instance s l k))
]
  where
    instance : (o : Option ℕ) → giving_back (with_instance facts s l k o) ≡ giving_back s
    instance (Some n) = ap (λ n. length s.live + n) (open_count-set s.libs l (joined_of (lib_at s l) k n) refl)
    instance None =
        let g = with_groups s l (offer_of facts s l k).groups in
        ap (λ n. length s.live + n) (open_count-set g.libs l (joined_of (lib_at g l) k s.next) refl ∙ open_count-set s.libs l (grouped_of (lib_at s l) (offer_of facts s l k).groups) refl)

-- a fallback makes no element and opens no library context
pub fallback-room : (facts : List Facts) (s : State) (l k : ℕ) → giving_back (with_fallback_used (after_activation facts s l k) l) ≡ giving_back s
fallback-room facts s l k =
    let a = after_activation facts s l k in
    ap (λ n. length a.live + n) (open_count-set a.libs l (used_of (lib_at a l)) refl) ∙ activation-room facts s l k

-- nor does a load
pub load-room : (facts : List Facts) (s : State) (c l : ℕ) (retain : Bool) (k : ℕ) → giving_back (after_load_of facts s c l retain k) ≡ giving_back s
load-room facts s c l retain k =
    let a = after_activation facts s l k in
    ap (λ n. length a.live + n) (open_count-set a.libs l (loaded_of retain (activation_given s c k) (lib_at a l)) refl) ∙ activation-room facts s l k

-- nor an activation that is given back
pub unload-room : (s : State) (l t : ℕ) (kept : Option ℕ) → giving_back (with_unloaded s l t kept) ≡ giving_back s
unload-room s l t kept = ap (λ n. length s.live + n) (open_count-set s.libs l (unloaded_of kept t (lib_at s l)) refl)

-- what goes where an activation is given back takes its entry alone
pub going-room : (facts : List Facts) (s : State) (t : ℕ) (o : Option ℕ) → let going = unloading_from facts s t o in giving_back (without_going s going) + 1 ≤ giving_back s + returned_by going
going-room facts s t None = omega arith
going-room facts s t (Some l) = omega (arith, unload-room s l t (kept_of facts (lib_at s l)))

-- an entry lends at most what its reply hands out
pub lent-room : (lent : List Lent) (c : ℕ) (call : Call) (reply : Reply) → length (lent_by lent c call reply) ≤ length lent + lent_with reply
lent-room lent c (Load l name retain) (Loaded n i skipped) = omega (arith, length_push lent (record { number = n; owner = c }))
lent-room lent c (Unload t) reply = omega (arith, length-filter (λ x. not (nat_eq x.number t)) lent)
lent-room lent c (Load l name retain) reply = omega arith
lent-room lent c call reply = omega arith

pub lent_with-few : (reply : Reply) → lent_with reply ≤ 1
lent_with-few (Loaded n i skipped) = omega arith
lent_with-few reply = omega arith

-- a count of what is lent, after one more entry
pub lent-more : (es : List (Entry Call Reply)) (e : Entry Call Reply) (lent : ℕ) → length (lent_after es) ≤ lent → length (lent_after (es ++ e ∷ [])) ≤ lent + lent_with e.reply
lent-more es e lent few = rw lent-push (omega (arith, few, lent-room (lent_after es) e.caller e.call e.reply))

-- and one that gives an owned activation back takes it out
pub returned-room : (fixed : Fixed) (s : State) (entries : List (Entry Call Reply)) (c t : ℕ) (o : Option ℕ) → IsSound fixed s entries → IsTrue (owns (entries_of c entries) t activation_token) →
    let going = unloading_from fixed.facts s t o in let lent = lent_after entries in length (lent_by lent c (Unload t) (answer_of going)) + returned_by going ≤ length lent
returned-room fixed s entries c t o sound owned = of o
  where
    there : list_any (λ x. nat_eq x.number t) (lent_after entries) ≡ true
    there = any_more (λ (x : Lent). nat_eq x.number t && is_lent_to c x) (λ x. nat_eq x.number t) (λ x h. (and_parts (nat_eq x.number t) (is_lent_to c x) h).0) (lent_after entries) (sound.owned c t activation_token owned)

    of : (o : Option ℕ) → let going = unloading_from fixed.facts s t o in let lent = lent_after entries in length (lent_by lent c (Unload t) (answer_of going)) + returned_by going ≤ length lent
    of None = omega (arith, length-filter_less (λ x. nat_eq x.number t) (lent_after entries) there)
    of (Some l) = omega (arith, length-filter_less (λ x. nat_eq x.number t) (lent_after entries) there)

-- nor does a default query that is set
pub default-room : (s : State) (l : ℕ) (query : List Clause) → giving_back (with_default s l query) ≡ giving_back s
default-room s l query = ap (λ n. length s.live + n) (open_count-set s.libs l (defaulted_of (lib_at s l) query) refl)

-- a method is one element more
pub method-room : (s : State) (c : ℕ) (o : Option Choice) → giving_back (with_method s c o) ≤ giving_back s + 1
method-room s c None = omega arith
method-room s c (Some chosen) = omega (arith, length_push s.live (new_method s.next c chosen))

-- an owned method or operation context that is given back
pub free-room : (fixed : Fixed) (s : State) (entries : List (Entry Call Reply)) (c t : ℕ) → IsSound fixed s entries → IsTrue (owns (entries_of c entries) t method_token) → giving_back (without_element s t) + 1 ≤ giving_back s
free-room fixed s entries c t sound owned =
    let there = any_more (λ (x : Live). nat_eq x.number t && is_own c Method x) (is_named t) (λ x h. (and_parts (nat_eq x.number t) (is_own c Method x) h).0) s.live (sound.owned c t method_token owned) in
    omega (arith, length-filter_less (is_named t) s.live there)

pub free_ctx-room : (fixed : Fixed) (s : State) (entries : List (Entry Call Reply)) (c t : ℕ) → IsSound fixed s entries → IsTrue (owns (entries_of c entries) t context_token) → giving_back (without_element s t) + 1 ≤ giving_back s
free_ctx-room fixed s entries c t sound owned =
    let there = any_more (λ (x : Live). nat_eq x.number t && is_own c Context x) (is_named t) (λ x h. (and_parts (nat_eq x.number t) (is_own c Context x) h).0) s.live (sound.owned c t context_token owned) in
    omega (arith, length-filter_less (is_named t) s.live there)

-- at the start each library context is open
pub open_count-fresh : (n : ℕ) → open_count (replicate n fresh_lib) ≤ n
open_count-fresh zero = omega arith
open_count-fresh (suc n) = omega (arith, open_count-fresh n, open_count-cons fresh_lib (replicate n fresh_lib))

-- what an entry changes that starts and stops nothing takes one entry to be given back at most
pub change-room : (s : State) (change : Change) → giving_back (changed s change) ≤ giving_back s + 1
change-room s Same = omega arith
change-room s (Queried l query) = omega (arith, default-room s l query)
change-room s (Added made) = omega (arith, length_push s.live made)

pub change-next : (s : State) (change : Change) → (changed s change).next ≡ s.next
change-next s Same = refl
change-next s (Queried l query) = refl
change-next s (Added made) = refl

-- what answers that something goes hands nothing out
pub answer-lends : (going : Going) → lent_with (answer_of going) ≡ 0
answer-lends (Element t) = refl
answer-lends (Activation l t kept) = refl
answer-lends Nothing = refl
answer-lends (Library l) = refl
