-- What `clap` reads of the two subcommands, and the tables of what they take.
use Rattle.std.proofs.Common.{◌≡◌, ◌∙◌, ℕ, ◌+◌, zero, suc, refl, sym, ap, arith, subst, Bool, true, false, List, [], Option, Some, None, is_some, true≢false}
use Rattle.std.specs.Prelude.{slice_get, codes, option_map, unwrap_or}
use Rattle.std.specs.Str.{bytes_eq}
use Rattle.std.specs.Cmp.Lexicographic.{bytes_decides}
use Rattle.std.proofs.lemmas.Bool.{ne_eqb}
use Rattle.clap.specs.Walk.{Rule, Text, arg_by_id, arg_by_index, arg_by_long, nothing_held, walk_from}
use Rattle.clap.specs.Simple.{Shape, built, new_shape}
use Rattle.ossl_words.specs.Options.{Takes, given_by, takes_value}
use Rattle.ossl_words.specs.Commands.{run_takes, gen_takes}
use Rattle.ossl_words.specs.Apps.{words_app}
use Rattle.ossl_words.proofs.Walks.{Agrees, AreFit, level, option_rule, outcome, place_rule}

abbrev pub run_shape : Bool → Shape
run_shape threads = unwrap_or (slice_get (built (words_app threads)).subs 0) (new_shape [])

abbrev pub gen_shape : Bool → Shape
gen_shape threads = unwrap_or (slice_get (built (words_app threads)).subs 1) (new_shape [])

-- what holds of one name, and of every other, holds of all
by_name : (P : Text → Type 0) (one : Text) → P one → ((name : Text) → bytes_eq one name ≡ false → P name) → (name : Text) → P name
by_name P one here other name = (elim (bytes_eq one name) as (λ b. bytes_eq one name ≡ b → P name) [
  | true ↦ λ e. subst P ((bytes_decides one name).0 e) here
  | false ↦ λ e. other name e
]) refl

-- the rule that a list of rules has for an option, by its name or its id, is that of the table
abbrev Has : (List Rule → Text → Option Rule) → List Rule → Takes → Text → Type 0
Has by rules takes name = by rules name ≡ option_map (option_rule name) (takes_value takes name)

option_id : (rules : List Rule) (takes : Takes) → ((name : Text) → Has arg_by_id rules takes name)
    → (name : Text) (b : Bool) → takes_value takes name ≡ Some b → arg_by_id rules name ≡ Some (option_rule name b)
option_id rules takes has name b h = has name ∙ ap (option_map (option_rule name)) h

-- ---- `run`

run_long : (threads : Bool) (name : Text) → Has arg_by_long (run_shape threads).rules (run_takes threads) name
run_long true = by_name (Has arg_by_long (run_shape true).rules (run_takes true)) (codes "conf") refl (λ name e. rw (e) refl)
run_long false = by_name (Has arg_by_long (run_shape false).rules (run_takes false)) (codes "conf") refl
    (by_name (λ name. bytes_eq (codes "conf") name ≡ false → Has arg_by_long (run_shape false).rules (run_takes false) name) (codes "order") (λ e. refl)
    (λ name f e. rw (e, f) refl))

run_id : (threads : Bool) (name : Text) → Has arg_by_id (run_shape threads).rules (run_takes threads) name
run_id true = by_name (Has arg_by_id (run_shape true).rules (run_takes true)) (codes "conf") refl (λ name e. rw (e) refl)
run_id false = by_name (Has arg_by_id (run_shape false).rules (run_takes false)) (codes "conf") refl
    (by_name (λ name. bytes_eq (codes "conf") name ≡ false → Has arg_by_id (run_shape false).rules (run_takes false) name) (codes "order") (λ e. refl)
    (λ name f e. rw (e, f) refl))

no_place : (i : ℕ) (name : Text) (A : Type 0) → None ≡ Some name → A
no_place i name A h = absurd (true≢false (sym (ap (λ (o : Option Text). is_some o) h)))

pub run_level : (threads : Bool) (words : List Text) → AreFit words
    → Agrees (outcome (run_shape threads) (walk_from nothing_held) words) (given_by (run_takes threads) words)
run_level true = level (run_takes true) (run_shape true) (run_shape true).rules (run_long true)
    (option_id (run_shape true).rules (run_takes true) (run_id true)) (λ i. refl) (λ i name h. no_place i name _ h) (λ x. refl) (omega arith)
run_level false = level (run_takes false) (run_shape false) (run_shape false).rules (run_long false)
    (option_id (run_shape false).rules (run_takes false) (run_id false)) (λ i. refl) (λ i name h. no_place i name _ h) (λ x. refl) (omega arith)

-- ---- `gen`

gen_long : (threads : Bool) (name : Text) → Has arg_by_long (gen_shape threads).rules gen_takes name
gen_long threads = by_name (Has arg_by_long (gen_shape threads).rules gen_takes) (codes "callers") refl (λ name e. rw (e) refl)

gen_option_id : (threads : Bool) (name : Text) (b : Bool) → takes_value gen_takes name ≡ Some b → arg_by_id (gen_shape threads).rules name ≡ Some (option_rule name b)
gen_option_id threads name b =
    by_name (λ name. takes_value gen_takes name ≡ Some b → arg_by_id (gen_shape threads).rules name ≡ Some (option_rule name b)) (codes "callers")
    (λ h. ap (option_map (option_rule (codes "callers"))) h) (λ name e h. let none : takes_value gen_takes name ≡ None = rw (e) refl in
    absurd (true≢false (sym (ap (λ (o : Option Bool). is_some o) (sym none ∙ h))))) name

gen_place : (threads : Bool) (i : ℕ) → arg_by_index (gen_shape threads).rules (i + 1) ≡ option_map (place_rule (i + 1)) (slice_get gen_takes.places i)
gen_place threads zero = refl
gen_place threads (suc zero) = refl
gen_place threads (suc (suc i)) = rw (ne_eqb 1 (suc (suc i) + 1) (λ e. absurd (omega arith)), ne_eqb 2 (suc (suc i) + 1) (λ e. absurd (omega arith))) refl

gen_place_id : (threads : Bool) (i : ℕ) (name : Text) → slice_get gen_takes.places i ≡ Some name → arg_by_id (gen_shape threads).rules name ≡ Some (place_rule (i + 1) name)
gen_place_id threads zero name h = subst (λ n. arg_by_id (gen_shape threads).rules n ≡ Some (place_rule 1 n)) (ap (λ o. unwrap_or o []) h) refl
gen_place_id threads (suc zero) name h = subst (λ n. arg_by_id (gen_shape threads).rules n ≡ Some (place_rule 2 n)) (ap (λ o. unwrap_or o []) h) refl
gen_place_id threads (suc (suc i)) name h = absurd (true≢false (sym (ap (λ (o : Option Text). is_some o) h)))

pub gen_level : (threads : Bool) (words : List Text) → AreFit words
    → Agrees (outcome (gen_shape threads) (walk_from nothing_held) words) (given_by gen_takes words)
gen_level threads = level gen_takes (gen_shape threads) (gen_shape threads).rules (gen_long threads) (gen_option_id threads) (gen_place threads) (gen_place_id threads) (λ x. refl) (omega arith)
