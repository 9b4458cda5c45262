-- What holds of the state after every legal history.
use Rattle.std.specs.Prelude.{ℕ, ◌≡◌, ◌<◌, ◌+◌, Bool, true, false, not, ◌&&◌, nat_eq, nat_lt, IsTrue, List, [], ◌∷◌}
use Rattle.std.specs.Prelude.{◌++◌, length, map, filter, count_by}
use Rattle.std.specs.List.{list_any, list_all}
use Rattle.ossl_base.specs.declared.entry.Entry.{Entry}
use Rattle.ossl_provider.specs.Members.{is_distinct}
use Rattle.ossl_state.specs.declared.call.Call.{Call}
use Rattle.ossl_state.specs.declared.call.Call.TheVariants.{Load, Unload}
use Rattle.ossl_state.specs.declared.call.Reply.{Reply}
use Rattle.ossl_state.specs.declared.call.Reply.TheVariants.{Loaded}
use Rattle.ossl_state.specs.declared.state.Active.{Active}
use Rattle.ossl_state.specs.declared.state.Born.{Born}
use Rattle.ossl_state.specs.declared.state.Kind.{Kind}
use Rattle.ossl_state.specs.declared.state.Kind.TheVariants.{Method, Context}
use Rattle.ossl_state.specs.declared.state.LibCtx.{LibCtx}
use Rattle.ossl_state.specs.declared.state.Live.{Live}
use Rattle.ossl_state.specs.declared.state.State.{State}
use Rattle.ossl_state.specs.History.{Fixed, IsLegal, state_after}
use Rattle.ossl_state.specs.State.{lib_at, is_of_box, up_instances}
use Rattle.ossl_state.specs.Step.{is_owned_by}
use Rattle.ossl_state.specs.Tokens.{Token, activation_token, method_token, context_token, entries_of, owns}

abbrev pub number_of_born : Born → ℕ
number_of_born b = b.number

abbrev pub lib_of_born : Born → ℕ
lib_of_born b = b.lib

abbrev pub number_of_live : Live → ℕ
number_of_live x = x.number

-- an active provider's instance is one of that provider, started in that library context
abbrev pub is_paired : List Born → ℕ → Active → Bool
is_paired born l a = list_any (λ b. nat_eq b.number a.instance && nat_eq b.place a.place && nat_eq b.lib l) born

-- the instances and the library contexts, with numbers below n
pub record HasSoundInstances (fixed : Fixed) (n : ℕ) (s : State) : Type 0 where
  pub distinct : IsTrue (is_distinct (map number_of_born s.born))
  pub below : IsTrue (list_all (λ b. nat_lt b.number n) s.born)
  pub few : length s.born < n
  pub places : IsTrue (list_all (λ b. nat_lt b.place (length fixed.facts)) s.born)
  pub libs : IsTrue (list_all (λ b. nat_lt b.lib fixed.contexts) s.born)
  pub contexts : length s.libs ≡ fixed.contexts
  pub paired : (l : ℕ) → IsTrue (list_all (is_paired s.born l) (lib_at s l).order)
  -- a box has at most one instance in a library context that is up
  pub single : (k : ℕ) → IsTrue (is_distinct (map lib_of_born (filter (is_of_box k) (up_instances s))))

-- the live elements, with numbers below n
pub record HasSoundElements (n : ℕ) (live : List Live) : Type 0 where
  pub distinct : IsTrue (is_distinct (map number_of_live live))
  pub below : IsTrue (list_all (λ x. nat_lt x.number n) live)
  pub few : length live < n

abbrev pub is_kind : Kind → Kind → Bool
is_kind Method Method = true
is_kind Context Context = true
is_kind Method Context = false
is_kind Context Method = false

-- a live element of a kind that a caller owns
abbrev pub is_own : ℕ → Kind → Live → Bool
is_own c kind x = is_owned_by c x && is_kind x.kind kind

-- an activation that was handed out and not given back, also where its library context has closed
pub record Lent : Type 0 where
  pub number : ℕ
  pub owner : ℕ

abbrev pub number_of_lent : Lent → ℕ
number_of_lent x = x.number

abbrev pub is_lent_to : ℕ → Lent → Bool
is_lent_to c x = nat_eq x.owner c

abbrev pub lent_by : List Lent → ℕ → Call → Reply → List Lent
lent_by lent c (Load l name retain) (Loaded n i skipped) = lent ++ record { number = n; owner = c } ∷ []
lent_by lent c (Unload t) reply = filter (λ x. not (nat_eq x.number t)) lent
lent_by lent c call reply = lent

abbrev pub lent_from : List Lent → List (Entry Call Reply) → List Lent
lent_from lent [] = lent
lent_from lent (e ∷ es) = lent_from (lent_by lent e.caller e.call e.reply) es

-- those of a history
abbrev pub lent_after : List (Entry Call Reply) → List Lent
lent_after entries = lent_from [] entries

-- how many activations a reply hands out
abbrev pub lent_with : Reply → ℕ
lent_with (Loaded n i skipped) = 1
lent_with reply = 0

-- the activations, with numbers below n
pub record HasSoundActivations (n : ℕ) (lent : List Lent) : Type 0 where
  pub distinct : IsTrue (is_distinct (map number_of_lent lent))
  pub below : IsTrue (list_all (λ x. nat_lt x.number n) lent)

-- a caller's token is live, or its activation lent
abbrev pub is_live : List Live → List Lent → ℕ → ℕ → Token → Bool
is_live live lent c t activation_token = list_any (λ x. nat_eq x.number t && is_lent_to c x) lent
is_live live lent c t method_token = list_any (λ x. nat_eq x.number t && is_own c Method x) live
is_live live lent c t context_token = list_any (λ x. nat_eq x.number t && is_own c Context x) live

-- what holds after a legal history
pub record IsSound (fixed : Fixed) (s : State) (entries : List (Entry Call Reply)) : Type 0 where
  pub instances : HasSoundInstances fixed s.next s
  pub elements : HasSoundElements s.next s.live
  pub activations : HasSoundActivations s.next (lent_after entries)
  -- a token that is owned is live
  pub owned : (c t : ℕ) (token : Token) → IsTrue (owns (entries_of c entries) t token)
      → IsTrue (is_live s.live (lent_after entries) c t token)

-- every legal history leaves a sound state
abbrev pub LegalIsSound : Type 0
LegalIsSound = (fixed : Fixed) (entries : List (Entry Call Reply)) → IsLegal fixed entries
    → IsSound fixed (state_after fixed entries) entries

-- how many library contexts are open
abbrev pub open_count : List LibCtx → ℕ
open_count libs = count_by (λ lib. lib.is_open) libs

-- how many entries it takes at most to give everything back but the activations: one for each live element, and one for
-- each open context
abbrev pub giving_back : State → ℕ
giving_back s = length s.live + open_count s.libs
