-- How a watch stands to the state after the history that it was told. Devices of its contracts.
use Rattle.std.specs.Prelude.{ℕ, ◌+◌, ◌-◌, ◌^◌, ◌≡◌, ◌<◌, Bool, true, false, ◌&&◌, nat_eq, nat_lt, IsTrue}
use Rattle.std.specs.Prelude.{if◌then◌else◌, Option, Some, None, List, [], map, length, find, count_by, slice_index_or}
use Rattle.std.specs.List.{list_all}
use Rattle.ossl_base.specs.declared.entry.Entry.{Entry}
use Rattle.ossl_provider.specs.Members.{is_distinct, is_in}
use Rattle.ossl_provider.specs.Sheet.{Facts}
use Rattle.ossl_state.specs.declared.call.Call.{Call}
use Rattle.ossl_state.specs.declared.call.Reply.{Reply}
use Rattle.ossl_state.specs.declared.state.Born.{Born}
use Rattle.ossl_state.specs.declared.state.Given.{Given}
use Rattle.ossl_state.specs.declared.state.Kind.{Kind}
use Rattle.ossl_state.specs.declared.state.Kind.TheVariants as kinds
use Rattle.ossl_state.specs.declared.state.LibCtx.{LibCtx}
use Rattle.ossl_state.specs.declared.state.Live.{Live}
use Rattle.ossl_state.specs.declared.state.State.{State}
use Rattle.ossl_state.specs.History.{Fixed, IsLegal, IsNext, state_after}
use Rattle.ossl_state.specs.State.{lib_at, up_instances}
use Rattle.ossl_state.specs.Step.{element_of, is_armed, is_kept, is_of_token, kept_of}
use Rattle.ossl_watch.specs.declared.running.Running.{Running}
use Rattle.ossl_watch.specs.declared.token.Token.{Token}
use Rattle.ossl_watch.specs.declared.token.Token.TheVariants.{Activation, Method, Context}
use Rattle.ossl_watch.specs.Watched.{Watched, held_of, token_at}

-- whether the fallback keeps the box at a place active
abbrev pub kept_count : List Facts → LibCtx → ℕ → ℕ
kept_count facts lib k = if lib.is_open && is_kept (kept_of facts lib) k then 1 else 0

-- how many activations the box at a place has in a library context: those that loads gave, and the fallback's
abbrev pub activations_in : List Facts → LibCtx → ℕ → ℕ
activations_in facts lib k = count_by (λ g. nat_eq g.place k) lib.given + kept_count facts lib k

-- how many live elements hold an instance
abbrev pub holders_in : List Live → ℕ → ℕ
holders_in live n = count_by (λ x. is_in n x.held) live

-- an instance with what keeps it up in a state
abbrev pub running_of : List Facts → State → Born → Running
running_of facts s b = record {
  number = b.number;
  place = b.place;
  lib = b.lib;
  activations = activations_in facts (lib_at s b.lib) b.place;
  holders = holders_in s.live b.number;
}

-- those that are up
abbrev pub running_in : List Facts → State → List Running
running_in facts s = map (running_of facts s) (up_instances s)

abbrev pub token_kind : Token → Option Kind
token_kind (Activation l k) = None
token_kind (Method i) = Some kinds.Method
token_kind (Context i inner) = Some kinds.Context

-- a token stands for a live element
pub record IsTokenOf (x : Live) (token : Token) : Type 0 where
  pub kind : token_kind token ≡ Some x.kind
  pub held : x.held ≡ held_of token

abbrev pub number_of_given : Given → ℕ
number_of_given g = g.number

-- a watch agrees with a state
pub record Agrees (facts : List Facts) (s : State) (w : Watched) : Type 0 where
  pub next : w.next ≡ s.next
  pub contexts : length w.armed ≡ length s.libs
  pub armed : (l : ℕ) → l < length s.libs → slice_index_or w.armed l false ≡ is_armed (lib_at s l).fallback
  pub running : w.running ≡ running_in facts s
  pub activations : (l t : ℕ) (g : Given) → find (is_of_token t) (lib_at s l).given ≡ Some g →
      token_at w.tokens t ≡ Some (Activation l g.place)
  pub elements : (t : ℕ) (x : Live) → element_of s t ≡ Some x →
      (token : Token) × (token_at w.tokens t ≡ Some token) × IsTokenOf x token
  pub distinct : (l : ℕ) → IsTrue (is_distinct (map number_of_given (lib_at s l).given))
  pub below : (l : ℕ) → IsTrue (list_all (λ g. nat_lt g.number s.next) (lib_at s l).given)
  pub few : (l : ℕ) → length (lib_at s l).given < s.next

-- a watch was told a legal history
pub record IsWatching (fixed : Fixed) (entries : List (Entry Call Reply)) (w : Watched) : Type 0 where
  pub legal : IsLegal fixed entries
  pub agrees : Agrees fixed.facts (state_after fixed entries) w

-- the history that a watch was told, over boxes with these facts, and an entry that comes next
pub record IsToldNext
    (facts : List Facts) (fixed : Fixed) (entries : List (Entry Call Reply)) (w : Watched) (e : Entry Call Reply)
    : Type 0 where
  pub watching : IsWatching fixed entries w
  pub boxes : fixed.facts ≡ facts
  pub next : IsNext fixed entries e
  pub few : length entries < 2 ^ 63 - 1

-- some history was told to it that the entry may come next after
abbrev pub MayNote : List Facts → Watched → Entry Call Reply → Type 0
MayNote facts w e = (fixed : Fixed) × (entries : List (Entry Call Reply)) × IsToldNext facts fixed entries w e
