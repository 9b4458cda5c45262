-- Which keys of a library context are recent after a history, and which fetches find theirs (this project's own rules).
use Rattle.std.specs.Prelude.{ℕ, Bool, false, not, ◌&&◌, ◌||◌, nat_eq, if◌then◌else◌}
use Rattle.std.specs.Prelude.{List, [], ◌∷◌, ◌++◌, map, Option, None, Some, is_some}
use Rattle.std.specs.Cmp.Lexicographic.{pointwise}
use Rattle.std.specs.Map.{keys_of, lookup}
use Rattle.lru.specs.LruCache.{promoted}
use Rattle.ossl_base.specs.declared.entry.Entry.{Entry}
use Rattle.ossl_cache.specs.declared.key.Key.{Key}
use Rattle.ossl_cache.specs.declared.key.Kept.{Kept}
use Rattle.ossl_cache.specs.Recent.{Answer, same_key, with_answer}
use Rattle.ossl_names.specs.Groups.{number_of}
use Rattle.ossl_provider.specs.Sheet.{Facts}
use Rattle.ossl_state.specs.declared.call.Call.{Call}
use Rattle.ossl_state.specs.declared.call.Call.TheVariants.{SetDefault, Fetch, CloseLib}
use Rattle.ossl_state.specs.declared.call.Reply.{Reply}
use Rattle.ossl_state.specs.declared.call.Reply.TheVariants.{Fetched, Done}
use Rattle.ossl_state.specs.declared.state.Active.{Active}
use Rattle.ossl_state.specs.declared.state.State.{State}
use Rattle.ossl_state.specs.State.{lib_at, opening_state}
use Rattle.ossl_state.specs.History.{Fixed, after_entry, state_after}

-- a call and its reply
abbrev pub Event : Type 0
Event = Entry Call Reply

-- the same providers are active, in the same order
abbrev pub same_order : List Active → List Active → Bool
same_order before later = pointwise nat_eq (map (λ a. a.instance) before) (map (λ a. a.instance) later)

-- the default query of the library context was set, or it was closed
abbrev pub resets : ℕ → Call → Reply → Bool
resets l (SetDefault lib query) Done = nat_eq lib l
resets l (CloseLib lib) Done = nat_eq lib l
resets l call reply = false

-- what is left of the recent answers before an entry's look-up, from the states before and after it: all of them,
-- unless a provider became active in the library context or ceased to be, its default query was set, or it was closed
abbrev pub left : ℕ → State → State → Event → List Answer → List Answer
left l before later e recent =
    if resets l e.call e.reply || not (same_order (lib_at before l).order (lib_at later l).order) then [] else recent

-- the key of a fetch in the library context, where the name has a number
abbrev pub key_with : Option ℕ → (ℕ → Key) → Option Key
key_with None key = None
key_with (Some number) key = Some (key number)

abbrev pub key_of : ℕ → State → Call → Option Key
key_of l s (Fetch lib op name query) = if nat_eq lib l
    then key_with (number_of (lib_at s l).groups name) (λ number. record { op = op; number = number; query = query })
    else None
key_of l s call = None

-- what answered it
abbrev pub kept_of : Reply → Option Kept
kept_of (Fetched number provider instance row code) = Some (record { instance = instance; row = row; code = code })
kept_of reply = None

-- the key is among the recent ones
abbrev pub is_recent : Key → List Answer → Bool
is_recent key recent = is_some (lookup (same_key key) recent)

-- a key that is among them goes to the front; another is put there, and the last goes where there are 65
abbrev pub used : Key → Kept → List Answer → List Answer
used key kept recent = if is_recent key recent then promoted (same_key key) recent else with_answer key kept recent

-- a failed fetch is not kept
abbrev pub with_fetch : Option Key → Option Kept → List Answer → List Answer
with_fetch (Some key) (Some kept) recent = used key kept recent
with_fetch key kept recent = recent

-- the recent answers after an entry, from the states before and after it
abbrev pub recent_after : ℕ → State → State → Event → List Answer → List Answer
recent_after l before later e recent =
    with_fetch (key_of l later e.call) (kept_of e.reply) (left l before later e recent)

abbrev pub recent_from : ℕ → List Facts → State → List Event → List Answer → List Answer
recent_from l facts s [] recent = recent
recent_from l facts s (e ∷ es) recent = let later = after_entry facts s e in
    recent_from l facts later es (recent_after l s later e recent)

-- the recent answers of a library context after a history, the most recently used first
abbrev pub recent_answers : Fixed → List Event → ℕ → List Answer
recent_answers fixed entries l = recent_from l fixed.facts (opening_state fixed.contexts) entries []

-- its recent keys
abbrev pub recent_keys : Fixed → List Event → ℕ → List Key
recent_keys fixed entries l = keys_of (recent_answers fixed entries l)

-- an entry's key is among the recent ones
abbrev pub is_among : Option Key → List Answer → Bool
is_among None recent = false
is_among (Some key) recent = is_recent key recent

-- the library context of a fetch
abbrev pub fetched_in : Call → Option ℕ
fetched_in (Fetch lib op name query) = Some lib
fetched_in call = None

abbrev pub hits_in : List Facts → State → Option ℕ → Event → (ℕ → List Answer) → Bool
hits_in facts s None e recent = false
hits_in facts s (Some l) e recent =
    let later = after_entry facts s e in
    (lib_at s l).is_open && is_among (key_of l later e.call) (left l s later e (recent l))

-- the entry after a history is a fetch in an open library context whose key is recent once the fallback is active
abbrev pub is_hit : Fixed → List Event → Event → Bool
is_hit fixed past e = hits_in fixed.facts (state_after fixed past) (fetched_in e.call) e (recent_answers fixed past)

-- one mark for each entry: whether it is a hit
abbrev pub marks_from : Fixed → List Event → List Event → List Bool
marks_from fixed past [] = []
marks_from fixed past (e ∷ es) = is_hit fixed past e ∷ marks_from fixed (past ++ e ∷ []) es

abbrev pub marks : Fixed → List Event → List Bool
marks fixed entries = marks_from fixed [] entries
