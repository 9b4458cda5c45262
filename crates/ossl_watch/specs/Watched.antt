-- What a watch keeps of a history, and how an entry changes it. Devices: what an entry starts and stops is
-- said in Changes.
use Rattle.std.specs.Prelude.{ℕ, ◌+◌, ◌-◌, Bool, true, false, ◌&&◌, ◌||◌, not, nat_eq, nat_lt, if◌then◌else◌, Option}
use Rattle.std.specs.Prelude.{Some, None, List, [], ◌∷◌, ◌++◌, map, filter, replicate, slice_set, slice_index_or}
use Rattle.std.specs.List.{list_any, list_all}
use Rattle.std.specs.Map.{lookup, remove_entry}
use Rattle.std.specs.BTreeMap.{is_at, insert_entry}
use Rattle.std.specs.Ordering.{nat_cmp}
use Rattle.ossl_base.specs.declared.entry.Entry.{Entry}
use Rattle.ossl_provider.specs.Members.{is_in}
use Rattle.ossl_provider.specs.Sheet.{Facts}
use Rattle.ossl_state.specs.declared.call.Call.{Call}
use Rattle.ossl_state.specs.declared.call.Call.TheVariants.{Load, Unload, SetDefault, Fetch, UpRef, Free, NewCtx}
use Rattle.ossl_state.specs.declared.call.Call.TheVariants.{FreeCtx, CloseLib}
use Rattle.ossl_state.specs.declared.call.Reply.{Reply}
use Rattle.ossl_state.specs.declared.call.Reply.TheVariants.{Loaded, Fetched, Made, Done, NoLib, NoProvider}
use Rattle.ossl_state.specs.declared.call.Reply.TheVariants.{StartRefused, Unsupported, NotAdmitted}
use Rattle.ossl_state.specs.Boxes.{place_of, default_name}
use Rattle.ossl_watch.specs.declared.running.Running.{Running}
use Rattle.ossl_watch.specs.declared.token.Token.{Token}
use Rattle.ossl_watch.specs.declared.token.Token.TheVariants.{Activation, Method, Context}
use Rattle.ossl_watch.specs.declared.token.Use.{Use}
use Rattle.ossl_watch.specs.declared.token.Use.TheVariants.{Activated, Deactivated, Held, Released, Closed}
use Rattle.ossl_watch.specs.declared.up.Up.{Up}

-- 1. An instance that is up.

abbrev pub up_of : Running → Up
up_of r = record { place = r.place; number = r.number }

-- something keeps it up
abbrev pub is_used : Running → Bool
is_used r = not (nat_eq r.activations 0) || not (nat_eq r.holders 0)

-- it is one of the box at a place, in a library context
abbrev pub is_box_of : ℕ → ℕ → Running → Bool
is_box_of l k r = nat_eq r.lib l && nat_eq r.place k

abbrev pub has_box : ℕ → ℕ → List Running → Bool
has_box l k rs = list_any (is_box_of l k) rs

-- the instances that a token's live element holds
abbrev pub held_of : Token → List ℕ
held_of (Activation l k) = []
held_of (Method i) = i ∷ []
held_of (Context i None) = i ∷ []
held_of (Context i (Some j)) = i ∷ j ∷ []

-- what ends where a token is given back
abbrev pub ended_by : Token → Use
ended_by (Activation l k) = Deactivated l k
ended_by (Method i) = Released (Method i)
ended_by (Context i inner) = Released (Context i inner)

-- what keeps it up once its uses have changed
abbrev pub after_use : Use → Running → Running
after_use (Activated l k) r = if is_box_of l k r then record r { activations = r.activations + 1 } else r
after_use (Deactivated l k) r = if is_box_of l k r then record r { activations = r.activations - 1 } else r
after_use (Held token) r = if is_in r.number (held_of token) then record r { holders = r.holders + 1 } else r
after_use (Released token) r = if is_in r.number (held_of token) then record r { holders = r.holders - 1 } else r
after_use (Closed l) r = if nat_eq r.lib l then record r { activations = 0 } else r

-- each count is below a bound
abbrev pub are_below : ℕ → List Running → Bool
are_below n rs = list_all (λ r. nat_lt r.activations n && nat_lt r.holders n) rs

-- those that are left, and those that go, once the uses have changed
abbrev pub left_after : Use → List Running → List Running
left_after change rs = filter is_used (map (after_use change) rs)

abbrev pub going_by : Use → List Running → List Up
going_by change rs = map up_of (filter (λ r. not (is_used r)) (map (after_use change) rs))

-- an instance that is born, before anything uses it
abbrev pub born_at : ℕ → ℕ → ℕ → Running
born_at n l k = record { number = n; place = k; lib = l; activations = 0; holders = 0 }

-- the instances with one of the box at a place: one is born where there is none
abbrev pub with_box : ℕ → ℕ → ℕ → List Running → List Running
with_box n l k rs = if has_box l k rs then rs else rs ++ born_at n l k ∷ []

abbrev pub activated : ℕ → ℕ → ℕ → List Running → List Running
activated n l k rs = map (after_use (Activated l k)) (with_box n l k rs)

-- what that starts
abbrev pub birth : ℕ → ℕ → ℕ → List Running → List Up
birth n l k rs = if has_box l k rs then [] else up_of (born_at n l k) ∷ []

-- 2. The watch.

-- the number of the next entry, which library contexts have their fallback armed, the instances that are up,
-- and the tokens
-- that are out
pub record Watched : Type 0 where
  pub next : ℕ
  pub armed : List Bool
  pub running : List Running
  pub tokens : List (ℕ × Token)

-- before any entry
abbrev pub opening_watch : ℕ → Watched
opening_watch contexts = record { next = 1; armed = replicate contexts true; running = []; tokens = [] }

-- what a token stands for, where it is out
abbrev pub token_at : List (ℕ × Token) → ℕ → Option Token
token_at tokens t = lookup (is_at (nat_cmp t)) tokens

abbrev pub with_token : List (ℕ × Token) → ℕ → Token → List (ℕ × Token)
with_token tokens t token = insert_entry nat_cmp tokens t token

abbrev pub without_token : List (ℕ × Token) → ℕ → List (ℕ × Token)
without_token tokens t = remove_entry (is_at (nat_cmp t)) tokens

-- a box becomes active in a library context; None never comes in a legal history
abbrev pub armed_after : Bool → List Bool → ℕ → List Bool
armed_after retain armed l = if retain then armed else slice_set armed l false

abbrev pub loaded : Watched → ℕ → Bool → Option ℕ → Watched
loaded w l retain None = w
loaded w l retain (Some k) = record w {
  armed = armed_after retain w.armed l;
  running = activated w.next l k w.running;
  tokens = with_token w.tokens w.next (Activation l k);
}

-- the box that a fetch falls back to
abbrev pub fallback_at : List Facts → List Bool → ℕ → Option ℕ
fallback_at facts armed l = if slice_index_or armed l false then place_of default_name facts else None

-- a fetch falls back to a box, or to none
abbrev pub fallen_armed : Option ℕ → ℕ → List Bool → List Bool
fallen_armed None l armed = armed
fallen_armed (Some k) l armed = slice_set armed l false

abbrev pub fallen_running : Option ℕ → ℕ → ℕ → List Running → List Running
fallen_running None n l rs = rs
fallen_running (Some k) n l rs = activated n l k rs

abbrev pub birth_of : Option ℕ → ℕ → ℕ → List Running → List Up
birth_of None n l rs = []
birth_of (Some k) n l rs = birth n l k rs

abbrev pub fallen : List Facts → Watched → ℕ → Watched
fallen facts w l =
    let o = fallback_at facts w.armed l in
    record w { armed = fallen_armed o l w.armed; running = fallen_running o w.next l w.running }

-- a live element is made
abbrev pub handed : Watched → Token → Watched
handed w token = record w {
  running = map (after_use (Held token)) w.running;
  tokens = with_token w.tokens w.next token;
}

-- None never comes in a legal history
abbrev pub handed_if : Watched → Option Token → Watched
handed_if w None = w
handed_if w (Some token) = handed w token

-- the instance of a method
abbrev pub method_in : Option Token → Option ℕ
method_in (Some (Method i)) = Some i
method_in token = None

-- the operation context of a method, with an inner method or without one
abbrev pub context_of : Option ℕ → Option ℕ → Option Token
context_of None inner = None
context_of (Some i) inner = Some (Context i inner)

abbrev pub inner_in : List (ℕ × Token) → Option ℕ → Option ℕ
inner_in tokens None = None
inner_in tokens (Some t) = method_in (token_at tokens t)

abbrev pub context_made : Watched → ℕ → Option ℕ → Option Token
context_made w h inner = context_of (method_in (token_at w.tokens h)) (inner_in w.tokens inner)

-- a token is given back, and what it stood for goes
abbrev pub spent_as : Watched → ℕ → Option Token → Watched
spent_as w t None = w
spent_as w t (Some token) = record w {
  running = left_after (ended_by token) w.running;
  tokens = without_token w.tokens t;
}

abbrev pub spent : Watched → ℕ → Watched
spent w t = spent_as w t (token_at w.tokens t)

abbrev pub closed : Watched → ℕ → Watched
closed w l = record w { running = left_after (Closed l) w.running }

-- 3. The entries.

-- what a call and its reply leave, but for the number of the next entry
abbrev pub noted_by : List Facts → Watched → Call → Reply → Watched
noted_by facts w (Load l name retain) (Loaded n i skipped) = loaded w l retain (place_of name facts)
noted_by facts w (Unload t) Done = spent w t
noted_by facts w (Fetch l op name query) Unsupported = fallen facts w l
noted_by facts w (Fetch l op name query) (Fetched n p i r code) = handed (fallen facts w l) (Method i)
noted_by facts w (UpRef h) (Made n) = handed_if w (token_at w.tokens h)
noted_by facts w (Free h) Done = spent w h
noted_by facts w (FreeCtx h) Done = spent w h
noted_by facts w (NewCtx h inner len) (Made n) = handed_if w (context_made w h inner)
noted_by facts w (CloseLib l) Done = closed w l
noted_by facts w call reply = w

abbrev pub noted : List Facts → Watched → Entry Call Reply → Watched
noted facts w e = record (noted_by facts w e.call e.reply) { next = w.next + 1 }

-- what they start
abbrev pub starts_told : List Facts → Watched → Call → Reply → List Up
starts_told facts w (Load l name retain) (Loaded n i skipped) = birth_of (place_of name facts) w.next l w.running
starts_told facts w (Fetch l op name query) Unsupported = birth_of (fallback_at facts w.armed l) w.next l w.running
starts_told facts w (Fetch l op name query) (Fetched n p i r code) =
    birth_of (fallback_at facts w.armed l) w.next l w.running
starts_told facts w call reply = []

-- and what they stop
abbrev pub going_as : Watched → Option Token → List Up
going_as w None = []
going_as w (Some token) = going_by (ended_by token) w.running

abbrev pub stops_told : List Facts → Watched → Call → Reply → List Up
stops_told facts w (Unload t) Done = going_as w (token_at w.tokens t)
stops_told facts w (Free t) Done = going_as w (token_at w.tokens t)
stops_told facts w (FreeCtx t) Done = going_as w (token_at w.tokens t)
stops_told facts w (CloseLib l) Done = going_by (Closed l) w.running
stops_told facts w call reply = []
