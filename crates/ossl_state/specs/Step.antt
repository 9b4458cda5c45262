-- One step of the registry (provider(7), OSSL_PROVIDER(3)): where a reply may come, and what it leaves.
use Rattle.std.specs.Prelude.{ℕ, ◌+◌, ◌≡◌, ⊤, Bool, true, false, ◌&&◌, ◌||◌, nat_eq, not, IsTrue, IsFalse}
use Rattle.std.specs.Prelude.{if◌then◌else◌, List, [], ◌∷◌, ◌++◌, find, filter, position, unwrap_or, is_some, is_none}
use Rattle.std.specs.Prelude.{None, Some}
use Rattle.std.specs.List.{list_any}
use Rattle.std.specs.Option.{option_map}
use Rattle.std.specs.declared.option.Option.{Option}
use Rattle.ossl_provider.specs.Sheet.{Facts}
use Rattle.ossl_state.specs.declared.call.Call.{Call}
use Rattle.ossl_state.specs.declared.call.Call.TheVariants.{Load, Unload, SetDefault, Fetch, UpRef, Free, NewCtx}
use Rattle.ossl_state.specs.declared.call.Call.TheVariants.{FreeCtx, CloseLib}
use Rattle.ossl_state.specs.declared.call.Reply.{Reply}
use Rattle.ossl_state.specs.declared.call.Reply.TheVariants.{Loaded, Fetched, Made, Done, NoLib, NoProvider}
use Rattle.ossl_state.specs.declared.call.Reply.TheVariants.{StartRefused, Unsupported, NotAdmitted}
use Rattle.ossl_state.specs.declared.state.Active.{Active}
use Rattle.ossl_state.specs.declared.state.Born.{Born}
use Rattle.ossl_state.specs.declared.state.Choice.{Choice}
use Rattle.ossl_state.specs.declared.state.Fallback.{Fallback}
use Rattle.ossl_state.specs.declared.state.Fallback.TheVariants.{Armed, Off, Used}
use Rattle.ossl_state.specs.declared.state.Given.{Given}
use Rattle.ossl_state.specs.declared.state.Kind.TheVariants.{Method, Context}
use Rattle.ossl_state.specs.declared.state.LibCtx.{LibCtx}
use Rattle.ossl_state.specs.declared.state.Live.{Live}
use Rattle.ossl_state.specs.declared.state.State.{State}
use Rattle.ossl_state.specs.Best.{best_method}
use Rattle.ossl_state.specs.Boxes.{facts_at, place_of, default_name}
use Rattle.ossl_names.specs.Groups.{Groups}
use Rattle.ossl_property.specs.declared.clause.Clause.{Clause}
use Rattle.ossl_state.specs.declared.offer.Offer.{Offer}
use Rattle.ossl_state.specs.Rows.{offered}
use Rattle.ossl_state.specs.State.{lib_at, with_lib, is_active_box, is_held, up_in}

-- 1. A provider becomes active in a library context.

-- the instance of a box that was started in a library context and that a live element still holds
abbrev pub held_instance : State → ℕ → ℕ → Option ℕ
held_instance s l k = option_map (λ b. b.number)
    (find (λ b. nat_eq b.lib l && nat_eq b.place k && is_held b.number s.live) s.born)

-- an activation of a box starts it: it is not active in the library context, and no instance of it is held there
abbrev pub needs_birth : State → ℕ → ℕ → Bool
needs_birth s l k = not (is_active_box k (lib_at s l).order) && is_none (held_instance s l k)

-- the pair of a box and its instance goes to the end of the order
abbrev pub joined_of : LibCtx → ℕ → ℕ → LibCtx
joined_of lib k n = record lib { order = lib.order ++ record { place = k; instance = n } ∷ [] }

abbrev pub with_active : State → ℕ → ℕ → ℕ → State
with_active s l k n = with_lib s l (joined_of (lib_at s l) k n)

-- what the box at a place offers where it starts in a library context
abbrev pub offer_of : List Facts → State → ℕ → ℕ → Offer
offer_of facts s l k = offered (lib_at s l).groups (facts_at facts k).rows

-- the instance that a start makes: its number is that of the entry, and its rows are fixed at its start
abbrev pub new_instance : List Facts → State → ℕ → ℕ → Born
new_instance facts s l k =
    let offer = offer_of facts s l k in
    record { number = s.next; lib = l; place = k; rows = offer.rows; skipped = offer.skipped }

-- the names of its rows join the groups of the library context
abbrev pub grouped_of : LibCtx → Groups → LibCtx
grouped_of lib groups = record lib { groups = groups }

abbrev pub with_groups : State → ℕ → Groups → State
with_groups s l groups = with_lib s l (grouped_of (lib_at s l) groups)

abbrev pub with_born : State → Born → State
with_born s b = record s { born = s.born ++ b ∷ [] }

abbrev pub with_instance : List Facts → State → ℕ → ℕ → Option ℕ → State
with_instance facts s l k (Some n) = with_active s l k n
with_instance facts s l k None =
    with_active (with_born (with_groups s l (offer_of facts s l k).groups) (new_instance facts s l k)) l k s.next

-- nothing where the box is active there already; else its held instance goes on, or a new one is born
abbrev pub after_activation : List Facts → State → ℕ → ℕ → State
after_activation facts s l k =
    if is_active_box k (lib_at s l).order then s else with_instance facts s l k (held_instance s l k)

-- 2. A fetch falls back to the provider `default`.

abbrev pub is_armed : Fallback → Bool
is_armed Armed = true
is_armed Off = false
is_armed Used = false

abbrev pub used_of : LibCtx → LibCtx
used_of lib = record lib { fallback = Used }

abbrev pub with_fallback_used : State → ℕ → State
with_fallback_used s l = with_lib s l (used_of (lib_at s l))

-- the box that a fetch falls back to: the one of the name `default`, while the fallback is armed
abbrev pub fallback_of : List Facts → LibCtx → Option ℕ
fallback_of facts lib = if is_armed lib.fallback then place_of default_name facts else None

abbrev pub after_fallback_to : List Facts → State → ℕ → Option ℕ → State
after_fallback_to facts s l None = s
after_fallback_to facts s l (Some k) = with_fallback_used (after_activation facts s l k) l

-- the state in which a fetch looks: as it was where it does not fall back; else that box is active, and the fallback
-- used
abbrev pub after_fallback : List Facts → State → ℕ → State
after_fallback facts s l = after_fallback_to facts s l (fallback_of facts (lib_at s l))

-- a box may refuse its start only where a start is made: no instance of it that was started in this context is up
abbrev pub MayRefuse : State → ℕ → Option ℕ → Type 0
MayRefuse s l None = ⊥
MayRefuse s l (Some k) = up_in s l k ≡ []

-- 3. Activations that loads give. One keeps its provider active until it is given back or its library context closes.

-- a load that does not retain the fallback switches an armed one off
abbrev pub fallback_after_load : Bool → Fallback → Fallback
fallback_after_load true fallback = fallback
fallback_after_load false Armed = Off
fallback_after_load false Off = Off
fallback_after_load false Used = Used

abbrev pub loaded_of : Bool → Given → LibCtx → LibCtx
loaded_of retain g lib = record lib { fallback = fallback_after_load retain lib.fallback; given = lib.given ++ g ∷ [] }

-- the activation that a load of the box at a place gives
abbrev pub activation_given : State → ℕ → ℕ → Given
activation_given s c k = record { number = s.next; place = k; owner = c }

abbrev pub with_given : State → ℕ → Bool → Given → State
with_given s l retain g = with_lib s l (loaded_of retain g (lib_at s l))

-- the box becomes active, and the caller has an activation of it
abbrev pub after_load_of : List Facts → State → ℕ → ℕ → Bool → ℕ → State
after_load_of facts s c l retain k = with_given (after_activation facts s l k) l retain (activation_given s c k)

-- None never comes where a load is accepted
abbrev pub after_load : List Facts → State → ℕ → ℕ → Bool → Option ℕ → State
after_load facts s c l retain None = s
after_load facts s c l retain (Some k) = after_load_of facts s c l retain k

-- the instance of a box in an order; 0 never comes where the box is active
abbrev pub instance_in : List Active → ℕ → ℕ
instance_in order k = unwrap_or (option_map (λ a. a.instance) (find (λ a. nat_eq a.place k) order)) 0

-- how many rows of an instance were left out; 0 also where there is no such instance
abbrev pub skipped_of : List Born → ℕ → ℕ
skipped_of born n = unwrap_or (option_map (λ b. b.skipped) (find (λ b. nat_eq b.number n) born)) 0

-- what a load answers once the box at a place is active: its token, the box's instance in the order, and its rows that
-- were left out
abbrev pub loaded_reply : State → ℕ → ℕ → ℕ → Reply
loaded_reply active n l k = let i = instance_in (lib_at active l).order k in Loaded n i (skipped_of active.born i)

-- a load of a box that is in the catalogue is answered with what it leaves active
abbrev pub IsLoaded : List Facts → State → ℕ → Reply → Option ℕ → Type 0
IsLoaded facts s l reply None = ⊥
IsLoaded facts s l reply (Some k) = reply ≡ loaded_reply (after_activation facts s l k) s.next l k

-- the activation that a token names
abbrev pub is_of_token : ℕ → Given → Bool
is_of_token t g = nat_eq g.number t

-- the library context in which a token's activation was given
abbrev pub holder_of : State → ℕ → Option ℕ
holder_of s t = position (λ lib. list_any (is_of_token t) lib.given) s.libs

abbrev pub is_used : Fallback → Bool
is_used Used = true
is_used Armed = false
is_used Off = false

-- the box that the fallback itself keeps active: `default`, once a fetch has fallen back to it
abbrev pub kept_of : List Facts → LibCtx → Option ℕ
kept_of facts lib = if is_used lib.fallback then place_of default_name facts else None

abbrev pub is_kept : Option ℕ → ℕ → Bool
is_kept None k = false
is_kept (Some j) k = nat_eq j k

-- an active provider stays while it has an activation or the fallback keeps it
abbrev pub stays_active : Option ℕ → List Given → Active → Bool
stays_active kept given a = list_any (λ g. nat_eq g.place a.place) given || is_kept kept a.place

abbrev pub settled_of : Option ℕ → LibCtx → LibCtx
settled_of kept lib = record lib { order = filter (stays_active kept lib.given) lib.order }

abbrev pub returned_of : ℕ → LibCtx → LibCtx
returned_of t lib = record lib { given = filter (λ g. not (is_of_token t g)) lib.given }

-- a token's activation goes, and with it the provider where nothing else keeps it active
abbrev pub unloaded_of : Option ℕ → ℕ → LibCtx → LibCtx
unloaded_of kept t lib = settled_of kept (returned_of t lib)

abbrev pub with_unloaded : State → ℕ → ℕ → Option ℕ → State
with_unloaded s l t kept = with_lib s l (unloaded_of kept t (lib_at s l))

-- None never comes where an unload is carried out: the activation went when its library context closed
abbrev pub after_unload : List Facts → State → ℕ → Option ℕ → State
after_unload facts s t None = s
after_unload facts s t (Some l) = with_unloaded s l t (kept_of facts (lib_at s l))

-- 4. Live elements.

abbrev pub is_owned_by : ℕ → Live → Bool
is_owned_by c x = nat_eq x.owner c

-- the live element that a token names
abbrev pub is_named : ℕ → Live → Bool
is_named t x = nat_eq x.number t

abbrev pub element_of : State → ℕ → Option Live
element_of s t = find (is_named t) s.live

abbrev pub with_element : State → Live → State
with_element s x = record s { live = s.live ++ x ∷ [] }

abbrev pub without_element : State → ℕ → State
without_element s t = record s { live = filter (λ x. not (is_named t x)) s.live }

-- a method holds the instance whose row was chosen
abbrev pub new_method : ℕ → ℕ → Choice → Live
new_method n c chosen = record {
  number = n;
  owner = c;
  kind = Method;
  held = chosen.instance ∷ [];
  place = chosen.place;
  row = chosen.row;
  code = chosen.code;
}

-- None never comes where a fetch is answered
abbrev pub with_method : State → ℕ → Option Choice → State
with_method s c None = s
with_method s c (Some chosen) = with_element s (new_method s.next c chosen)

-- None never comes in a legal history
abbrev pub held_by : Option Live → List ℕ
held_by None = []
held_by (Some x) = x.held

abbrev pub held_by_inner : State → Option ℕ → List ℕ
held_by_inner s None = []
held_by_inner s (Some t) = held_by (element_of s t)

-- a second method is as the first, with a token and an owner of its own
abbrev pub second_method : ℕ → ℕ → Live → Live
second_method n c x = record x { number = n; owner = c }

-- None never comes in a legal history
abbrev pub with_second : State → ℕ → Option Live → State
with_second s c None = s
with_second s c (Some x) = with_element s (second_method s.next c x)

-- an operation context has the method's provider, row and code, and holds the instances of the method and of the inner
-- one
abbrev pub new_context : State → ℕ → Option ℕ → Live → Live
new_context s c inner m =
    record {
      number = s.next;
      owner = c;
      kind = Context;
      held = m.held ++ held_by_inner s inner;
      place = m.place;
      row = m.row;
      code = m.code;
    }

-- None never comes in a legal history
abbrev pub with_context : State → ℕ → Option ℕ → Option Live → State
with_context s c inner None = s
with_context s c inner (Some m) = with_element s (new_context s c inner m)

-- whether the box of a method admits its code with a key of this length; None never comes in a legal history
abbrev pub admits : List Facts → ℕ → Option Live → Bool
admits facts len None = false
admits facts len (Some m) = (facts_at facts m.place).admits m.code len

-- the operation context that a call makes: none where the method is not there, or its box does not admit it
abbrev pub context_made : List Facts → State → ℕ → Option ℕ → ℕ → Option Live → Option Live
context_made facts s c inner len None = None
context_made facts s c inner len (Some m) =
    if (facts_at facts m.place).admits m.code len then Some (new_context s c inner m) else None

-- 5. A library context closes.

abbrev pub closed_of : LibCtx → LibCtx
closed_of lib = record lib { is_open = false; given = []; order = []; groups = [] }

abbrev pub with_closed : State → ℕ → State
with_closed s l = with_lib s l (closed_of (lib_at s l))

-- 6. The default query of a library context.

abbrev pub defaulted_of : LibCtx → List Clause → LibCtx
defaulted_of lib query = record lib { default = query }

abbrev pub with_default : State → ℕ → List Clause → State
with_default s l query = with_lib s l (defaulted_of (lib_at s l) query)

-- 7. The table of steps.

-- what a fetch answers of its choice
abbrev pub fetched_of : List Facts → ℕ → Option Choice → Reply
fetched_of facts n None = Unsupported
fetched_of facts n (Some chosen) = Fetched n (facts_at facts chosen.place).name chosen.instance chosen.row chosen.code

-- where a reply to a call may come
abbrev pub Answers : List Facts → State → ℕ → Call → Reply → Type 0
Answers facts s c (Load l name retain) NoLib = IsFalse (lib_at s l).is_open
Answers facts s c (Load l name retain) NoProvider = IsTrue (lib_at s l).is_open × (place_of name facts ≡ None)
Answers facts s c (Load l name retain) (StartRefused p) =
    IsTrue (lib_at s l).is_open × (p ≡ name) × MayRefuse s l (place_of name facts)
Answers facts s c (Load l name retain) (Loaded n i skipped) =
    IsTrue (lib_at s l).is_open × IsLoaded facts s l (Loaded n i skipped) (place_of name facts)
Answers facts s c (Unload t) NoLib = holder_of s t ≡ None
Answers facts s c (Unload t) Done = IsTrue (is_some (holder_of s t))
Answers facts s c (SetDefault l query) NoLib = IsFalse (lib_at s l).is_open
Answers facts s c (SetDefault l query) Done = IsTrue (lib_at s l).is_open
Answers facts s c (Fetch l op name query) NoLib = IsFalse (lib_at s l).is_open
Answers facts s c (Fetch l op name query) (StartRefused p) =
    IsTrue (lib_at s l).is_open × IsTrue (is_armed (lib_at s l).fallback) × (p ≡ default_name)
    × MayRefuse s l (place_of default_name facts)
Answers facts s c (Fetch l op name query) (Fetched n p i r code) =
    IsTrue (lib_at s l).is_open
    × (Fetched n p i r code ≡ fetched_of facts s.next (best_method (after_fallback facts s l) l op name query))
Answers facts s c (Fetch l op name query) Unsupported =
    IsTrue (lib_at s l).is_open × (best_method (after_fallback facts s l) l op name query ≡ None)
Answers facts s c (UpRef h) (Made n) = n ≡ s.next
Answers facts s c (Free h) Done = ⊤
Answers facts s c (FreeCtx h) Done = ⊤
Answers facts s c (NewCtx h inner len) NotAdmitted = IsFalse (admits facts len (element_of s h))
Answers facts s c (NewCtx h inner len) (Made n) = IsTrue (admits facts len (element_of s h)) × (n ≡ s.next)
Answers facts s c (CloseLib l) NoLib = IsFalse (lib_at s l).is_open
Answers facts s c (CloseLib l) Done = IsTrue (lib_at s l).is_open
-- no other pair of call and reply is a step
Answers facts s c call reply = ⊥

-- what a call and its reply leave, but for the number of the next entry
abbrev pub left_by : List Facts → State → ℕ → Call → Reply → State
left_by facts s c (Load l name retain) NoLib = s
left_by facts s c (Load l name retain) NoProvider = s
left_by facts s c (Load l name retain) (StartRefused p) = s
left_by facts s c (Load l name retain) (Loaded n i skipped) = after_load facts s c l retain (place_of name facts)
left_by facts s c (Unload t) NoLib = s
left_by facts s c (Unload t) Done = after_unload facts s t (holder_of s t)
left_by facts s c (SetDefault l query) NoLib = s
left_by facts s c (SetDefault l query) Done = with_default s l query
left_by facts s c (Fetch l op name query) NoLib = s
left_by facts s c (Fetch l op name query) (StartRefused p) = s
left_by facts s c (Fetch l op name query) (Fetched n p i r code) =
    let f = after_fallback facts s l in with_method f c (best_method f l op name query)
left_by facts s c (Fetch l op name query) Unsupported = after_fallback facts s l
left_by facts s c (UpRef h) (Made n) = with_second s c (element_of s h)
left_by facts s c (Free h) Done = without_element s h
left_by facts s c (FreeCtx h) Done = without_element s h
left_by facts s c (NewCtx h inner len) NotAdmitted = s
left_by facts s c (NewCtx h inner len) (Made n) = with_context s c inner (element_of s h)
left_by facts s c (CloseLib l) NoLib = s
left_by facts s c (CloseLib l) Done = with_closed s l
-- no other pair of call and reply is a step
left_by facts s c call reply = s

-- the next entry has the next number
abbrev pub with_next : State → State
with_next s = record s { next = s.next + 1 }

-- the state after an answered call
abbrev pub after_call : List Facts → State → ℕ → Call → Reply → State
after_call facts s c call reply = with_next (left_by facts s c call reply)
