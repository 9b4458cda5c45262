-- The tokens that a caller holds, and how they are given back.
use Rattle.std.specs.Prelude.{ℕ, nat_lt, Bool, not, if◌then◌else◌, Option, Some, None, List, [], ◌∷◌, filter, map}
use Rattle.std.specs.List.{list_any}
use Rattle.ossl_state.specs.declared.call.Call.{Call}
use Rattle.ossl_state.specs.declared.call.Call.TheVariants.{Load, Unload, SetDefault, Fetch}
use Rattle.ossl_state.specs.declared.call.Call.TheVariants.{UpRef, Free, NewCtx, FreeCtx}
use Rattle.ossl_state.specs.declared.call.Reply.{Reply}
use Rattle.ossl_state.specs.declared.call.Reply.TheVariants.{Loaded, Fetched, Made, Done}
use Rattle.ossl_state.specs.Tokens.{Token, gives_up_by}
use Rattle.ossl_state.specs.Tokens.Token.{activation_token, method_token, context_token}
use Rattle.ossl_script.specs.declared.held.Held.{Held}
use Rattle.ossl_script.specs.declared.held.TokenKind.{TokenKind}
use Rattle.ossl_script.specs.declared.held.TokenKind.TheVariants.{Activation, Method, Context}

-- what the registry has for the kind
abbrev pub token_of : TokenKind → Token
token_of Activation = activation_token
token_of Method = method_token
token_of Context = context_token

-- the token that a call with its reply hands out
abbrev pub handed_out : Call → Reply → Option Held
handed_out (Load l name retain) (Loaded n i skipped) = Some (record { number = n; kind = Activation })
handed_out (Fetch l op name query) (Fetched n p i r code) = Some (record { number = n; kind = Method })
handed_out (UpRef h) (Made n) = Some (record { number = n; kind = Method })
handed_out (NewCtx h inner len) (Made n) = Some (record { number = n; kind = Context })
handed_out call reply = None

-- a token takes its place, the greatest number first
abbrev pub with_token : Held → List Held → List Held
with_token token [] = token ∷ []
with_token token (first ∷ held) =
    if nat_lt token.number first.number then first ∷ with_token token held else token ∷ first ∷ held

abbrev pub with_handed : Option Held → List Held → List Held
with_handed None held = held
with_handed (Some token) held = with_token token held

-- the tokens that a call leaves of these
abbrev pub left_by : Call → Reply → List Held → List Held
left_by call reply held = filter (λ token. not (gives_up_by call reply token.number (token_of token.kind))) held

-- the tokens held after a call and its reply: those held before, without the one that the call gives back, and with the
-- one that it hands out
abbrev pub held_after : Call → Reply → List Held → List Held
held_after call reply held = with_handed (handed_out call reply) (left_by call reply held)

-- a call without its texts, which hands out and gives back the same tokens
abbrev pub without_texts : Call → Call
without_texts (Load l name retain) = Load l [] retain
without_texts (SetDefault l query) = SetDefault l []
without_texts (Fetch l op name query) = Fetch l op [] []
without_texts call = call

-- the call that gives a token back
abbrev pub give_back_call : Held → Call
give_back_call token = elim token.kind
    [ Activation ↦ Unload token.number | Method ↦ Free token.number | Context ↦ FreeCtx token.number ]

-- the calls that give these tokens back, in their order
abbrev pub give_back_calls : List Held → List Call
give_back_calls held = map give_back_call held

-- a token of this number and kind is among those held: the call that gives it back gives that one up
abbrev pub is_held : List Held → ℕ → Token → Bool
is_held held t token = list_any (λ one. gives_up_by (give_back_call one) Done t token) held
