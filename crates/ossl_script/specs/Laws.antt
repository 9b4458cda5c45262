-- Laws of what callers do.
use Rattle.std.specs.Prelude.{ℕ, ◌≡◌, ◌+◌, ◌≤◌, ⊤, true, false, Option, Some, None, List, [], ◌∷◌, ◌++◌, map}
use Rattle.std.specs.Prelude.{option_map}
use Rattle.ossl_base.specs.declared.entry.Entry.{Entry}
use Rattle.ossl_state.specs.declared.call.Call.{Call}
use Rattle.ossl_state.specs.declared.call.Call.TheVariants.{Unload, UpRef, Free, NewCtx, FreeCtx}
use Rattle.ossl_state.specs.declared.call.Reply.{Reply}
use Rattle.ossl_state.specs.declared.call.Reply.TheVariants.{Loaded, Fetched, Made}
use Rattle.ossl_state.specs.History.{Fixed, IsAllowed, IsLegal}
use Rattle.ossl_state.specs.Tokens.{Token, names_context, owns, owns_named, entries_of}
use Rattle.ossl_script.specs.declared.caller.Next.{Next}
use Rattle.ossl_script.specs.declared.caller.Next.TheVariants as nexts
use Rattle.ossl_commands.specs.declared.command.Argument.{Argument}
use Rattle.ossl_commands.specs.declared.command.Argument.TheVariants.{Piece, Key, Iv, Salt, Info}
use Rattle.ossl_commands.specs.declared.command.Command.{Command}
use Rattle.ossl_commands.specs.declared.command.Command.TheVariants.{Open, Feed, Perform}
use Rattle.ossl_commands.specs.declared.command.Data.{Data}
use Rattle.ossl_commands.specs.declared.command.Data.TheVariants.{Bytes}
use Rattle.ossl_commands.specs.declared.command.Line.{Line}
use Rattle.ossl_script.specs.declared.held.Held.{Held}
use Rattle.ossl_script.specs.Caller.{Follows, after_reply, giving_back, lines_of, next_call, results_of, standing_of}
use Rattle.ossl_commands.specs.Counts.{contexts_of}
use Rattle.ossl_script.specs.Given.{Content, content_by, data_bytes}
use Rattle.ossl_script.specs.Held.{handed_out, is_held}

-- a further reply is one step more
abbrev pub GoesByReply : Type 0
GoesByReply = (lines : List Line) (contents : List (List ℕ)) (caller : ℕ) (replies : List Reply) (reply : Reply)
    → standing_of lines contents caller (replies ++ reply ∷ [])
    ≡ after_reply (content_by contents) (standing_of lines contents caller replies) reply

-- what a caller holds is what it owns by its entries
abbrev pub HeldIsOwned : Type 0
HeldIsOwned = (lines : List Line) (contents : List (List ℕ)) (caller : ℕ) (made : List (Entry Call Reply))
    → Follows lines contents caller [] made
    → (t : ℕ) (token : Token)
    → is_held (standing_of lines contents caller (map (λ e. e.reply) made)).held t token ≡ owns made t token

-- where a caller has made its calls, up to any moment, and then gives back, whatever the replies to that, it owns no
-- token
abbrev pub GivingBackLeavesNone : Type 0
GivingBackLeavesNone = (lines : List Line) (contents : List (List ℕ)) (caller : ℕ)
    (made given : List (Entry Call Reply))
    → Follows lines contents caller [] made
    → map (λ e. e.call) given ≡ giving_back lines contents caller (map (λ e. e.reply) made)
    → (t : ℕ) (token : Token) → owns (made ++ given) t token ≡ false

-- a token that is handed out has at least this number
abbrev pub IsFrom : ℕ → Option Held → Type 0
IsFrom least None = ⊤
IsFrom least (Some token) = least ≤ token.number

-- the least number that comes behind it
abbrev pub least_behind : ℕ → Option Held → ℕ
least_behind least None = least
least_behind least (Some token) = token.number + 1

-- each of these entries that hands out a token hands out a greater number than those before it, the first at least this
-- one, as entries of a history do
abbrev pub Rises : ℕ → List (Entry Call Reply) → Type 0
Rises least [] = ⊤
Rises least (e ∷ es) = IsFrom least (handed_out e.call e.reply)
    × Rises (least_behind least (handed_out e.call e.reply)) es

-- where tokens are handed out by rising numbers, each call that comes next names tokens that the caller owns, each of
-- the kind that the call takes
abbrev pub CallsAreOwned : Type 0
CallsAreOwned = (lines : List Line) (contents : List (List ℕ)) (caller : ℕ) (made : List (Entry Call Reply)) (line : ℕ)
    (call : Call)
    → Follows lines contents caller [] made
    → Rises 0 made
    → next_call lines contents caller (map (λ e. e.reply) made) ≡ nexts.Call line call
    → owns_named made call ≡ true

-- each call that comes next names library contexts that the batch names
abbrev pub CallsNameContexts : Type 0
CallsNameContexts = (lines : List Line) (contents : List (List ℕ)) (caller : ℕ) (replies : List Reply) (line : ℕ)
    (call : Call) (contexts : ℕ)
    → contexts_of lines ≤ contexts
    → next_call lines contents caller replies ≡ nexts.Call line call
    → names_context contexts call ≡ true

-- where tokens are handed out by rising numbers, each call that gives back names a token that is owned after those
-- before it, whatever the replies to these
abbrev pub GivingBackIsOwned : Type 0
GivingBackIsOwned = (lines : List Line) (contents : List (List ℕ)) (caller : ℕ) (made given : List (Entry Call Reply))
    (call : Call) (more : List Call)
    → Follows lines contents caller [] made
    → Rises 0 made
    → map (λ e. e.call) given ++ call ∷ more ≡ giving_back lines contents caller (map (λ e. e.reply) made)
    → owns_named (made ++ given) call ≡ true

-- where a caller's entries in a legal history are the calls that came next, it may make the call that comes next, over
-- at least as many library contexts as the batch names
abbrev pub CallsAreAllowed : Type 0
CallsAreAllowed = (lines : List Line) (contents : List (List ℕ)) (caller : ℕ) (fixed : Fixed)
    (history : List (Entry Call Reply)) (number line : ℕ) (call : Call)
    → IsLegal fixed history
    → Follows lines contents caller [] (entries_of number history)
    → contexts_of lines ≤ fixed.contexts
    → next_call lines contents caller (map (λ e. e.reply) (entries_of number history)) ≡ nexts.Call line call
    → IsAllowed fixed (entries_of number history) call

-- and where those that give back came behind these, it may make the next one that gives back
abbrev pub GivingBackIsAllowed : Type 0
GivingBackIsAllowed = (lines : List Line) (contents : List (List ℕ)) (caller : ℕ) (fixed : Fixed)
    (history : List (Entry Call Reply)) (number : ℕ) (made given : List (Entry Call Reply)) (call : Call)
    (more : List Call)
    → IsLegal fixed history
    → entries_of number history ≡ made ++ given
    → Follows lines contents caller [] made
    → map (λ e. e.call) given ++ call ∷ more ≡ giving_back lines contents caller (map (λ e. e.reply) made)
    → IsAllowed fixed (entries_of number history) call

-- a reply with other numbers of tokens and instances
abbrev pub renumbered : (ℕ → ℕ) → (ℕ → ℕ) → Reply → Reply
renumbered tokens instances (Loaded n i skipped) = Loaded (tokens n) (instances i) skipped
renumbered tokens instances (Fetched n p i r code) = Fetched (tokens n) p (instances i) r code
renumbered tokens instances (Made n) = Made (tokens n)
renumbered tokens instances reply = reply

-- a call that names tokens by other numbers
abbrev pub renamed : (ℕ → ℕ) → Call → Call
renamed tokens (Unload t) = Unload (tokens t)
renamed tokens (UpRef h) = UpRef (tokens h)
renamed tokens (Free h) = Free (tokens h)
renamed tokens (NewCtx h inner len) = NewCtx (tokens h) (option_map tokens inner) len
renamed tokens (FreeCtx h) = FreeCtx (tokens h)
renamed tokens call = call

abbrev pub renamed_next : (ℕ → ℕ) → Next → Next
renamed_next tokens (nexts.Call line call) = nexts.Call line (renamed tokens call)
renamed_next tokens nexts.End = nexts.End

-- with other numbers in the replies a caller's results are the same, and its next call names its tokens by these
abbrev pub ResultsNameNoToken : Type 0
ResultsNameNoToken = (lines : List Line) (contents : List (List ℕ)) (caller : ℕ) (replies : List Reply)
    (tokens instances : ℕ → ℕ)
    → let others = map (renumbered tokens instances) replies in
    (results_of lines contents caller others ≡ results_of lines contents caller replies)
    × (next_call lines contents caller others ≡ renamed_next tokens (next_call lines contents caller replies))

-- data by its bytes
abbrev pub filled_data : Content → Data → Data
filled_data content given = Bytes (data_bytes content given)

abbrev pub filled_argument : Content → Argument → Argument
filled_argument content (Piece given) = Piece (filled_data content given)
filled_argument content (Key given) = Key (filled_data content given)
filled_argument content (Iv given) = Iv (filled_data content given)
filled_argument content (Salt given) = Salt (filled_data content given)
filled_argument content (Info given) = Info (filled_data content given)
filled_argument content argument = argument

abbrev pub filled_command : Content → Command → Command
filled_command content (Open used bound arguments) = Open used bound (map (filled_argument content) arguments)
filled_command content (Feed used arguments) = Feed used (map (filled_argument content) arguments)
filled_command content (Perform operation algorithm arguments query) =
    Perform operation algorithm (map (filled_argument content) arguments) query
filled_command content command = command

-- a line with the bytes of its data in place of files
abbrev pub filled_line : Content → Line → Line
filled_line content line = record line { command = filled_command content line.command }

-- a caller's next call, its results and what it gives back follow from its own lines, with what their files hold, and
-- its replies: other callers' lines may be others
abbrev pub OwnLinesAlone : Type 0
OwnLinesAlone = (lines others : List Line) (contents other_contents : List (List ℕ)) (caller : ℕ) (replies : List Reply)
    → map (filled_line (content_by other_contents)) (lines_of caller others)
    ≡ map (filled_line (content_by contents)) (lines_of caller lines)
    → (next_call others other_contents caller replies ≡ next_call lines contents caller replies)
    × (results_of others other_contents caller replies ≡ results_of lines contents caller replies)
    × (giving_back others other_contents caller replies ≡ giving_back lines contents caller replies)
