-- Worked callers by computation: commands that make one call each.
use Rattle.std.proofs.Common.{◌≡◌, ℕ, true, false, List, [], ◌∷◌, refl}
use Rattle.std.specs.Prelude.{codes, None, Some, Ok, Err}
use Rattle.std.specs.Fmt.{digits}
use Rattle.hex.specs.Hex.{decode_pairs, encode_with}
use Rattle.ossl_codes.specs.declared.code.Code.TheVariants.{Hmac, Sha256}
use Rattle.ossl_codes.specs.declared.param.Param.TheVariants.{Inner, Len}
use Rattle.ossl_op.specs.FinishRefused.TheVariants as finishes_with
use Rattle.ossl_op.specs.declared.params.BeginRefused.TheVariants as begins
use Rattle.ossl_codes.specs.declared.code.Operation.TheVariants as operations
use Rattle.ossl_property.specs.Reading.{list_at}
use Rattle.ossl_property.specs.Said.{query_said}
use Rattle.ossl_state.specs.declared.call.Call.TheVariants.{Load, Unload, Fetch, NewCtx, Free, FreeCtx, CloseLib, UpRef}
use Rattle.ossl_state.specs.declared.call.Reply.TheVariants.{Loaded, Fetched, Made, Done, NoLib, NoProvider, NotAdmitted, StartRefused}
use Rattle.ossl_script.specs.declared.outcome.Outcome.TheVariants as outcomes
use Rattle.ossl_script.specs.Caller.{line_result}
use Rattle.ossl_script.specs.Outcome.{finished_outcome}
use Rattle.ossl_script.proofs.Runs.{DoesAll, asks, ends, line, finishes, performs, plain}

-- two callers load and unload
abbrev two_loaders : List ℕ
two_loaders = codes "1 load 0 A X\n2 load 0 B Y\n2 load 0 A Z\n1 unload X\n1 dgst SHA2-256 hex:616263"

pub first_loader : DoesAll two_loaders [] 1 (Loaded 1 1 0 ∷ Done ∷ Fetched 5 (codes "A") 1 0 Sha256 ∷ Made 6 ∷ Done ∷ Done ∷ []) (
    asks 1 (Load 0 (codes "A") false)
    ∷ asks 4 (Unload 1)
    ∷ asks 5 (Fetch 0 operations.Digest (codes "SHA2-256") [])
    ∷ asks 5 (NewCtx 5 None 0)
    ∷ asks 5 (FreeCtx 6)
    ∷ asks 5 (Free 5)
    ∷ ends
    ∷ []
    ) (
    line 1 (codes "ok skipped 0")
    ∷ line 4 (codes "ok")
    ∷ performs 5 (codes "A") Sha256 None plain (codes "abc")
    ∷ []
    ) []
unfolding decode_pairs query_said list_at digits
first_loader = refl

pub second_loader : DoesAll two_loaders [] 2 (Loaded 2 2 0 ∷ Loaded 3 1 0 ∷ []) (
    asks 2 (Load 0 (codes "B") false)
    ∷ asks 3 (Load 0 (codes "A") false)
    ∷ ends
    ∷ []
    ) (line 2 (codes "ok skipped 0") ∷ line 3 (codes "ok skipped 0") ∷ []) (Unload 3 ∷ Unload 2 ∷ [])
unfolding decode_pairs digits
second_loader = refl

-- an operation in steps, whose method and provider are given back while it runs
abbrev steps : List ℕ
steps = codes "1 load 0 default A\n1 fetch 0 digest SHA2-256 M\n1 open M X\n1 free M\n1 unload A\n1 load 0 default B\n1 feed X hex:616263\n1 finish X\n1 close X"

pub in_steps : DoesAll steps [] 1 (Loaded 1 1 0 ∷ Fetched 2 (codes "default") 1 0 Sha256 ∷ Made 3 ∷ Done ∷ Done ∷ Loaded 6 1 0 ∷ Done ∷ []) (
    asks 1 (Load 0 (codes "default") false)
    ∷ asks 2 (Fetch 0 operations.Digest (codes "SHA2-256") [])
    ∷ asks 3 (NewCtx 2 None 0)
    ∷ asks 4 (Free 2)
    ∷ asks 5 (Unload 1)
    ∷ asks 6 (Load 0 (codes "default") false)
    ∷ asks 9 (FreeCtx 3)
    ∷ ends
    ∷ []
    ) (
    line 1 (codes "ok skipped 0")
    ∷ line 2 (codes "ok default")
    ∷ line 3 (codes "ok")
    ∷ line 4 (codes "ok")
    ∷ line 5 (codes "ok")
    ∷ line 6 (codes "ok skipped 0")
    ∷ line 7 (codes "ok")
    ∷ finishes 8 Sha256 (codes "abc")
    ∷ line 9 (codes "ok")
    ∷ []
    ) (Unload 6 ∷ [])
unfolding decode_pairs query_said list_at digits
in_steps = refl

-- where it stops in the midst, it gives back all that it holds
pub stopped_in_the_midst : DoesAll steps [] 1 (Loaded 1 1 0 ∷ Fetched 2 (codes "default") 1 0 Sha256 ∷ Made 3 ∷ []) (
    asks 1 (Load 0 (codes "default") false)
    ∷ asks 2 (Fetch 0 operations.Digest (codes "SHA2-256") [])
    ∷ asks 3 (NewCtx 2 None 0)
    ∷ asks 4 (Free 2)
    ∷ []
    ) (line 1 (codes "ok skipped 0") ∷ line 2 (codes "ok default") ∷ line 3 (codes "ok") ∷ []) (FreeCtx 3 ∷ Free 2 ∷ Unload 1 ∷ [])
unfolding decode_pairs query_said list_at digits
stopped_in_the_midst = refl

-- a library context is closed by another caller
abbrev closed_between : List ℕ
closed_between = codes "1 fetch 0 digest SHA2-256 M\n2 closelib 0\n1 fetch 0 digest SHA2-256 N\n1 free M"

pub on_closed : DoesAll closed_between [] 1 (Fetched 1 (codes "default") 1 0 Sha256 ∷ NoLib ∷ Done ∷ []) (
    asks 1 (Fetch 0 operations.Digest (codes "SHA2-256") [])
    ∷ asks 3 (Fetch 0 operations.Digest (codes "SHA2-256") [])
    ∷ asks 4 (Free 1)
    ∷ ends
    ∷ []
    ) (line 1 (codes "ok default") ∷ line 3 (codes "error no context") ∷ line 4 (codes "ok") ∷ []) []
unfolding query_said list_at digits
on_closed = refl

pub closer : DoesAll closed_between [] 2 (Done ∷ []) (asks 2 (CloseLib 0) ∷ ends ∷ []) (line 2 (codes "ok") ∷ []) []
closer = refl

-- a provider refuses its second start
pub refused_start : DoesAll (codes "1 load 0 default A\n1 unload A\n1 load 0 default B\n1 load 0 default C") [] 1 (Loaded 1 1 0 ∷ Done ∷ StartRefused (codes "default") ∷ Loaded 4 4 0 ∷ []) (
    asks 1 (Load 0 (codes "default") false)
    ∷ asks 2 (Unload 1)
    ∷ asks 3 (Load 0 (codes "default") false)
    ∷ asks 4 (Load 0 (codes "default") false)
    ∷ ends
    ∷ []
    ) (
    line 1 (codes "ok skipped 0")
    ∷ line 2 (codes "ok")
    ∷ line 3 (codes "error start refused default")
    ∷ line 4 (codes "ok skipped 0")
    ∷ []
    ) (Unload 4 ∷ [])
unfolding digits
refused_start = refl

-- a name that is not bound, of an activation and of a method, makes no call
pub not_loaded : DoesAll (codes "1 unload A") [] 1 [] (ends ∷ []) (line 1 (codes "error not loaded A") ∷ []) []
not_loaded = refl

pub unknown : DoesAll (codes "1 free M") [] 1 [] (ends ∷ []) (line 1 (codes "error unknown M") ∷ []) []
unknown = refl

-- a name that was given back is unknown; one of another kind is wrong; one that stands may not be bound
pub names_judged : DoesAll (codes "1 load 3 null A retain\n1 free A\n1 load 0 null A\n1 unload A\n1 unload A\n1 load 0 none B\n1 close B") [] 1 (Loaded 1 1 2 ∷ NoLib ∷ NoProvider ∷ []) (
    asks 1 (Load 3 (codes "null") true)
    ∷ asks 4 (Unload 1)
    ∷ asks 6 (Load 0 (codes "none") false)
    ∷ ends
    ∷ []
    ) (
    line 1 (codes "ok skipped 2")
    ∷ line 2 (codes "error wrong kind A")
    ∷ line 3 (codes "error bound A")
    ∷ line 4 (codes "error no context")
    ∷ line 5 (codes "error not loaded A")
    ∷ line 6 (codes "error no provider")
    ∷ line 7 (codes "error unknown B")
    ∷ []
    ) []
unfolding digits
names_judged = refl

-- names are judged from the left, each wholly before the next, and the name that is bound comes last
pub from_the_left : DoesAll (codes "1 fetch 0 digest MD5 M\n1 open M M inner=N\n1 open N M inner=O\n1 open M M\n1 upref M N\n1 upref N N\n1 free N\n1 open M X\n1 feed M text:a\n1 finish X\n1 feed X text:a\n1 finish X\n1 close X\n1 finish X") [] 1
    (Fetched 1 (codes "default") 1 0 Sha256 ∷ Made 2 ∷ Done ∷ Made 4 ∷ Done ∷ []) (
    asks 1 (Fetch 0 operations.Digest (codes "MD5") [])
    ∷ asks 5 (UpRef 1)
    ∷ asks 7 (Free 2)
    ∷ asks 8 (NewCtx 1 None 0)
    ∷ asks 13 (FreeCtx 4)
    ∷ ends
    ∷ []
    ) (
    line 1 (codes "ok default")
    ∷ line 2 (codes "error unknown N")
    ∷ line 3 (codes "error unknown N")
    ∷ line 4 (codes "error bound M")
    ∷ line 5 (codes "ok")
    ∷ line 6 (codes "error bound N")
    ∷ line 7 (codes "ok")
    ∷ line 8 (codes "ok")
    ∷ line 9 (codes "error wrong kind M")
    ∷ finishes 10 Sha256 []
    ∷ line 11 (codes "error wrong kind X")
    ∷ line 12 (codes "error wrong kind X")
    ∷ line 13 (codes "ok")
    ∷ line 14 (codes "error unknown X")
    ∷ []
    ) (Free 1 ∷ [])
unfolding query_said list_at digits
from_the_left = refl

-- an operation context on a method and an inner one, with the key's length; the key is too short for the box
abbrev on_inner : List ℕ
on_inner = codes "1 fetch 0 mac HMAC M\n1 fetch 0 digest SHA2-256 D\n1 open M X inner=D key=hex:0000\n1 open M Y inner=D"

pub opened_on_inner : DoesAll on_inner [] 1 (Fetched 1 (codes "fips") 1 22 Hmac ∷ Fetched 2 (codes "fips") 1 0 Sha256 ∷ NotAdmitted ∷ []) (
    asks 1 (Fetch 0 operations.Mac (codes "HMAC") [])
    ∷ asks 2 (Fetch 0 operations.Digest (codes "SHA2-256") [])
    ∷ asks 3 (NewCtx 1 (Some 2) 2)
    ∷ ends
    ∷ []
    ) (
    line 1 (codes "ok fips")
    ∷ line 2 (codes "ok fips")
    ∷ line 3 (codes "error not admitted")
    ∷ line 4 (codes "error missing key")
    ∷ []
    ) (Free 2 ∷ Free 1 ∷ [])
unfolding decode_pairs query_said list_at digits
opened_on_inner = refl

-- what is printed of bytes, and of refusals that no worked caller meets
pub bytes_printed : line_result 8 (finished_outcome (Ok (0 ∷ 255 ∷ []))) ≡ line 8 (codes "ok 00ff")
unfolding encode_with
bytes_printed = refl

pub no_bytes_printed : line_result 8 (finished_outcome (Ok [])) ≡ line 8 (codes "ok")
no_bytes_printed = refl

pub iv_length_printed : line_result 1 (outcomes.NotBegun (begins.IvLength 15)) ≡ line 1 (codes "error iv length 15")
unfolding digits
iv_length_printed = refl

pub missing_printed : line_result 1 (outcomes.NotBegun (begins.MissingParam Inner)) ≡ line 1 (codes "error missing inner")
missing_printed = refl

pub length_printed : line_result 1 (outcomes.NotBegun (begins.MissingParam Len)) ≡ line 1 (codes "error missing len")
length_printed = refl

pub stream_end_printed : line_result 1 (finished_outcome (Err (finishes_with.StreamEnd 1))) ≡ line 1 (codes "error stream end 1")
unfolding digits
stream_end_printed = refl
