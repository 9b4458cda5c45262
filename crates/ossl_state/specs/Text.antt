-- The text of an entry, as a printed run shows it.
use Rattle.std.specs.Prelude.{ℕ, Bool, true, false, List, [], ◌++◌, codes, None, Some}
use Rattle.std.specs.Fmt.{decimal}
use Rattle.std.specs.declared.option.Option.{Option}
use Rattle.ossl_base.specs.declared.entry.Entry.{Entry}
use Rattle.ossl_codes.specs.declared.code.Operation.{Operation}
use Rattle.ossl_codes.specs.declared.code.Operation.TheVariants.{Digest, Cipher, Mac, Kdf}
use Rattle.ossl_state.specs.declared.call.Call.{Call}
use Rattle.ossl_state.specs.declared.call.Call.TheVariants.{Load, Unload, SetDefault, Fetch, UpRef, Free, NewCtx}
use Rattle.ossl_state.specs.declared.call.Call.TheVariants.{FreeCtx, CloseLib}
use Rattle.ossl_state.specs.declared.call.Reply.{Reply}
use Rattle.ossl_state.specs.declared.call.Reply.TheVariants.{Loaded, Fetched, Made, Done, NoLib, NoProvider}
use Rattle.ossl_state.specs.declared.call.Reply.TheVariants.{StartRefused, Unsupported, NotAdmitted}
use Rattle.ossl_property.specs.Printed.{printed_query}

abbrev pub operation_text : Operation → List ℕ
operation_text Digest = codes "digest"
operation_text Cipher = codes "cipher"
operation_text Mac = codes "mac"
operation_text Kdf = codes "kdf"

-- a token of an inner method, or a dash where there is none
abbrev pub inner_text : Option ℕ → List ℕ
inner_text None = codes "-"
inner_text (Some t) = decimal t

-- the word of a load that keeps the fallback
abbrev pub retain_text : Bool → List ℕ
retain_text true = codes " retain"
retain_text false = []

abbrev pub call_text : Call → List ℕ
call_text (Load l name retain) = codes "load " ++ decimal l ++ codes " " ++ name ++ retain_text retain
call_text (Unload t) = codes "unload " ++ decimal t
call_text (SetDefault l query) = codes "default " ++ decimal l ++ codes " [" ++ printed_query query ++ codes "]"
call_text (Fetch l op name query) =
    codes "fetch " ++ decimal l ++ codes " " ++ operation_text op ++ codes " " ++ name
    ++ codes " [" ++ printed_query query ++ codes "]"
call_text (UpRef h) = codes "upref " ++ decimal h
call_text (Free h) = codes "free " ++ decimal h
call_text (NewCtx h inner len) =
    codes "newctx " ++ decimal h ++ codes " " ++ inner_text inner ++ codes " " ++ decimal len
call_text (FreeCtx h) = codes "freectx " ++ decimal h
call_text (CloseLib l) = codes "closelib " ++ decimal l

abbrev pub reply_text : Reply → List ℕ
reply_text (Loaded n i skipped) = codes "ok " ++ decimal i ++ codes " skipped " ++ decimal skipped
reply_text (Fetched n p i r code) = codes "ok " ++ p ++ codes " " ++ decimal i ++ codes " " ++ decimal r
reply_text (Made n) = codes "ok"
reply_text Done = codes "ok"
reply_text NoLib = codes "no context"
reply_text NoProvider = codes "no provider"
reply_text (StartRefused p) = codes "start refused " ++ p
reply_text Unsupported = codes "unsupported"
reply_text NotAdmitted = codes "not admitted"

-- the call, a colon, a space, and the reply
abbrev pub entry_text : Entry Call Reply → List ℕ
entry_text e = call_text e.call ++ codes ": " ++ reply_text e.reply
