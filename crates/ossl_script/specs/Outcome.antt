-- What is printed of a command.
use Rattle.std.specs.Prelude.{ℕ, Bool, true, false, if◌then◌else◌, Result, Ok, Err, List, [], ◌∷◌, ◌++◌, codes}
use Rattle.std.specs.Fmt.{decimal}
use Rattle.hex.specs.Hex.{encode_lower}
use Rattle.ossl_codes.specs.declared.param.Param.{Param}
use Rattle.ossl_codes.specs.declared.param.Param.TheVariants.{Key, Iv, Inner, Len}
use Rattle.ossl_op.specs.FinishRefused.{FinishRefused}
use Rattle.ossl_op.specs.FinishRefused.TheVariants as finish
use Rattle.ossl_op.specs.declared.params.BeginRefused.{BeginRefused}
use Rattle.ossl_op.specs.declared.params.BeginRefused.TheVariants as begin
use Rattle.ossl_state.specs.declared.call.Reply.{Reply}
use Rattle.ossl_state.specs.declared.call.Reply.TheVariants.{NoLib, NoProvider, StartRefused, Unsupported, NotAdmitted}
use Rattle.ossl_state.specs.Text.{reply_text}
use Rattle.ossl_script.specs.declared.outcome.Outcome.{Outcome}
use Rattle.ossl_script.specs.declared.outcome.Outcome.TheVariants.{Done, Loaded, Fetched, Finished, Performed, BadQuery}
use Rattle.ossl_script.specs.declared.outcome.Outcome.TheVariants.{UnknownName, NotLoaded, WrongKind, Bound, Refused}
use Rattle.ossl_script.specs.declared.outcome.Outcome.TheVariants.{NotBegun, NotFinished}

-- the replies that refuse a call
abbrev pub is_refusal : Reply → Bool
is_refusal NoLib = true
is_refusal NoProvider = true
is_refusal (StartRefused provider) = true
is_refusal Unsupported = true
is_refusal NotAdmitted = true
is_refusal reply = false

-- what comes of a command by the reply to its call, where the reply brings no more
abbrev pub outcome_of : Reply → Outcome
outcome_of reply = if is_refusal reply then Refused reply else Done

-- what comes of an operation at its end
abbrev pub finished_outcome : Result (List ℕ) FinishRefused → Outcome
finished_outcome (Ok bytes) = Finished bytes
finished_outcome (Err refusal) = NotFinished refusal

-- what comes of a whole operation, by a method of this provider
abbrev pub performed_outcome : List ℕ → Result (List ℕ) FinishRefused → Outcome
performed_outcome provider (Ok bytes) = Performed provider bytes
performed_outcome provider (Err refusal) = NotFinished refusal

-- a space and the bytes in lower-case hexadecimal, where there are any
abbrev pub bytes_text : List ℕ → List ℕ
bytes_text [] = []
bytes_text (byte ∷ bytes) = codes " " ++ encode_lower (byte ∷ bytes)

abbrev pub parameter_text : Param → List ℕ
parameter_text Key = codes "key"
parameter_text Iv = codes "iv"
parameter_text Inner = codes "inner"
parameter_text Len = codes "len"

-- why an operation may not begin
abbrev pub begin_text : BeginRefused → List ℕ
begin_text (begin.MissingParam which) = codes "missing " ++ parameter_text which
begin_text begin.WrongInner = codes "wrong inner"
begin_text (begin.KeyLength got) = codes "key length " ++ decimal got
begin_text (begin.IvLength got) = codes "iv length " ++ decimal got
begin_text (begin.TooLong limit) = codes "too long " ++ decimal limit
-- never: want of memory is no result
begin_text begin.NoMemory = []

-- why an operation was refused at its end
abbrev pub finish_text : FinishRefused → List ℕ
finish_text (finish.WrongFinalBlock rest) = codes "wrong final block " ++ decimal rest
finish_text finish.BadDecrypt = codes "bad decrypt"
finish_text (finish.StreamEnd blocks) = codes "stream end " ++ decimal blocks
-- never: want of memory is no result
finish_text finish.NoMemory = []

-- the result of a command, as it is printed
abbrev pub outcome_text : Outcome → List ℕ
outcome_text Done = codes "ok"
outcome_text (Loaded skipped) = codes "ok skipped " ++ decimal skipped
outcome_text (Fetched provider) = codes "ok " ++ provider
outcome_text (Finished bytes) = codes "ok" ++ bytes_text bytes
outcome_text (Performed provider bytes) = codes "ok " ++ provider ++ bytes_text bytes
outcome_text (BadQuery place) = codes "error query " ++ decimal place
outcome_text (UnknownName name) = codes "error unknown " ++ name
outcome_text (NotLoaded name) = codes "error not loaded " ++ name
outcome_text (WrongKind name) = codes "error wrong kind " ++ name
outcome_text (Bound name) = codes "error bound " ++ name
outcome_text (Refused reply) = codes "error " ++ reply_text reply
outcome_text (NotBegun refusal) = codes "error " ++ begin_text refusal
outcome_text (NotFinished refusal) = codes "error " ++ finish_text refusal
