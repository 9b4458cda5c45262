-- A whole operation: what it appends, and how it is refused.
use Rattle.std.specs.Prelude.{◌≡◌, ℕ, List, ◌++◌, Option, Result, Ok, Err, map}
use Rattle.std.specs.Borrow.{Bor}
use Rattle.std.specs.List.{concat}
use Rattle.ossl_codes.specs.declared.code.Code.{Code}
use Rattle.ossl_modes.specs.declared.kinds.FinishRefused.{FinishRefused}
use Rattle.ossl_modes.specs.declared.kinds.FinishRefused.TheVariants as finish
use Rattle.ossl_op.specs.declared.params.BeginRefused.{BeginRefused}
use Rattle.ossl_op.specs.declared.params.BeginRefused.TheVariants as begin
use Rattle.ossl_op.specs.declared.params.Params.{Params}
use Rattle.ossl_op.specs.Begins.{begins}
use Rattle.ossl_op.specs.Work.{Work, Appends, IsBeginning, begun, result_of, unchecked_of}
use Rattle.ossl_op_run.specs.declared.pieces.RunRefused.{RunRefused}
use Rattle.ossl_op_run.specs.declared.pieces.RunRefused.TheVariants.{NotBegun, NotFinished, NoMemory}

-- the bytes of pieces, joined
abbrev pub joined : List (Bor (List ℕ)) → List ℕ
joined pieces = concat (map (λ piece. piece.now) pieces)

-- the operation after it was fed these bytes, with what it gives still to come
abbrev pub fed : Code → Option Code → Params → List ℕ → Work
fed code inner params bytes = record (begun code inner params) { fed = bytes }

-- a refusal of a beginning or of an end, as one of a whole operation
abbrev pub not_begun : BeginRefused → RunRefused
not_begun begin.NoMemory = NoMemory
not_begun refusal = NotBegun refusal

abbrev pub not_finished : FinishRefused → RunRefused
not_finished finish.NoMemory = NoMemory
not_finished refusal = NotFinished refusal

-- the call appends the standard's result of the work; or it is refused before it begins, and appends nothing; or it is
-- refused at the end, after a beginning of the text without the last check. Memory may be refused in place of any
-- answer
abbrev pub RunsTo : {U : Type 0} → List ℕ → List ℕ → Result U RunRefused → Work → Type 0
RunsTo old new (Ok _) work = (text : List ℕ) × (new ≡ old ++ text) × (result_of work ≡ Ok text)
RunsTo old new (Err (NotBegun refusal)) work = (begins work.code work.inner work.params ≡ Err refusal) × (new ≡ old)
RunsTo old new (Err (NotFinished refusal)) work =
    (text : List ℕ) × (new ≡ old ++ text) × (result_of work ≡ Err refusal) × IsBeginning text (unchecked_of work)
RunsTo old new (Err NoMemory) work = Appends old new
