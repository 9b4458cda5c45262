-- Worked histories over boxes that have one row each (provider(7)).
use Rattle.std.specs.Prelude.{ℕ, false, None, List, [], ◌∷◌, codes}
use Rattle.ossl_base.specs.declared.entry.Entry.{Entry}
use Rattle.ossl_codes.specs.declared.code.Code.TheVariants.{Sha256}
use Rattle.ossl_codes.specs.declared.code.Operation.TheVariants.{Digest}
use Rattle.ossl_provider.specs.Sheet.{Facts}
use Rattle.ossl_provider.specs.Table.{table_admits}
use Rattle.ossl_provider.specs.declared.table.TableRow.{TableRow}
use Rattle.ossl_state.specs.declared.call.Call.{Call}
use Rattle.ossl_state.specs.declared.call.Call.TheVariants.{Load, Unload, Fetch, Free, NewCtx, FreeCtx, CloseLib}
use Rattle.ossl_state.specs.declared.call.Reply.{Reply}
use Rattle.ossl_state.specs.declared.call.Reply.TheVariants.{Loaded, Fetched, Made, Done}

abbrev pub sha256_row : TableRow
sha256_row = record { names = codes "SHA2-256"; definition = []; code = Sha256 }

-- a box of this name with that row
abbrev pub box : List ℕ → Facts
box name = record { name = name; rows = sha256_row ∷ []; admits = table_admits 0 }

abbrev pub entry : ℕ → Call → Reply → Entry Call Reply
entry caller call reply = record { caller = caller; call = call; reply = reply }

-- a load of a box of this name, which has an instance
abbrev pub loads : ℕ → List ℕ → ℕ → ℕ → Entry Call Reply
loads caller name number instance = entry caller (Load 0 name false) (Loaded number instance 0)

-- caller 1 fetches the row of a box
abbrev pub fetches : List ℕ → ℕ → ℕ → Entry Call Reply
fetches name number instance =
    entry 1 (Fetch 0 Digest (codes "SHA2-256") []) (Fetched number name instance 0 Sha256)

-- two boxes with equal rows, of which the first is loaded by two callers
abbrev pub shared : List (Entry Call Reply)
shared =
    loads 1 (codes "A") 1 1
    ∷ loads 2 (codes "B") 2 2
    ∷ loads 2 (codes "A") 3 1
    ∷ entry 1 (Unload 1) Done
    ∷ fetches (codes "A") 5 1
    ∷ entry 1 (NewCtx 5 None 0) (Made 6)
    ∷ entry 1 (FreeCtx 6) Done
    ∷ entry 1 (Free 5) Done
    ∷ entry 2 (Unload 3) Done
    ∷ entry 2 (Unload 2) Done
    ∷ entry 0 (CloseLib 0) Done
    ∷ []

-- a box that an operation context outlives, and that is loaded again before it stopped
abbrev pub outlived : List (Entry Call Reply)
outlived =
    loads 1 (codes "default") 1 1
    ∷ fetches (codes "default") 2 1
    ∷ entry 1 (NewCtx 2 None 0) (Made 3)
    ∷ entry 1 (Free 2) Done
    ∷ entry 1 (Unload 1) Done
    ∷ loads 1 (codes "default") 6 1
    ∷ entry 1 (FreeCtx 3) Done
    ∷ entry 1 (Unload 6) Done
    ∷ entry 0 (CloseLib 0) Done
    ∷ []
