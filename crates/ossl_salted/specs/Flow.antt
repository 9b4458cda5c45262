-- A text on its way from a source through a mode to a sink: how the code goes about it.
use Rattle.std.specs.Prelude.{ℕ, ◌≡◌, ◌<◌, ◌≤◌, Bool, true, List, [], ◌++◌, length, Result, Ok, Err, None}
use Rattle.std.specs.Io.KnownBytes.{Appends, Consumes, IsAtEnd}
use Rattle.ossl_base.specs.Whole.{AppendsPrefix}
use Rattle.ossl_aes.specs.declared.block.Block.{Ghosts}
use Rattle.ossl_modes.specs.declared.kinds.FinishRefused.{FinishRefused}
use Rattle.ossl_modes.specs.declared.kinds.ModeKind.TheVariants.{Cbc}
use Rattle.ossl_modes.specs.declared.state.Mode.{Mode}
use Rattle.ossl_modes.specs.Modes.{before, outcome, whole_blocks}
use Rattle.ossl_modes.specs.Run.{outcome_of, whole_blocks_of}
use Rattle.ossl_salted.specs.declared.end.End.{End}
use Rattle.ossl_salted.specs.Course.{Due, limited}
use Rattle.ossl_salted.specs.Ends.{IsCause}
use Rattle.ossl_salted.specs.File.{decrypts, encrypts, iv_of}
use Rattle.ossl_salted.specs.Outside.{Reading, ReadFailed, Writing, WriteFailed}

-- a source of which nothing is read
abbrev pub unread : Reading
unread = record { left = None; left' = None; faults = 0; faults' = 0 }

-- a refused text is one whose last block is wrong
abbrev pub status_with : Result (List ℕ) FinishRefused → ℕ
status_with (Ok t) = 0
status_with (Err refused) = 6

-- behind a head, the text of an outcome, or w where it is refused
abbrev pub text_with : List ℕ → Result (List ℕ) FinishRefused → List ℕ → List ℕ
text_with head (Ok t) w = head ++ t
text_with head (Err refused) w = head ++ w

-- what is due behind a head, by an outcome and by the block equations without the check of the last block
abbrev pub due_with : List ℕ → ℕ → List ℕ → Result (List ℕ) FinishRefused → List ℕ → Due
due_with head room bs outcome whole =
    record { status = limited room bs (status_with outcome); text = text_with head outcome whole }

-- what is due of CBC with padding under the cipher e and d
abbrev pub cbc_due : (e d : List ℕ → List ℕ) → Bool → (iv head : List ℕ) (room : ℕ) (bs : List ℕ) → Due
cbc_due e d decrypt iv head room bs =
    due_with head room bs (outcome e d Cbc decrypt true iv bs) (whole_blocks e d Cbc decrypt iv bs)

-- the same under AES with a key and an IV of so many bits
abbrev pub aes_due : (bits : ℕ) (material : List ℕ) → Bool → (head : List ℕ) (room : ℕ) (bs : List ℕ) → Due
aes_due bits material decrypt head room bs =
    cbc_due (encrypts bits material) (decrypts bits material) decrypt (iv_of bits material) head room bs

module _ {C : Type 0} {g : Ghosts C} where
  -- what is due of a mode, of what waits to be written and of the bytes that come yet
  abbrev pub mode_due : Mode C g → (out : List ℕ) (room : ℕ) (bs : List ℕ) → Due
  mode_due m out room bs = due_with out room bs (outcome_of m bs) (whole_blocks_of m bs)

  -- what a mode has still to give where out waits to be written and the bytes bs come yet
  abbrev pub due_from : Mode C g → List ℕ → List ℕ → Result (List ℕ) FinishRefused
  due_from m out bs = before out (outcome_of m bs)

  -- the same by the block equations over the whole blocks, with no check
  abbrev pub whole_from : Mode C g → List ℕ → List ℕ → List ℕ
  whole_from m out bs = out ++ whole_blocks_of m bs

-- by the bytes bs a mode and what waits move on, and w goes out: whatever comes yet, w and what is due then are what
-- was due
pub record Moves {C : Type 0} {g : Ghosts C} (m : Mode C g) (out : List ℕ) (m' : Mode C g) (out' bs w : List ℕ)
    : Type 0 where
  pub text : (rest : List ℕ) → due_from m out (bs ++ rest) ≡ before w (due_from m' out' rest)
  pub whole : (rest : List ℕ) → whole_from m out (bs ++ rest) ≡ w ++ whole_from m' out' rest

-- whatever comes behind the bytes bs, w is a beginning of what is due
pub record Begins {C : Type 0} {g : Ghosts C} (m : Mode C g) (out bs w : List ℕ) : Type 0 where
  pub text : (rest : List ℕ) → (x : Result (List ℕ) FinishRefused) × (due_from m out (bs ++ rest) ≡ before w x)
  pub whole : (rest : List ℕ) → (x : List ℕ) × (whole_from m out (bs ++ rest) ≡ w ++ x)

-- a piece went through: w was written
pub record Turned {C : Type 0} {g : Ghosts C} (m : Mode C g) (out : List ℕ) (m' : Mode C g) (bs : List ℕ) (k : Writing)
    : Type 0 where
  pub written : List ℕ
  pub appends : Appends k.taken k.taken' written
  pub moves : Moves m out m' [] bs written

-- a piece did not go through: a beginning of what is due was written
pub record Stuck {C : Type 0} {g : Ghosts C} (m : Mode C g) (out bs : List ℕ) (k : Writing) : Type 0 where
  pub written : List ℕ
  pub appends : AppendsPrefix k.taken k.taken' written
  pub begins : Begins m out bs written

-- so far: the bytes that were read, as many as total, and what was written
pub record Going {C : Type 0} {g : Ghosts C} (m : Mode C g) (out : List ℕ) (m' : Mode C g) (out' : List ℕ) (total : ℕ)
    (s : Reading) (k : Writing) : Type 0 where
  pub text : List ℕ
  pub written : List ℕ
  pub consumes : Consumes s.left s.left' text
  pub len : length text ≡ total
  pub appends : Appends k.taken k.taken' written
  pub moves : Moves m out m' out' text written

-- all that was left was read, within the room, and what was written is known
pub record Pumped {C : Type 0} {g : Ghosts C} (m : Mode C g) (out : List ℕ) (m' : Mode C g) (out' : List ℕ) (room : ℕ)
    (s : Reading) (k : Writing) : Type 0 where
  pub total : ℕ
  pub within : total ≤ room
  pub ended : IsAtEnd s.left'
  pub going : Going m out m' out' total s k

-- the reading or the writing stopped, for a cause
pub record Halted {C : Type 0} {g : Ghosts C} (m : Mode C g) (out : List ℕ) (room : ℕ) (s : Reading) (k : Writing)
    (end : End) : Type 0 where
  pub text : List ℕ
  pub written : List ℕ
  pub consumes : Consumes s.left s.left' text
  pub appends : AppendsPrefix k.taken k.taken' written
  pub begins : Begins m out text written
  pub cause : IsCause end (ReadFailed s) (WriteFailed k) (room < length text)
