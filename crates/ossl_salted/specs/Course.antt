-- How a run goes: what it is to write, how it ends, and why.
use Rattle.std.specs.Prelude.{ℕ, ◌≡◌, ◌≤◌, ◌⊎◌, nat_lt, if◌then◌else◌, List, [], length, Result, Ok, Err, None, Some}
use Rattle.std.specs.declared.option.Option.{Option}
use Rattle.std.specs.Io.KnownBytes.{Appends, IsAtEnd}
use Rattle.ossl_base.specs.Files.{HasContent, IsLonger, LacksName}
use Rattle.ossl_base.specs.Whole.{AppendsPrefix}
use Rattle.ossl_salted.specs.File.{Fault, header, final_block, password_of, salted_file, unsealed, unsealed_unchecked}
use Rattle.ossl_salted.specs.Outside.{Looking, LookFailed, Reading, ReadFailed, Writing, WriteFailed}
use Rattle.ossl_salted.specs.Words.{Asked}

-- the most bytes of an input, and of the password's file
abbrev pub most_bytes : ℕ
most_bytes = 1073741824

abbrev pub most_password : ℕ
most_password = 4096

-- how a run ends where nothing fails, and what it writes on its way there
pub record Due : Type 0 where
  pub status : ℕ
  pub text : List ℕ

-- an input with more bytes than there is room for is too long
abbrev pub limited : ℕ → List ℕ → ℕ → ℕ
limited room input status = if nat_lt room (length input) then 7 else status

-- a file without its header is refused before its length is seen, and a last block after that
abbrev pub decryption_status : Result (List ℕ) Fault → List ℕ → ℕ
decryption_status (Ok p) input = limited most_bytes input 0
decryption_status (Err header) input = 5
decryption_status (Err (final_block refused)) input = limited most_bytes input 6

-- the text of a file, or what is decrypted where its last block is refused; nothing of a file without its header
abbrev pub decryption_text : Result (List ℕ) Fault → List ℕ → List ℕ
decryption_text (Ok p) unchecked = p
decryption_text (Err header) unchecked = []
decryption_text (Err (final_block refused)) unchecked = unchecked

abbrev pub decryption_due : (password input : List ℕ) (rounds bits : ℕ) → Due
decryption_due password input rounds bits =
    let answer = unsealed input password rounds bits in record {
      status = decryption_status answer input;
      text = decryption_text answer (unsealed_unchecked input password rounds bits);
    }

-- what is due of what is asked for, of a password and of an input
abbrev pub due_by : Option (List ℕ) → (bits rounds : ℕ) → (password input : List ℕ) → Due
due_by None bits rounds password input = decryption_due password input rounds bits
due_by (Some salt) bits rounds password input =
    record { status = limited most_bytes input 0; text = salted_file input password salt rounds bits }

abbrev pub due_of : Asked → (password input : List ℕ) → Due
due_of a password input = due_by a.salt a.bits a.rounds password input

-- a run ends as is due; or by a fault that the source or the sink counted; or for want of memory. All that is due is
-- written where the status is 0, and a beginning of it elsewhere; nothing is written of a file without its header
pub record Ending (due : Due) (status : ℕ) (s : Reading) (k : Writing) : Type 0 where
  pub ends : (status ≡ due.status) ⊎ ((status ≡ 3) × ReadFailed s) ⊎ ((status ≡ 4) × WriteFailed k) ⊎ (status ≡ 9)
  pub all : status ≡ 0 → Appends k.taken k.taken' due.text
  pub part : AppendsPrefix k.taken k.taken' due.text
  pub unwritten : due.status ≡ 5 → status ≡ 4 → ⊥

-- the input is what the source has left, where it tells that
abbrev pub IsInput : Option (List ℕ) → List ℕ → Type 0
IsInput None input = Unit {0}
IsInput (Some bs) input = bs ≡ input

-- the run over the input, which is read to its end where the status is 0
pub record Runs (due : List ℕ → Due) (status : ℕ) (s : Reading) (k : Writing) : Type 0 where
  pub input : List ℕ
  pub is_input : IsInput s.left input
  pub ending : Ending (due input) status s k
  pub ended : status ≡ 0 → IsAtEnd s.left'

-- the password's file could not be read, or is too long; nothing is written
pub record FileRefused (a : Asked) (status : ℕ) (f : Looking) (k : Writing) : Type 0 where
  pub cause : ((status ≡ 3) × (LookFailed f ⊎ LacksName f.entries a.name))
      ⊎ ((status ≡ 7) × IsLonger f.entries a.name most_password) ⊎ (status ≡ 9)
  pub nothing : Appends k.taken k.taken' []

-- the run over the input, with the password that the file holds
pub record Ran (a : Asked) (status : ℕ) (s : Reading) (f : Looking) (k : Writing) : Type 0 where
  pub content : List ℕ
  pub has : HasContent f.entries a.name content
  pub within : length content ≤ most_password
  pub runs : Runs (due_of a (password_of content)) status s k

-- first the password's file, then the input
abbrev pub Goes : Asked → ℕ → Reading → Looking → Writing → Type 0
Goes a status s f k = FileRefused a status f k ⊎ Ran a status s f k
