-- The table of commands: for each its word, the command that its fixed words make, whether a query stands behind them,
-- which other words may, and its options.
use Rattle.std.specs.Prelude.{ℕ, Bool, true, false, Option, Some, None, List, [], ◌∷◌, codes, option_and_then}
use Rattle.ossl_codes.specs.declared.code.Operation.{Operation}
use Rattle.ossl_codes.specs.declared.code.Operation.TheVariants as operations
use Rattle.ossl_commands.specs.declared.command.Argument.{Argument}
use Rattle.ossl_commands.specs.declared.command.Command.{Command}
use Rattle.ossl_commands.specs.declared.command.Command.TheVariants as commands
use Rattle.ossl_commands.specs.declared.command.Verb.{Verb}
use Rattle.ossl_commands.specs.declared.command.Verb.TheVariants.{Load, Unload, Default, Fetch, UpRef, Free, Open}
use Rattle.ossl_commands.specs.declared.command.Verb.TheVariants.{Feed, Finish, Close, CloseLib, Dgst, Mac, Enc, Kdf}
use Rattle.ossl_commands.specs.declared.table.Colon.{Colon}
use Rattle.ossl_commands.specs.declared.table.Colon.TheVariants.{Never, May, Must}
use Rattle.ossl_commands.specs.declared.table.Others.{Others}
use Rattle.ossl_commands.specs.declared.table.Others.TheVariants.{Nothing, Retain, Pieces, SomePieces}
use Rattle.ossl_commands.specs.Lines.{words_of}
use Rattle.ossl_commands.specs.Words.{looked_up, number_of, name_of, operation_of}

-- the word of each command
abbrev pub verb_of : List ℕ → Option Verb
verb_of =
    looked_up (
    (codes "load", Load)
    ∷ (codes "unload", Unload)
    ∷ (codes "default", Default)
    ∷ (codes "fetch", Fetch)
    ∷ (codes "upref", UpRef)
    ∷ (codes "free", Free)
    ∷ (codes "open", Open)
    ∷ (codes "feed", Feed)
    ∷ (codes "finish", Finish)
    ∷ (codes "close", Close)
    ∷ (codes "closelib", CloseLib)
    ∷ (codes "dgst", Dgst)
    ∷ (codes "mac", Mac)
    ∷ (codes "enc", Enc)
    ∷ (codes "kdf", Kdf)
    ∷ []
    )

-- the command that the fixed words make, and the words behind these
abbrev pub Begun : Type 0
Begun = Option (Command × List (List ℕ))

-- a fixed word in its form, from the left
abbrev pub takes : {A : Type 0} → (List ℕ → Option A) → (A → List (List ℕ) → Begun) → List (List ℕ) → Begun
takes form next [] = None
takes form next (word ∷ words) = option_and_then (λ said. next said words) (form word)

-- no more fixed words
abbrev pub makes : Command → List (List ℕ) → Begun
makes command words = Some (command, words)

pub record Row : Type 0 where
  pub fixed : List (List ℕ) → Begun
  pub colon : Colon
  pub others : Others
  pub options : List (List ℕ)

abbrev pub row : (List (List ℕ) → Begun) → Colon → Others → List ℕ → Row
row fixed colon others options = record { fixed = fixed; colon = colon; others = others; options = words_of options }

-- the forms of fixed words: the number of a library context, an operation, any word, and a name
abbrev pub lib : (ℕ → List (List ℕ) → Begun) → List (List ℕ) → Begun
lib next = takes number_of next

abbrev pub op : (Operation → List (List ℕ) → Begun) → List (List ℕ) → Begun
op next = takes operation_of next

abbrev pub word : (List ℕ → List (List ℕ) → Begun) → List (List ℕ) → Begun
word next = takes Some next

abbrev pub name : (List ℕ → List (List ℕ) → Begun) → List (List ℕ) → Begun
name next = takes name_of next

-- an operation by the name of an algorithm
abbrev pub performs : Operation → List (List ℕ) → Begun
performs operation = word (λ algorithm. makes (commands.Perform operation algorithm [] []))

-- the fixed words, the query, the other words and the options of each command; the last two are no part of the command
-- yet
abbrev pub row_of : Verb → Row
row_of Load =
    row (lib (λ l. word (λ provider. name (λ bound. makes (commands.Load l provider bound false))))) Never Retain []
row_of Unload = row (name (λ used. makes (commands.Unload used))) Never Nothing []
row_of Default = row (lib (λ l. makes (commands.Default l []))) Must Nothing []
row_of Fetch =
    row (lib (λ l. op (λ operation. word (λ algorithm. name (λ bound.
    makes (commands.Fetch l operation algorithm bound [])))))) May Nothing []
row_of UpRef = row (name (λ used. name (λ bound. makes (commands.UpRef used bound)))) Never Nothing []
row_of Free = row (name (λ used. makes (commands.Free used))) Never Nothing []
row_of Open =
    row (name (λ used. name (λ bound. makes (commands.Open used bound [])))) Never Nothing
    (codes "inner key iv dir pad salt info mode len")
row_of Feed = row (name (λ used. makes (commands.Feed used []))) Never SomePieces []
row_of Finish = row (name (λ used. makes (commands.Finish used))) Never Nothing []
row_of Close = row (name (λ used. makes (commands.Close used))) Never Nothing []
row_of CloseLib = row (lib (λ l. makes (commands.CloseLib l))) Never Nothing []
row_of Dgst = row (performs operations.Digest) May Pieces (codes "lib")
row_of Mac = row (performs operations.Mac) May Pieces (codes "lib digest cipher key")
row_of Enc = row (performs operations.Cipher) May Pieces (codes "lib key iv dir pad")
row_of Kdf = row (performs operations.Kdf) May Nothing (codes "lib digest key salt info mode len")

-- whether there are any arguments
abbrev pub are_any : List Argument → Bool
are_any [] = false
are_any (argument ∷ arguments) = true

-- the command with the words behind its fixed ones, and with its query
abbrev pub filled : List Argument → List ℕ → Command → Command
filled arguments query (commands.Load l provider bound kept) = commands.Load l provider bound (are_any arguments)
filled arguments query (commands.Default l nothing) = commands.Default l query
filled arguments query (commands.Fetch l operation algorithm bound nothing) =
    commands.Fetch l operation algorithm bound query
filled arguments query (commands.Open used bound nothing) = commands.Open used bound arguments
filled arguments query (commands.Feed used nothing) = commands.Feed used arguments
filled arguments query (commands.Perform operation algorithm nothing other) =
    commands.Perform operation algorithm arguments query
filled arguments query command = command
