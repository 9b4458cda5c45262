-- The words of a command, read from the left: options, with the values that some take, and values that stand alone.
use Rattle.std.specs.Prelude.{ℕ, ◌+◌, ◌==◌, Bool, true, false, List, [], ◌∷◌, ◌++◌, find, slice_get}
use Rattle.std.specs.Prelude.{Option, Some, None, is_some, option_map, option_and_then, if◌then◌else◌}
use Rattle.std.specs.List.{list_any, before_first, after_first}
use Rattle.std.specs.Str.{bytes_eq}

abbrev pub Word : Type 0
Word = List ℕ

-- what a command takes: options by their names, each with whether it takes a value; and the names of the values that
-- stand alone, in their order
pub record Takes : Type 0 where
  pub options : List (Word × Bool)
  pub places : List Word

-- whether the option of this name takes a value, if there is such an option; a name is never shortened
abbrev pub takes_value : Takes → Word → Option Bool
takes_value t name = option_map (λ o. o.1) (find (λ o. bytes_eq o.0 name) t.options)

-- what was given under a name: an option, with its value if it takes one, or a value that stands alone
pub record Given : Type 0 where
  pub name : Word
  pub value : Option Word

abbrev pub is_given : Word → List Given → Bool
is_given name given = list_any (λ g. bytes_eq g.name name) given

-- one more, at most once under a name
abbrev pub added : Word → Option Word → List Given → Option (List Given)
added name value given =
    if is_given name given then None else Some (given ++ record { name = name; value = value } ∷ [])

-- what stands behind a first byte
abbrev pub after_byte : ℕ → Word → Option Word
after_byte byte [] = None
after_byte byte (first ∷ word) = if first == byte then Some word else None

-- the word begins with a hyphen (45)
abbrev pub is_hyphened : Word → Bool
is_hyphened word = is_some (after_byte 45 word)

-- what stands before the first `=` (61), and what stands behind it if there is one
abbrev pub name_and_value : Word → Word × Option Word
name_and_value text = (
  before_first (λ byte. byte == 61) text,
  if list_any (λ byte. byte == 61) text then Some (after_first (λ byte. byte == 61) text) else None,
)

abbrev pub some_name_and_value : Word → Option (Word × Option Word)
some_name_and_value [] = None
some_name_and_value (byte ∷ text) = Some (name_and_value (byte ∷ text))

-- the name and the value of `--name` or `--name=value`; `--` alone is no option
abbrev pub option_parts : Word → Option (Word × Option Word)
option_parts word = option_and_then some_name_and_value (option_and_then (after_byte 45) (after_byte 45 word))

module _ (next : List Given → Option (List Given)) (waits : Word → Option (List Given)) where
  -- an option: `next` goes on behind this word, and `waits` does once the next word was taken as its value
  abbrev pub read_option : Option Bool → Word → Option Word → List Given → Option (List Given)
  read_option None name value given = None
  read_option (Some true) name (Some value) given = option_and_then next (added name (Some value) given)
  read_option (Some true) name None given = waits name
  read_option (Some false) name (Some value) given = None
  read_option (Some false) name None given = option_and_then next (added name None given)

module _ (next : List Given → Option (List Given)) where
  -- a value that stands alone, if one may stand here
  abbrev pub read_place : Option Word → Word → List Given → Option (List Given)
  read_place None word given = None
  read_place (Some name) word given = option_and_then next (added name (Some word) given)

abbrev pub read_word : Takes → Option (Word × Option Word) → ℕ → Word → List Given → (List Given → Option (List Given))
    → (List Given → Option (List Given)) → (Word → Option (List Given)) → Option (List Given)
read_word t (Some parts) at word given next placed waits =
    read_option next waits (takes_value t parts.0) parts.0 parts.1 given
read_word t None at word given next placed waits =
    if is_hyphened word then None else read_place placed (slice_get t.places at) word given

-- what words give, where some was given before them; `waiting` is the option whose value comes next, and `at` counts
-- the values that stood alone
abbrev pub read : Takes → Option Word → ℕ → List Given → List Word → Option (List Given)
read t None at given [] = Some given
read t (Some name) at given [] = None
read t (Some name) at given (word ∷ rest) =
    if is_hyphened word then None
    else option_and_then (λ more. read t None at more rest) (added name (Some word) given)
read t None at given (word ∷ rest) =
    read_word t (option_parts word) at word given (λ more. read t None at more rest)
    (λ more. read t None (at + 1) more rest) (λ name. read t (Some name) at given rest)

-- what the words of a command give, from its first word on
abbrev pub given_by : Takes → List Word → Option (List Given)
given_by t words = read t None 0 [] words

abbrev pub given_at : Word → List Given → Option Given
given_at name given = find (λ g. bytes_eq g.name name) given

-- the value given under a name, if there is one
abbrev pub value_at : Word → List Given → Option Word
value_at name given = option_and_then (λ g. g.value) (given_at name given)
