-- The settings of a configuration, read from its sections when all lines were accepted.
use Rattle.std.specs.Prelude.{ℕ, Bool, true, false, Option, Some, None, Result, Ok, Err, List, [], ◌∷◌, ◌++◌, codes}
use Rattle.std.specs.Prelude.{unwrap_or, if◌then◌else◌}
use Rattle.std.specs.List.{list_any}
use Rattle.std.specs.Option.{ok_or}
use Rattle.std.specs.Str.{str_eq_ignore_ascii_case}
use Rattle.ossl_property.specs.declared.clause.Clause.{Clause}
use Rattle.ossl_property.specs.Said.{query_said}
use Rattle.ossl_conf.specs.declared.refusal.ConfRefused.{ConfRefused}
use Rattle.ossl_conf.specs.declared.refusal.ConfRefused.TheVariants.{NoSection, BadActivate, BadQuery}
use Rattle.ossl_conf.specs.View.{SettingsView}
use Rattle.ossl_conf.specs.Sections.{Entries, Sections, found, value_in, default_section}
use Rattle.ossl_conf.specs.Reading.{◌>>=◌, Answering, sections_of}

-- the words that are on
abbrev pub on_words : List (List ℕ)
on_words = codes "1" ∷ codes "yes" ∷ codes "true" ∷ codes "on" ∷ []

-- and those that are off
abbrev pub off_words : List (List ℕ)
off_words = codes "0" ∷ codes "no" ∷ codes "false" ∷ codes "off" ∷ []

-- whether a word of `activate` is on or off, whatever its case
abbrev pub is_on : List ℕ → Option Bool
is_on word =
    if list_any (str_eq_ignore_ascii_case word) on_words then Some true
    else if list_any (str_eq_ignore_ascii_case word) off_words then Some false
    else None

-- a section that is named: one that was opened or set into
abbrev pub named : Sections → List ℕ → Result Entries ConfRefused
named sections name = ok_or (found name sections) (NoSection name)

-- whether `activate` is on; where it is absent it is off
abbrev pub activates : Option (List ℕ) → Result Bool ConfRefused
activates None = Ok false
activates (Some word) = ok_or (is_on word) (BadActivate word)

-- a provider's section by the name and the value of its entry, and the name that is activated: `identity`, else the
-- entry's
abbrev pub activation : Sections → List ℕ × List ℕ → Result (List (List ℕ)) ConfRefused
activation sections entry =
    named sections entry.1 >>= λ section.
    activates (found (codes "activate") section) >>= λ active.
    Ok (if active then unwrap_or (found (codes "identity") section) entry.0 ∷ [] else [])

-- the activations of the entries in order
abbrev pub activations : Sections → Entries → Result (List (List ℕ)) ConfRefused
activations sections [] = Ok []
activations sections (entry ∷ entries) =
    activation sections entry >>= λ first. activations sections entries >>= λ rest. Ok (first ++ rest)

-- what the section that `providers` names activates; nothing where there is no such name
abbrev pub providers : Sections → Option (List ℕ) → Result (List (List ℕ)) ConfRefused
providers sections None = Ok []
providers sections (Some name) = named sections name >>= λ entries. activations sections entries

-- the `default_properties` of the section that `alg_section` names, not yet read as a query
abbrev pub properties : Sections → Option (List ℕ) → Result (Option (List ℕ)) ConfRefused
properties sections None = Ok None
properties sections (Some name) = named sections name >>= λ section. Ok (found (codes "default_properties") section)

-- what the sections ask for: the activations, and the text of the default query
pub record Asked : Type 0 where
  pub activations : List (List ℕ)
  pub properties : Option (List ℕ)

-- what the init section asks for; every other name in it is passed over
abbrev pub init_asked : Sections → Entries → Result Asked ConfRefused
init_asked sections init =
    providers sections (found (codes "providers") init) >>= λ names.
    properties sections (found (codes "alg_section") init) >>= λ text.
    Ok (record { activations = names; properties = text })

-- what the section that `openssl_conf` names asks for; nothing where that is not set
abbrev pub asked_by : Sections → Option (List ℕ) → Result Asked ConfRefused
asked_by sections None = Ok (record { activations = []; properties = None })
asked_by sections (Some name) = named sections name >>= λ init. init_asked sections init

-- what all sections ask for
abbrev pub asked_in : Sections → Result Asked ConfRefused
asked_in sections = asked_by sections (value_in sections default_section (codes "openssl_conf"))

-- the query that a text says, or the place of its first fault
abbrev pub query_of : Result (List Clause) ℕ → Result (Option (List Clause)) ConfRefused
query_of (Ok clauses) = Ok (Some clauses)
query_of (Err place) = Err (BadQuery place)

-- the default query, where a text says one
abbrev pub default_query : Option (List ℕ) → Result (Option (List Clause)) ConfRefused
default_query None = Ok None
default_query (Some text) = query_of (query_said text)

-- the settings that are asked for. The default query is read last
abbrev pub settled : Asked → Result SettingsView ConfRefused
settled asked =
    default_query asked.properties >>= λ query. Ok (record { activations = asked.activations; default_query = query })

-- the settings of all sections
abbrev pub settings_in : Sections → Result SettingsView ConfRefused
settings_in sections = asked_in sections >>= settled

-- the settings of a text, or why it is refused, where files answer so
abbrev pub settings_of : Answering → List ℕ → Result SettingsView ConfRefused
settings_of files text = sections_of files text >>= settings_in
