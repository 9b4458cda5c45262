-- What is no refusal of a file: everything but the reading of one.
use Rattle.std.proofs.Common.{◌≡◌, ℕ, nat_lt, Bool, true, false, Option, None, Some, Result, Ok, Err, List, [], ◌∷◌, ◌++◌, length, codes, if◌then◌else◌, unwrap_or, refl, ap, sym, ◌∙◌}
use Rattle.std.specs.Option.{ok_or}
use Rattle.ossl_property.specs.declared.clause.Clause.{Clause}
use Rattle.ossl_base.specs.declared.files.FileRefusal.{FileRefusal}
use Rattle.ossl_conf.specs.declared.kind.ConfKind.TheVariants.{Length, Growth, Name}
use Rattle.ossl_conf.specs.declared.refusal.ConfRefused.{ConfRefused}
use Rattle.ossl_conf.specs.declared.refusal.ConfRefused.TheVariants.{Line, NoVariable, NoSection, BadActivate, BadQuery, File}
use Rattle.ossl_conf.specs.Values.{parts, replaced}
use Rattle.ossl_conf.specs.Sections.{Entries, Sections, default_section, found, value_in}
use Rattle.ossl_conf.specs.Said.{Said, nothing, opens, sets, includes, faulty}
use Rattle.ossl_conf.specs.Reading.{Conf, ◌>>=◌, after_plain, after_setting, checked, file_name, file_of, most_value, most_values, value_by_name, value_of}
use Rattle.ossl_conf.specs.Settings.{Asked, activates, activation, activations, asked_by, asked_in, default_query, init_asked, is_on, named, properties, providers, query_of, settings_in, settled}
use Rattle.ossl_property.specs.Said.{query_said}
use Rattle.ossl_conf.specs.Answers.{Answers}

-- it refuses no file
abbrev pub IsNoFile : {A : Type 0} → Result A ConfRefused → Type 0
IsNoFile said = (name : List ℕ) (refusal : FileRefusal) → said ≡ Err (File name refusal) → ⊥

answered : {A : Type 0} (x : A) → IsNoFile {A = A} (Ok x)
answered x name refusal e = absurd (cc)

line : {A : Type 0} (number : ℕ) (kind : _) → IsNoFile {A = A} (Err (Line number kind))
line number kind name refusal e = absurd (cc)

follows_on : {A B : Type 0} (said : Result A ConfRefused) (next : A → Result B ConfRefused) → IsNoFile said → ((x : A) → IsNoFile (next x)) → IsNoFile (said >>= next)
follows_on (Ok x) next first rest = rest x
follows_on {A} {B} (Err other) next first rest = λ name refusal e. first name refusal (let e' : ◌≡◌ {A = Result B ConfRefused} (Err other) (Err (File name refusal)) = e in let same : other ≡ File name refusal = cc in ap Err same)

either : {A : Type 0} (b : Bool) (x y : Result A ConfRefused) → IsNoFile x → IsNoFile y → IsNoFile (if b then x else y)
either true x y hx hy = hx
either false x y hx hy = hy

there : {A : Type 0} (o : Option A) (other : ConfRefused) → IsNoFile {A = A} (Err other) → IsNoFile (ok_or o other)
there None other h = h
there (Some x) other h = answered x

checked-no_file : (number : ℕ) (said : Result (List ℕ) (List ℕ)) → IsNoFile (checked number said)
checked-no_file number (Ok value) = either (nat_lt most_value (length value)) _ _ (line number Length) (answered value)
checked-no_file number (Err written) = λ name refusal e. absurd (cc)

-- a line that includes no file
pub after_plain-no_file : (conf : Conf) (number : ℕ) (said : Said) → IsNoFile (after_plain conf number said)
after_plain-no_file conf number nothing = answered conf
after_plain-no_file conf number (opens name) = answered _
after_plain-no_file conf number (sets section name text) =
    follows_on (value_of conf number text) _ (checked-no_file number (replaced (value_by_name conf) (parts text)))
    (λ value. either (nat_lt most_values _) _ _ (line number Growth) (answered _))
after_plain-no_file conf number (includes text) = answered conf
after_plain-no_file conf number (faulty kind) = line number kind

-- the name of a file
pub file_of-no_file : (conf : Conf) (number : ℕ) (text : List ℕ) → IsNoFile (file_of conf number text)
file_of-no_file conf number text = follows_on (value_of conf number text) _ (checked-no_file number (replaced (value_by_name conf) (parts text))) name
  where
    name : (name : List ℕ) → IsNoFile (file_name number name)
    name [] = line number Name
    name (b ∷ rest) = answered (b ∷ rest)

named-no_file : (sections : Sections) (name : List ℕ) → IsNoFile (named sections name)
named-no_file sections name = there (found name sections) (NoSection name) (λ other refusal e. absurd (cc))

activates-no_file : (word : Option (List ℕ)) → IsNoFile (activates word)
activates-no_file None = answered false
activates-no_file (Some word) = there (is_on word) (BadActivate word) (λ other refusal e. absurd (cc))

activations-no_file : (sections : Sections) (entries : Entries) → IsNoFile (activations sections entries)
activations-no_file sections [] = answered []
activations-no_file sections (entry ∷ entries) =
    follows_on (activation sections entry) _
    (follows_on (named sections entry.1) _ (named-no_file sections entry.1) (λ section.
    follows_on (activates (found (codes "activate") section)) _ (activates-no_file (found (codes "activate") section)) (λ active. answered _)))
    (λ first. follows_on (activations sections entries) _ (activations-no_file sections entries) (λ rest. answered _))

providers-no_file : (sections : Sections) (name : Option (List ℕ)) → IsNoFile (providers sections name)
providers-no_file sections None = answered []
providers-no_file sections (Some name) = follows_on (named sections name) _ (named-no_file sections name) (activations-no_file sections)

properties-no_file : (sections : Sections) (name : Option (List ℕ)) → IsNoFile (properties sections name)
properties-no_file sections None = answered None
properties-no_file sections (Some name) = follows_on (named sections name) _ (named-no_file sections name) (λ section. answered _)

asked_by-no_file : (sections : Sections) (name : Option (List ℕ)) → IsNoFile (asked_by sections name)
asked_by-no_file sections None = answered _
asked_by-no_file sections (Some name) = follows_on (named sections name) _ (named-no_file sections name) (λ init.
    follows_on (providers sections (found (codes "providers") init)) _ (providers-no_file sections _) (λ names.
    follows_on (properties sections (found (codes "alg_section") init)) _ (properties-no_file sections _) (λ text. answered _)))

query-no_file : (said : Result (List Clause) ℕ) → IsNoFile (query_of said)
query-no_file (Ok clauses) = answered _
query-no_file (Err place) = λ name refusal e. absurd (cc)

default-no_file : (text : Option (List ℕ)) → IsNoFile (default_query text)
default-no_file None = answered None
default-no_file (Some text) = query-no_file (query_said text)

-- the settings of sections
pub settings_in-no_file : (sections : Sections) → IsNoFile (settings_in sections)
settings_in-no_file sections =
    follows_on (asked_in sections) settled (asked_by-no_file sections _) (λ asked.
    follows_on (default_query asked.properties) _ (default-no_file asked.properties) (λ query. answered _))

-- so an answer that is one refuses no file
pub no_file : {A : Type 0} (said answer : Result A ConfRefused) → IsNoFile said → Answers answer said → IsNoFile answer
no_file said answer none h name refusal e = none name refusal (rw e at h)
