-- A whole configuration by computation, and what one more line changes.
use Rattle.std.proofs.Common.{◌≡◌, ℕ, List, ◌++◌, ◌+◌, ◌<◌, ◌≤◌, length, true, if◌then◌else◌, Option, Some, Result, Ok, Err, [], ◌∷◌, codes, refl, ap}
use Rattle.std.proofs.lemmas.Bool.{lt-ltb, le-ltb}
use Rattle.ossl_property.specs.declared.clause.Relation.TheVariants.{Equal}
use Rattle.ossl_property.specs.declared.clause.Value.TheVariants.{Text}
use Rattle.ossl_property.specs.Reading.{name_at, plain_value, plain_at, value_at, comparison_at, named_at, removal_at, clause_at, more_at, list_at}
use Rattle.ossl_property.specs.Said.{query_said}
use Rattle.ossl_conf.specs.declared.kind.ConfKind.TheVariants.{Growth, Length}
use Rattle.ossl_conf.specs.declared.refusal.ConfRefused.{ConfRefused}
use Rattle.ossl_conf.specs.declared.refusal.ConfRefused.TheVariants.{Line, BadActivate, BadQuery}
use Rattle.ossl_conf.specs.Sections.{value_in, with_value}
use Rattle.ossl_conf.specs.Reading.{◌>>=◌, Conf, after_setting, checked, most_value, most_values, sections_of}
use Rattle.ossl_conf.specs.Answers.{told}
use Rattle.ossl_conf.specs.Settings.{settings_of}
use Rattle.ossl_conf.proofs.Examples.{asked_of}

-- a configuration up to its providers, those of the second one's section, and what follows
abbrev head : List ℕ
head = codes "# openssl.cnf\nHOME = .\nopenssl_conf = openssl_init\n\n[openssl_init]\nproviders = provider_sect\nalg_section = evp_properties\nssl_conf = ssl_sect\n\n[provider_sect] # two of them\ndefault = default_sect\nlegacy = legacy_sect\n\n[default_sect]\nactivate = 1\n[legacy_sect]\n"

abbrev tail : List ℕ
tail = codes "\n[evp_properties]\ndefault_properties = ?provider=default\n\n[ CA_default ]\ndir = ./demoCA          # Where everything is kept\ncerts = $dir/certs\nserial = ${dir}/serial\npolicy = $CA_default::dir\ncomment = \"OpenSSL # Generated\"\n"

abbrev openssl_cnf : List ℕ
openssl_cnf = head ++ codes "activate = yes\n" ++ tail

asked : asked_of openssl_cnf ≡ Ok (record { activations = codes "default" ∷ codes "legacy" ∷ []; properties = Some (codes "?provider=default") })
asked = refl

-- its answer: two activations, and the default query
answer : settings_of (told []) openssl_cnf ≡ Ok (record {
  activations = codes "default" ∷ codes "legacy" ∷ [];
  default_query = Some (record { name = codes "provider"; relation = Equal; value = Text (codes "default"); optional = true } ∷ []);
})
unfolding query_said name_at plain_value plain_at value_at comparison_at named_at removal_at clause_at more_at list_at
answer = refl

-- the values of its last section, by their names
abbrev authority : List ℕ → Result (Option (List ℕ)) ConfRefused
authority name = sections_of (told []) openssl_cnf >>= λ sections. Ok (value_in sections (codes "CA_default") name)

commented : authority (codes "dir") ≡ Ok (Some (codes "./demoCA"))
commented = refl

bare : authority (codes "certs") ≡ Ok (Some (codes "./demoCA/certs"))
bare = refl

bracketed : authority (codes "serial") ≡ Ok (Some (codes "./demoCA/serial"))
bracketed = refl

of_a_section : authority (codes "policy") ≡ Ok (Some (codes "./demoCA"))
of_a_section = refl

quoted : authority (codes "comment") ≡ Ok (Some (codes "OpenSSL # Generated"))
quoted = refl

-- the second provider has another name
with_identity : asked_of (head ++ codes "activate = yes\nidentity = foo\n" ++ tail)
    ≡ Ok (record { activations = codes "default" ∷ codes "foo" ∷ []; properties = Some (codes "?provider=default") })
with_identity = refl

maybe : settings_of (told []) (head ++ codes "activate = maybe\n" ++ tail) ≡ Err (BadActivate (codes "maybe"))
maybe = refl

-- a default query that repeats a name
repeated_name : settings_of (told []) (codes "openssl_conf=i\n[i]\nalg_section=q\n[q]\ndefault_properties = a=1,b,A=2") ≡ Err (BadQuery 6)
unfolding query_said name_at plain_value plain_at value_at comparison_at named_at removal_at clause_at more_at list_at
repeated_name = refl

-- the greatest length of a value, and one more
kept_value : (number : ℕ) (value : List ℕ) → length value ≤ most_value → checked number (Ok value) ≡ Ok value
kept_value number value fits = ap (λ long. if long then Err (Line number Length) else Ok value) (le-ltb most_value (length value) fits)

long_value : (number : ℕ) (value : List ℕ) → most_value < length value → checked number (Ok value) ≡ Err (Line number Length)
long_value number value above = ap (λ long. if long then Err (Line number Length) else Ok value) (lt-ltb most_value (length value) above)

-- the greatest sum of all values, and one more
kept_sum : (conf : Conf) (number : ℕ) (value : List ℕ) → conf.total + length value ≤ most_values
    → after_setting conf number (codes "s") (codes "n") value ≡ Ok (record conf { sections = with_value (codes "s") (codes "n") value conf.sections; total = conf.total + length value })
kept_sum conf number value fits =
    ap (λ long. if long then Err (Line number Growth) else Ok (record conf { sections = with_value (codes "s") (codes "n") value conf.sections; total = conf.total + length value }))
    (le-ltb most_values (conf.total + length value) fits)

long_sum : (conf : Conf) (number : ℕ) (value : List ℕ) → most_values < conf.total + length value → after_setting conf number (codes "s") (codes "n") value ≡ Err (Line number Growth)
long_sum conf number value above =
    ap (λ long. if long then Err (Line number Growth) else Ok (record conf { sections = with_value (codes "s") (codes "n") value conf.sections; total = conf.total + length value }))
    (lt-ltb most_values (conf.total + length value) above)
