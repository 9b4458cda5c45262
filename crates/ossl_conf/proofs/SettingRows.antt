-- Settings by computation: which of them count, and why they are refused.
use Rattle.std.proofs.Common.{◌≡◌, ℕ, List, ◌++◌, true, false, Some, None, Result, Ok, Err, [], ◌∷◌, codes, refl}
use Rattle.ossl_conf.specs.declared.kind.ConfKind.TheVariants.{Equals}
use Rattle.ossl_conf.specs.declared.refusal.ConfRefused.{ConfRefused}
use Rattle.ossl_conf.specs.declared.refusal.ConfRefused.TheVariants.{Line, NoSection, BadActivate}
use Rattle.ossl_conf.specs.Settings.{Asked, is_on}
use Rattle.ossl_conf.proofs.Examples.{asked_of}

-- the providers section is p, with these lines behind it
abbrev with_providers : List ℕ → Result Asked ConfRefused
with_providers lines = asked_of (codes "openssl_conf=i\n[i]\nproviders=p\n[p]\n" ++ lines)

-- the section of properties is q, with these lines behind it
abbrev with_properties : List ℕ → Result Asked ConfRefused
with_properties lines = asked_of (codes "openssl_conf=i\n[i]\nalg_section=q\n" ++ lines)

nothing_set : asked_of [] ≡ Ok (record { activations = []; properties = None })
nothing_set = refl

-- `openssl_conf` counts in the section `default` alone
in_another_section : asked_of (codes "[s]\nopenssl_conf=nosuch") ≡ Ok (record { activations = []; properties = None })
in_another_section = refl

no_init_section : asked_of (codes "openssl_conf=nosuch") ≡ Err (NoSection (codes "nosuch"))
no_init_section = refl

-- an empty section name is never opened
empty_section_name : asked_of (codes "openssl_conf =") ≡ Err (NoSection [])
empty_section_name = refl

-- a section that is only opened, or only set into, is there
opened_section : asked_of (codes "openssl_conf=i\n[i]") ≡ Ok (record { activations = []; properties = None })
opened_section = refl

set_section : asked_of (codes "openssl_conf=i\ni::x=1") ≡ Ok (record { activations = []; properties = None })
set_section = refl

-- activations come in the order of the entries, by their names or by `identity`
in_order : with_providers (codes "b=s\na=t\nc=u\n[t]\nactivate=on\n[s]\nactivate=1\nidentity=z\n[u]\n")
    ≡ Ok (record { activations = codes "z" ∷ codes "a" ∷ []; properties = None })
in_order = refl

-- a name that is set again keeps its place
set_again : with_providers (codes "b=s\na=s\nb=t\n[s]\nactivate=1\n[t]\nactivate=1\nidentity=y\n")
    ≡ Ok (record { activations = codes "y" ∷ codes "a" ∷ []; properties = None })
set_again = refl

-- a section that is opened again goes on
opened_again : with_providers (codes "a=s\n[s]\nactivate=0\n[p]\nb=s\n[s]\nactivate=YES\n")
    ≡ Ok (record { activations = codes "a" ∷ codes "b" ∷ []; properties = None })
opened_again = refl

off : with_providers (codes "a=s\n[s]\nactivate=off\nidentity=z\n") ≡ Ok (record { activations = []; properties = None })
off = refl

empty_identity : with_providers (codes "a=s\n[s]\nactivate=1\nidentity=\n") ≡ Ok (record { activations = [] ∷ []; properties = None })
empty_identity = refl

neither_on_nor_off : with_providers (codes "a=s\n[s]\nactivate = maybe\n") ≡ Err (BadActivate (codes "maybe"))
neither_on_nor_off = refl

-- an empty word is neither
empty_word : with_providers (codes "a=s\n[s]\nactivate=\n") ≡ Err (BadActivate [])
empty_word = refl

-- an earlier entry's word comes before a later entry's section
earlier_entry : with_providers (codes "a=s\nb=nosuch\n[s]\nactivate=maybe\n") ≡ Err (BadActivate (codes "maybe"))
earlier_entry = refl

no_provider_section : with_providers (codes "a=nosuch\n") ≡ Err (NoSection (codes "nosuch"))
no_provider_section = refl

-- the providers come before the properties
providers_first : asked_of (codes "openssl_conf=i\n[i]\nalg_section=q\nproviders=p") ≡ Err (NoSection (codes "p"))
providers_first = refl

default_text : with_properties (codes "[q]\ndefault_properties = ?fips=yes # z") ≡ Ok (record { activations = []; properties = Some (codes "?fips=yes") })
default_text = refl

-- an empty text is there
empty_text : with_properties (codes "[q]\ndefault_properties=") ≡ Ok (record { activations = []; properties = Some [] })
empty_text = refl

no_text : with_properties (codes "[q]") ≡ Ok (record { activations = []; properties = None })
no_text = refl

no_properties_section : with_properties [] ≡ Err (NoSection (codes "q"))
no_properties_section = refl

-- a line that is refused comes before every setting
line_first : asked_of (codes "openssl_conf=nosuch\nx") ≡ Err (Line 2 Equals)
line_first = refl

words_on : is_on (codes "True") ≡ Some true
words_on = refl

words_off : is_on (codes "nO") ≡ Some false
words_off = refl

no_word : is_on (codes "y") ≡ None
no_word = refl
