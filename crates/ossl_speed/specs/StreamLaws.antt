-- Laws of ciphers that the trait of intakes asks for.
use Rattle.std.proofs.Common.{ℕ, List, [], ◌++◌, refl, ap, ◌∙◌}
use Rattle.std.proofs.lemmas.List.{append_assoc}
use Rattle.ossl_speed.specs.Streams.{IsSealingFed}
use Rattle.ossl_speed.specs.Values.{last}

pub sealing-nothing : (before : List ℕ → List ℕ) (out : List ℕ) → IsSealingFed before out [] before out
sealing-nothing before out rest = refl

pub sealing-joined : (f g h : List ℕ → List ℕ) (a b c x y : List ℕ) → IsSealingFed f a x g b → IsSealingFed g b y h c
    → IsSealingFed f a (x ++ y) h c
sealing-joined f g h a b c x y one two rest =
    ap (λ (t : List ℕ). last 64 (a ++ f t)) (append_assoc x y rest) ∙ one (y ++ rest) ∙ two rest
