-- Laws that the trait of intakes asks for: no bytes change nothing, and two pieces are as good as both joined.
use Rattle.std.proofs.Common.{ℕ, List, [], ◌++◌, refl, subst, sym, ap, ◌∙◌}
use Rattle.std.proofs.lemmas.List.{append-nil, append_assoc}
use Rattle.ossl_digests.specs.declared.digester.Digester.{Digester}
use Rattle.ossl_digests.specs.Holds as D
use Rattle.ossl_hmac.specs.declared.hmac.Hmac.{Hmac}
use Rattle.ossl_hmac.specs.Holds as M
use Rattle.ossl_aes.specs.declared.block.Block.{Ghosts}
use Rattle.ossl_cmac.specs.declared.state.Cmac.{Cmac}
use Rattle.ossl_cmac.specs.Run.{mac_of}
use Rattle.ossl_speed.specs.Fed.{IsDigesterFed, IsHmacFed, IsCmacFed, IsAppended}

pub digester-nothing : (a : Digester) → IsDigesterFed a [] a
digester-nothing a hash m held = subst (D.Holds a hash) (sym (append-nil m)) held

pub digester-joined : (a b c : Digester) (x y : List ℕ) → IsDigesterFed a x b → IsDigesterFed b y c
    → IsDigesterFed a (x ++ y) c
digester-joined a b c x y f g hash m held =
    subst (D.Holds c hash) (append_assoc m x y) (g hash (m ++ x) (f hash m held))

pub hmac-nothing : (a : Hmac) → IsHmacFed a [] a
hmac-nothing a hash key m held = subst (M.Holds a hash key) (sym (append-nil m)) held

pub hmac-joined : (a b c : Hmac) (x y : List ℕ) → IsHmacFed a x b → IsHmacFed b y c → IsHmacFed a (x ++ y) c
hmac-joined a b c x y f g hash key m held =
    subst (M.Holds c hash key) (append_assoc m x y) (g hash key (m ++ x) (f hash key m held))

pub cmac-nothing : {C : Type 0} {g : Ghosts C} (a : Cmac C g) → IsCmacFed a [] a
cmac-nothing a rest = refl

pub cmac-joined : {C : Type 0} {g : Ghosts C} (a b c : Cmac C g) (x y : List ℕ) → IsCmacFed a x b → IsCmacFed b y c
    → IsCmacFed a (x ++ y) c
cmac-joined a b c x y f g rest = ap (mac_of a) (append_assoc x y rest) ∙ f (y ++ rest) ∙ g rest

pub appended-nothing : (a : List ℕ) → IsAppended a [] a
appended-nothing a = sym (append-nil a)

pub appended-joined : (a b c x y : List ℕ) → IsAppended a x b → IsAppended b y c → IsAppended a (x ++ y) c
appended-joined a b c x y f g = g ∙ ap (λ (t : List ℕ). t ++ y) f ∙ append_assoc a x y
