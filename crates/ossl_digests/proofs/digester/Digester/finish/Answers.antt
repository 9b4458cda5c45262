use Rattle.std.proofs.Common.{length, ap, ◌∙◌}
use Rattle.ossl_digests.specs.declared.hash.Hash.{Hash}
use Rattle.ossl_digests.specs.Digest.{digest}
use Rattle.ossl_digests.proofs.Lengths.{length-digest}
use Rattle.ossl_digests.proofs.digester.Digester.finish.Goals as goal

pub returns-clause-digest : goal.returns-clause-digest
returns-clause-digest c = λ hash fed held.
    c.finish.ensures fed held.was_fed ∙ ap (λ (h : Hash). digest h fed) held.is_of

pub returns-clause-length : goal.returns-clause-length
returns-clause-length c = λ hash fed held.
    ap length (c.finish.ensures fed held.was_fed ∙ ap (λ (h : Hash). digest h fed) held.is_of) ∙ length-digest hash fed
