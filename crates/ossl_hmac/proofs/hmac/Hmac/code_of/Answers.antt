use Rattle.std.proofs.Common.{◌++◌, ap, ◌∙◌, append_assoc}
use Rattle.ossl_digests.specs.Digest.{digest}
use Rattle.ossl_hmac.specs.Hmac.{padded_key, hmac}
use Rattle.ossl_hmac.proofs.hmac.Hmac.code_of.Goals as goal

pub returns-clause-code : goal.returns-clause-code
unfolding hmac
returns-clause-code c = λ hash key fed held.
    let inner = c.as_slice.ensures.value
    ∙ c.finish.ensures.digest hash _ (c.feed.ensures hash _ (rw c.copy-inner.ensures held.inner))
    ∙ ap (digest hash) (append_assoc (padded_key 0x36 hash key) fed c.args.text.now) in
    c.finish-2.ensures.digest hash _ (c.feed-2.ensures hash _ (rw c.copy-outer.ensures held.outer))
    ∙ ap (λ text. digest hash (padded_key 0x5C hash key ++ text)) inner

pub returns-clause-length : goal.returns-clause-length
returns-clause-length c = λ hash key fed held.
    c.finish-2.ensures.length hash _ (c.feed-2.ensures hash (padded_key 0x5C hash key) (rw c.copy-outer.ensures held.outer))
