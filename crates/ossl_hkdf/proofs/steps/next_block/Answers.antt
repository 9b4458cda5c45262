use Rattle.std.proofs.Common.{[]}
use Rattle.ossl_hkdf.proofs.steps.next_block.Goals as goal

pub returns : goal.returns
returns c = λ hash key held.
    c.finish.ensures.code hash key _
    (c.feed-3.ensures hash key _ (c.feed-2.ensures hash key _ (c.feed.ensures hash key [] (rw c.copy-mac.ensures held))))
