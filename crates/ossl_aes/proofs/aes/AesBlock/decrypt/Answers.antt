use Rattle.std.proofs.Common.{ℕ, List, ap, ◌+◌, ◌-◌, arith, ◌∙◌}
use Rattle.ossl_aes.specs.Cipher.{add}
use Rattle.ossl_aes.specs.Rounds.{state_of, inv_round, last_inv_round}
use Rattle.ossl_aes.proofs.BlockFacts.{inv_round_none, inv_round_more, inv_round_last, inv_mixed_key}
use Rattle.ossl_aes.proofs.aes.AesBlock.decrypt.Goals as goal

pub round-init : goal.round-init
round-init g c =
    inv_round_none c.self.inside.words (g.row.NK + 6) c.args.block _
    (c.add-s.ensures ∙ (λ i. add (c.load.ensures i) (state_of (c.round_key.ensures i))))

pub round-preserved : goal.round-preserved
round-preserved g c =
    inv_round_more c.self.inside.words c.self.inside.inv_words c.args.block (state_of c.round.s) _ c.round.n (g.row.NK + 6) (omega arith) (omega arith)
    (inv_mixed_key c.self.inside.words c.self.inside.inv_words (g.row.NK + 6 - c.round.n) g.row.WORDS (omega arith) c.self.invariant.1) c.round.invariant
    (c.dec_round-next.ensures ∙ ap (λ (k : List ℕ). inv_round (state_of c.round.s) (state_of k)) c.round_key-in-round.ensures)

pub returns : goal.returns
returns g c = rw (← c.self.view_is)
    (c.store.ensures ∙ c.dec_last.ensures ∙ ap (λ (k : List ℕ). last_inv_round (state_of c.round.s) (state_of k)) c.round_key-2.ensures
    ∙ inv_round_last c.self.inside.words c.args.block (state_of c.round.s) c.round.n (g.row.NK + 6) (omega arith) c.round.invariant)
