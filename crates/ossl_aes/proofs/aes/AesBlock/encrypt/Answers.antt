use Rattle.std.proofs.Common.{ℕ, List, ap, ◌+◌, arith, ◌∙◌}
use Rattle.ossl_aes.specs.Cipher.{add}
use Rattle.ossl_aes.specs.Rounds.{state_of, round, last_round}
use Rattle.ossl_aes.proofs.BlockFacts.{round_none, round_more, round_last}
use Rattle.ossl_aes.proofs.aes.AesBlock.encrypt.Goals as goal

pub round-init : goal.round-init
round-init g c =
    round_none c.self.inside.words c.args.block _
    (c.add-s.ensures ∙ (λ i. add (c.load.ensures i) (state_of (c.round_key.ensures i))))

pub round-preserved : goal.round-preserved
round-preserved g c =
    round_more c.self.inside.words c.args.block (state_of c.round.s) _ c.round.n (omega arith) c.round.invariant
    (c.enc_round-next.ensures ∙ ap (λ (k : List ℕ). round (state_of c.round.s) (state_of k)) c.round_key-in-round.ensures)

pub returns : goal.returns
returns g c = rw (← c.self.view_is)
    (c.store.ensures ∙ c.enc_last.ensures ∙ ap (λ (k : List ℕ). last_round (state_of c.round.s) (state_of k)) c.round_key-2.ensures
    ∙ round_last c.self.inside.words c.args.block (state_of c.round.s) c.round.n (g.row.NK + 6) (omega arith) c.round.invariant)
