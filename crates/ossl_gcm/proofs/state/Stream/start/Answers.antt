use Rattle.std.proofs.Common.{ℕ, ◌*◌, ◌%◌, ◌^◌, length, ap, ◌∙◌}
use Rattle.ossl_ghash.specs.Ghash.{hash_from, filled}
use Rattle.ossl_gcm.specs.Gcm.{next_counter, first_counter}
use Rattle.ossl_gcm.proofs.Tags.{subkey_is}
use Rattle.ossl_gcm.proofs.state.Stream.start.Goals as goal

pub returns : goal.returns
returns g c =
    let e = g.C.Block.enc c.args.cipher in
    let key = subkey_is e c.encrypt.result c.from_be_bytes.result c.new-key.result c.encrypt.ensures c.from_be_bytes.ensures c.new-key.ensures in
    let first = c.first_counter-first.ensures ∙ ap (λ (h : ℕ). first_counter h c.args.iv.now) key in
    let mask = c.encrypt-mask.ensures ∙ ap e first in
    let counter = c.next_counter.ensures ∙ ap next_counter first in
    let hash = c.hash_text-hash.ensures ∙ ap (λ (h : ℕ). hash_from h 0 (filled c.args.aad.now)) key in
    λ i. record {
      cipher = c.args.cipher;
      key = key i;
      mask = mask i;
      aad_bits = length c.args.aad.now * 8 % 2 ^ 64;
      counter = counter i;
      hash = hash i;
    }
