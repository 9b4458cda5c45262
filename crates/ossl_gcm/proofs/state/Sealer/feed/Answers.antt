use Rattle.std.proofs.Common.{◌≡◌, ℕ, List, ◌/◌, ◌++◌, length, length-append, refl, sym, ap, ◌∙◌}
use Rattle.ossl_blocks.specs.Cut.{whole_len}
use Rattle.ossl_blocks.specs.Held.{held_of}
use Rattle.ossl_gcm.specs.Run.{before, ciphertext_of, sealed_of}
use Rattle.ossl_gcm.specs.Gcm.{blocks_from}
use Rattle.ossl_gcm.proofs.Sealing.{sealed_fed, given_fed}
use Rattle.ossl_gcm.proofs.state.Sealer.feed.Goals as goal

pub returns-clause-outcome : goal.returns-clause-outcome
returns-clause-outcome g c = λ rest.
    let s = c.args.self.now in
    let st = s.stream in
    let bytes = c.args.bytes.now in
    let held = held_of c.feed.new.self in
    let cut = c.feed.ensures.1 in
    let after = c.feed.ensures.2.0 in
    let count : c.whole_len-count.result ≡ length c.feed.ensures.0 =
    c.whole_len-count.ensures ∙ ap (whole_len 16 0) (sym (length-append (held_of s.buffer) bytes)) ∙ sym cut.len in
    ap (λ (x : List ℕ). before x (sealed_of g.C.Block.enc s (bytes ++ rest))) (sym c.reserve.ensures.items)
    ∙ sealed_fed (g.C.Block.enc st.cipher) st.key st.mask st.aad_bits st.hash s.len c.saturating_add-self.result c.whole_len-count.result st.counter _ bytes c.feed.ensures.0 held (held_of s.buffer) rest
    c.reserve.new.self.items c.feed.new.out.items refl cut c.feed.ensures.2.2 c.feed.ensures.2.1 count c.saturating_add-self.ensures
    ∙ sym (λ i. before c.feed.new.out.items (sealed_of g.C.Block.enc (record { stream = after i; buffer = c.feed.new.self; len = c.saturating_add-self.result }) rest))

pub returns-clause-given : goal.returns-clause-given
returns-clause-given g c = λ rest.
    let s = c.args.self.now in
    let st = s.stream in
    let bytes = c.args.bytes.now in
    let held = held_of c.feed.new.self in
    let after = c.feed.ensures.2.0 in
    ap (λ (x : List ℕ). x ++ ciphertext_of g.C.Block.enc s (bytes ++ rest)) (sym c.reserve.ensures.items)
    ∙ given_fed (g.C.Block.enc st.cipher) st.key st.mask st.aad_bits st.hash st.counter _ bytes c.feed.ensures.0 held (held_of s.buffer) rest
    c.reserve.new.self.items c.feed.new.out.items refl c.feed.ensures.1 c.feed.ensures.2.1
    ∙ sym (λ i. c.feed.new.out.items ++ ciphertext_of g.C.Block.enc (record { stream = after i; buffer = c.feed.new.self; len = c.saturating_add-self.result }) rest)

pub returns-clause-appends : goal.returns-clause-appends
returns-clause-appends g c =
    let st = c.args.self.now.stream in
    let done = c.feed.ensures.0 in
    let given = blocks_from (g.C.Block.enc st.cipher) (length done / 16) st.counter done in
    (given, c.feed.ensures.2.1 ∙ ap (λ (x : List ℕ). x ++ given) c.reserve.ensures.items)
