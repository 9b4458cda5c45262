use Rattle.std.proofs.Common.{ℕ, ◌/◌, List, ◌++◌, length, ap, sym, refl, ◌∙◌}
use Rattle.ossl_blocks.specs.Held.{held_of}
use Rattle.ossl_modes.specs.Modes.{before, blocks, outcome, whole_blocks}
use Rattle.ossl_modes.specs.Run.{outcome_of, whole_blocks_of}
use Rattle.ossl_modes.proofs.Steps.{fed_text, fed_whole}
use Rattle.ossl_modes.proofs.state.Mode.feed.Goals as goal

pub returns-clause-appends : goal.returns-clause-appends
returns-clause-appends g c =
    let m = c.args.self.now in
    let b = m.mode in
    let done = c.feed.ensures.0 in
    let given = blocks (g.C.Block.enc b.cipher) (g.C.Block.dec b.cipher) b.kind b.decrypt (length done / 16) b.value done in
    (given, c.feed.ensures.2.1 ∙ ap (λ (x : List ℕ). x ++ given) c.reserve.ensures.items)

pub returns-clause-text : goal.returns-clause-text
returns-clause-text g c = λ rest.
    let m = c.args.self.now in
    let b = m.mode in
    let bytes = c.args.bytes.now in
    let held = held_of c.feed.new.self in
    let after = c.feed.ensures.2.0 in
    ap (λ (x : List ℕ). before x (outcome_of m (bytes ++ rest))) (sym c.reserve.ensures.items)
    ∙ fed_text (g.C.Block.enc b.cipher) (g.C.Block.dec b.cipher) b.kind b.decrypt m.pad b.value _ bytes c.feed.ensures.0 held rest _ c.reserve.new.self.items c.feed.new.out.items (held_of m.buffer) refl
    c.feed.ensures.1 refl c.feed.ensures.2.1
    ∙ sym (λ i. before c.feed.new.out.items (outcome (g.C.Block.enc (after i).cipher) (g.C.Block.dec (after i).cipher) (after i).kind (after i).decrypt m.pad (after i).value (held ++ rest)))

pub returns-clause-unchecked : goal.returns-clause-unchecked
returns-clause-unchecked g c = λ rest.
    let m = c.args.self.now in
    let b = m.mode in
    let bytes = c.args.bytes.now in
    let held = held_of c.feed.new.self in
    let after = c.feed.ensures.2.0 in
    ap (λ (x : List ℕ). x ++ whole_blocks_of m (bytes ++ rest)) (sym c.reserve.ensures.items)
    ∙ fed_whole (g.C.Block.enc b.cipher) (g.C.Block.dec b.cipher) b.kind b.decrypt b.value _ bytes c.feed.ensures.0 held rest _ c.reserve.new.self.items c.feed.new.out.items (held_of m.buffer) refl
    c.feed.ensures.1 refl c.feed.ensures.2.1
    ∙ sym (λ i. c.feed.new.out.items ++ whole_blocks (g.C.Block.enc (after i).cipher) (g.C.Block.dec (after i).cipher) (after i).kind (after i).decrypt (after i).value (held ++ rest))
