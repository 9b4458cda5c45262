use Rattle.std.proofs.Common.{◌≡◌, ℕ, ◌+◌, ◌-◌, ◌*◌, ◌/◌, ◌≤◌, List, ◌++◌, length, length-append, take, drop, subst, sym, ap, ◌∙◌, append_assoc, arith, refl}
use Rattle.std.proofs.lemmas.List.{length-take-le, take-append-drop, take_rest}
use Rattle.ossl_blocks.specs.Cut.{whole_len}
use Rattle.ossl_blocks.specs.Held.{held_of}
use Rattle.ossl_blocks.proofs.Cuts.{are_whole, length-whole, whole_more, completed, cut_begun}
use Rattle.ossl_blocks.proofs.state.Buffer.feed_begun.Goals as goal
use borrow.Rule.Slice.PartMut.{put_mid}

pub take-requires-clause-rest : goal.take-requires-clause-rest
take-requires-clause-rest g c =
    let rest = c.split_at.result.1.now in
    are_whole g.row.SIZE (length rest - g.row.KEPT) rest (omega arith)

pub take-requires-clause-room : goal.take-requires-clause-room
take-requires-clause-room g c =
    let size = g.row.SIZE in
    let kept = g.row.KEPT in
    let rest = c.split_at.result.1.now in
    let s = c.args.self.now in
    let k : ℕ = length s.held - s.count in
    let held = length-take-le s.count s.held (omega arith) in
    let more = whole_more size kept (length rest) (omega (arith, s.size)) (omega (arith, c.requires.enough, c.split_at.ensures.back_len)) in
    let all : size + length rest ≡ length (held_of s) + length c.args.bytes.now = omega (arith, held, c.split_at.ensures.back_len, c.requires.begun) in
    let full = ap length (completed s.held c.copy_from_slice.new.self s.count k (omega arith) (omega arith))
    ∙ length-append (take s.count s.held) c.copy_from_slice.new.self in
    let first : length (put_mid s.count k s.held c.copy_from_slice.new.self) ≡ size = omega (arith, full, held, c.copy_from_slice.ensures.len) in
    subst (λ (n : ℕ). g.T.BlockTaker.has_room c.args.out.now n)
    (sym ((λ i. first i + length-whole size (length rest - kept) rest (omega arith) i) ∙ more ∙ ap (whole_len size kept) all)) c.requires.room

pub returns : goal.returns
returns g c =
    let size = g.row.SIZE in
    let kept = g.row.KEPT in
    let rest = c.split_at.result.1.now in
    let s = c.args.self.now in
    let bytes = c.args.bytes.now in
    let k : ℕ = length s.held - s.count in
    let held : List ℕ = take s.count s.held in
    let held_len = length-take-le s.count s.held (omega arith) in
    let whole = completed s.held c.copy_from_slice.new.self s.count k (omega arith) (omega arith) in
    let block = whole ∙ ap (λ (x : List ℕ). held ++ x) (c.copy_from_slice.ensures.after ∙ c.split_at.ensures.front) in
    let full = ap length whole ∙ length-append held c.copy_from_slice.new.self in
    let text = sym ((λ i. block i ++ c.split_at.ensures.back i) ∙ append_assoc held (take (size - s.count) bytes) (drop (size - s.count) bytes)
    ∙ ap (λ (x : List ℕ). held ++ x) (take-append-drop (size - s.count) bytes)) in
    let low : kept ≤ length rest = omega (arith, c.requires.enough, c.split_at.ensures.back_len) in (
      _,
      cut_begun size kept (held ++ bytes) (put_mid s.count k s.held c.copy_from_slice.new.self) rest _ _ (omega (arith, s.size)) text
          (omega (arith, full, held_len, c.copy_from_slice.ensures.len)) low refl
          (c.hold.ensures ∙ take_rest rest ((length rest - kept) / size * size)),
      c.take.ensures,
    )
