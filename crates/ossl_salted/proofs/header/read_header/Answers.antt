use Rattle.std.proofs.Common.{◌≡◌, ◌-◌, drop, List, ℕ, Result, IfErr, length, length-drop, sym, subst, arith, rules}
use Rattle.std.proofs.lemmas.Grind.{common_steps}
use Rattle.std.proofs.lemmas.List.{take_all}
use Rattle.std.specs.Io.KnownBytes.{Consumes}
use Rattle.ossl_salted.specs.declared.end.End.{End}
use Rattle.ossl_salted.specs.Header.{HasNone}
use Rattle.ossl_salted.specs.Outside.{reading}
use Rattle.ossl_salted.proofs.Courses.{header_more, no_salt}
use Rattle.ossl_salted.proofs.header.read_header.Goals as goal

pub loop-count-preserved : goal.loop-count-preserved
loop-count-preserved g c =
    let head = c.loop-count.head in
    let count = c.loop-count.count in
    let size : length head ≡ 16 = c.loop-count.invariant.size in
    record {
      within = omega (arith, c.in-Ok.ensures.bound.0, c.read.auto.buf, length-drop count head, size);
      size = first_of (search rules, grind (arith, common_steps));
      taken = header_more _ _ _ head c.read.new.buf (drop (16 - count) (drop count head)) count c.in-Ok.more
          (omega (arith, size, c.loop-count.invariant.within)) c.in-Ok.ensures.bound.0 c.loop-count.invariant.taken c.in-Ok.ensures.bytes.0;
      later = omega (arith, c.in-Ok.ensures.cause.later);
    }

pub returns-clause-none : goal.returns-clause-none
returns-clause-none g c =
    let left = g.S.Source.left in
    let head = c.loop-count.head in
    let s = reading left g.S.Source.faults c.args.source.now c.loop-count.source in
    let size : length head ≡ 16 = c.loop-count.invariant.size in
    let P : List ℕ → Type 0 = λ t. Consumes s.left s.left' t in
    let all : Consumes s.left s.left' head = subst P (take_all c.loop-count.count head (omega (arith, size))) c.loop-count.invariant.taken in
    let Q : Result (List ℕ) End → Type 0 = λ r. IfErr r (λ end. HasNone s end) in
    subst Q (sym c.salt_of.ensures) (no_salt s head size all)
