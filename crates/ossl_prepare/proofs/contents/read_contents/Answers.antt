use Rattle.std.proofs.Common.{◌≤◌, ◌+◌, ℕ, List, [], Ok, Err, drop, ap, ◌∙◌, arith, length}
use Rattle.ossl_commands.specs.declared.limit.Limit.TheVariants as limits
use Rattle.std.proofs.lemmas.List.{length_push}
use Rattle.ossl_prepare.specs.Answered.{AreContents, ButForMemory, IsContent, Told}
use Rattle.ossl_prepare.proofs.ContentLaws.{all_refused, handed, next_read, next_refused}
use Rattle.ossl_prepare.proofs.contents.read_contents.Goals as goal

pub returns-in_err-content-clause-contents : goal.returns-in_err-content-clause-contents
returns-in_err-content-clause-contents g c before after low high =
    let e = c.in_err-content.field-0.0 in
    let files : Told = record { entries = g.F.Files.entries c.args.files.now; before = before; after = after } in
    let first : before ≤ g.F.Files.faults c.loop-name.files = omega (arith, low, c.loop-name.invariant.later) in
    let last : g.F.Files.faults c.loop-name.files ≤ after = omega (arith, high, c.read_content.ensures.later) in
    let content : ButForMemory {A = List ℕ} (Err e) (IsContent files c.name-item.result limits.File) = rw c.loop-name.invariant.kept at (c.in_err-content.ensures.content before after first high) in
    let all = all_refused (AreContents files c.loop-name.contents.items (drop c.loop-name.name-index c.args.names.now)) (AreContents files [] c.args.names.now) e
    (λ result. c.loop-name.invariant.all before after low last result)
    (next_refused files c.args.names.now c.loop-name.name-index c.name-item.result c.loop-name-test.true c.name-item.is c.loop-name.contents.items e content) in
    rw (handed c.from_residual.result e c.from_residual.ensures) all

pub loop-name-preserved : goal.loop-name-preserved
loop-name-preserved g c = record {
  all = λ before after low high result rest.
      let files : Told = record { entries = g.F.Files.entries c.args.files.now; before = before; after = after } in
      let first : before ≤ g.F.Files.faults c.loop-name.files = omega (arith, low, c.loop-name.invariant.later) in
      let last : g.F.Files.faults c.loop-name.files ≤ after = omega (arith, high, c.read_content.ensures.later) in
      let content : IsContent files c.name-item.result limits.File (Ok c.in_ok-content.content) = rw c.loop-name.invariant.kept at (c.in_ok-content.ensures.content before after first high) in
      c.loop-name.invariant.all before after low last result
      (next_read files c.args.names.now c.loop-name.name-index c.name-item.result c.loop-name-test.true c.name-item.is c.loop-name.contents.items c.in_ok-content.content result content
      (rw c.in_ok-push.ensures.items at rest));
  each = ap length c.in_ok-push.ensures.items ∙ length_push c.loop-name.contents.items c.in_ok-content.content ∙ ap (λ n. n + 1) c.loop-name.invariant.each;
  kept = c.read_content.ensures.kept ∙ c.loop-name.invariant.kept;
  later = omega (arith, c.loop-name.invariant.later, c.read_content.ensures.later);
}
