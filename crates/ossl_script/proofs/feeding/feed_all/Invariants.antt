use Rattle.std.proofs.Common.{take}
use Rattle.ossl_commands.specs.Contents.{content_by}
use Rattle.ossl_script.specs.Feeding.{Fed}
use Rattle.ossl_script.specs.Given.{fed_by}
use Rattle.ossl_script.proofs.feeding.feed_all.Given as goal

abbrev pub invariant-loop-argument : goal.invariant-loop-argument
invariant-loop-argument l =
    Fed l.fn.context l.context (fed_by (content_by l.contents) (take l.argument-index l.arguments)) l.fn.given.items l.given.items
