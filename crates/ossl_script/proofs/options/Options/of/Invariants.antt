use Rattle.std.proofs.Common.{◌≡◌, take}
use Rattle.ossl_script.specs.Given.{content_by, options_of}
use Rattle.ossl_script.proofs.options.Options.of.Given as goal

abbrev pub invariant-loop-argument : goal.invariant-loop-argument
invariant-loop-argument l = l.options ≡ options_of (content_by l.contents) (take l.argument-index l.arguments)
