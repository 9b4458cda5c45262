use Rattle.std.proofs.Common.{◌≡◌, take}
use Rattle.ossl_script.proofs.share.own_contents.Given as goal

abbrev pub invariant-loop-content : goal.invariant-loop-content
invariant-loop-content l = l.own.items ≡ take l.content-index l.contents
