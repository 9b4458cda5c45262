use Rattle.std.proofs.Common.{◌≡◌, List, ℕ, Ok, length}
use Rattle.ossl_conf.specs.Private.{IsSoFar}
use Rattle.ossl_conf.specs.Progress.{conf_of}
use Rattle.ossl_conf.specs.Reading.{value_by_name}
use Rattle.ossl_conf.specs.Values.{joined, parts, replaced}
use Rattle.ossl_conf.proofs.progress.Progress.value_of.Given as goal

-- what was replaced so far, and the whole by what is left
abbrev pub invariant-parts : goal.invariant-parts
invariant-parts l = record {
  done : (done : List ℕ) × IsSoFar l.value.bytes.items l.value.is_long done
      × (joined (Ok done) (replaced (value_by_name (conf_of l.self)) (parts l.rest)) ≡ replaced (value_by_name (conf_of l.self)) (parts l.text));
}

abbrev pub decreases-parts : goal.decreases-parts
decreases-parts l = length l.rest
