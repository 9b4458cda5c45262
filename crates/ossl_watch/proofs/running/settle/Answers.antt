use Rattle.std.proofs.Common.{◌≡◌, rules, ap, ◌∙◌}
use Rattle.std.specs.List.{filter}
use Rattle.std.proofs.lemmas.Fn.{filter_same}
use Rattle.ossl_watch.specs.Watched.{is_used}
use Rattle.ossl_watch.proofs.running.settle.Goals as goal

pub returns : goal.returns
returns c =
    filter_same _ is_used _ (λ x b f' h. search rules) _ _ c.retain.ensures.filtered
    ∙ ap (filter is_used) c.change_uses.ensures
