use Rattle.std.proofs.Common.{List, sym, subst}
use Rattle.ossl_state.specs.declared.call.Reply.{Reply}
use Rattle.ossl_script.specs.Given.{content_by}
use Rattle.ossl_script.specs.Progress.{Stands}
use Rattle.ossl_script.proofs.progress.go_on_with_room.Goals as goal

pub returns-clause-arrives : goal.returns-clause-arrives
returns-clause-arrives c = λ standing stands.
    c.in_ok-next.ensures standing
    (subst (λ (rs : List Reply). Stands (content_by c.args.contents.now) c.args.lines.now rs c.args.progress.now standing) (sym c.as_slice.ensures.value) stands)
