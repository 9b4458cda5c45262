use Rattle.std.proofs.Common.{◌≡◌, ◌∙◌, not, get_or, ap, rules}
use Rattle.std.proofs.Math.ListN.{set}
use Rattle.std.proofs.lemmas.Fn.{filter_same}
use Rattle.std.proofs.lemmas.List.{get_or_default}
use Rattle.ossl_state.specs.State.{no_lib}
use Rattle.ossl_state.specs.Step.{is_of_token, unloaded_of}
use Rattle.ossl_state.proofs.going.unload.Goals as goal

pub returns : goal.returns
returns c =
    let libs = c.args.libs.now in
    let l = c.args.lib in
    let was = c.at_mut-context.result.now in
    let same : was ≡ get_or libs l no_lib = c.at_mut-context.ensures.value ∙ get_or_default libs l was no_lib c.requires in
    let given = filter_same _ (λ g. not (is_of_token c.args.token g)) _ (λ x b f' h. search rules) _ _ c.retain.ensures in
    rw (c.settle.ensures, c.as_slice.ensures, given) (ap (λ lib. set libs l (unloaded_of c.args.kept c.args.token lib)) same)
