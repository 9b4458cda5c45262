use Rattle.std.proofs.Common.{refl}
use Rattle.std.proofs.lemmas.List.{get_or-set_same}
use Rattle.ossl_state.specs.State.{lib_at, no_lib}
use Rattle.ossl_state.specs.Step.{grouped_of, joined_of}
use Rattle.ossl_state.proofs.ListLaws.{set_twice}
use Rattle.ossl_state.proofs.activation.bear.Goals as goal

pub returns-in-Ok-clause-ok : goal.returns-in-Ok-clause-ok
returns-in-Ok-clause-ok c =
    let s = c.args.state.now in
    let b = c.args.instance in
    let was = lib_at s b.lib in
    let joined = joined_of was b.place b.number in
    let grouped = grouped_of was c.args.groups in
    let both = joined_of grouped b.place b.number in
    let first = get_or-set_same s.libs b.lib joined no_lib c.requires in
    let other = get_or-set_same s.libs b.lib grouped no_lib c.requires in
    rw (c.replace_groups.ensures.after, c.in-Ok.ensures.ok, c.in_ok-push.ensures.ok, first, other, set_twice s.libs b.lib joined both, set_twice s.libs b.lib grouped both) refl
