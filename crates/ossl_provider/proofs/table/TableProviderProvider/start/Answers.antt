use Rattle.std.proofs.Common.{◌≡◌, false, arith, length-append}
use Rattle.ossl_provider.specs.Members.{is_in}
use Rattle.ossl_provider.proofs.MembersLaws.{is_distinct-push}
use Rattle.ossl_provider.proofs.table.TableProviderProvider.start.Goals as goal

pub invariant_of-self : goal.invariant_of-self
invariant_of-self c =
    let up = c.self.inside.up.items in
    let was = c.self.invariant.1 in
    let fresh : is_in c.args.instance up ≡ false = rw (← c.self.view_is) at c.requires.fresh in (
      rw c.push_reserved.ensures.capacity c.self.invariant.0,
      record {
        distinct = rw c.push_reserved.ensures.items (is_distinct-push up c.args.instance was.distinct fresh);
        started = rw c.push_reserved.ensures.items (simp length-append (omega (arith, was.started)));
        counted = was.counted;
      },
    )
