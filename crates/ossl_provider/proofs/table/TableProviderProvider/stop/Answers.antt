use Rattle.std.proofs.Common.{◌≡◌, ◌+◌, ◌-◌, true, length, arith}
use Rattle.ossl_provider.specs.Members.{is_in, without}
use Rattle.ossl_provider.proofs.MembersLaws.{is_distinct-without, length-without, length-without-le}
use Rattle.ossl_provider.proofs.table.TableProviderProvider.stop.Goals as goal

pub invariant_of-self : goal.invariant_of-self
invariant_of-self c =
    let i = c.args.instance in
    let up = c.self.inside.up.items in
    let was = c.self.invariant.1 in (
      rw c.take_out.ensures.room c.self.invariant.0,
      record {
        distinct = rw c.take_out.ensures.numbers (is_distinct-without i up was.distinct);
        started = rw c.take_out.ensures.numbers (omega (arith, length-without-le i up, was.started));
        counted = was.counted;
      },
    )

pub returns-clause-stops : goal.returns-clause-stops
returns-clause-stops c =
    let i = c.args.instance in
    let up = c.self.inside.up.items in
    let starts = c.self.inside.starts in
    let was = c.self.invariant.1 in
    let held : is_in i up ≡ true = rw (← c.self.view_is) at c.requires.up in
    let fewer : starts - length (without i up) ≡ starts - length up + 1 = omega (arith, length-without i up was.distinct held, was.started) in
    rw (c.take_out.ensures.numbers, ← c.self.view_is) fewer
