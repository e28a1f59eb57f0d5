-- Goals of `tests_of`: the tests that an index is outside.
use Rattle.std.proofs.Common.{◌≡◌, length}
use Rattle.lra_bounds_checks.proofs.BoundsSteps.{outside_wide}
use Rattle.lra_bounds_checks.proofs.access_checks.tests_of.Goals as goal

pub returns-in-Some-clause-wide : goal.returns-in-Some-clause-wide
returns-in-Some-clause-wide c =
    let wide : length c.in-Some.index.coefficients ≡ c.args.live = rw c.in-Some.is at c.requires.wide in
    outside_wide c.outside.result c.in-Some.index c.args.count c.args.live wide c.outside.ensures
