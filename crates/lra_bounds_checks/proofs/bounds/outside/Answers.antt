-- Goals of `outside`: that an index is below 0, and that it is at least the length.
use Rattle.lra_bounds_checks.proofs.BoundSteps.{both_tests}
use Rattle.lra_bounds_checks.proofs.bounds.outside.Goals as goal

pub returns : goal.returns
returns c =
    let one = rw c.in-Some.is at c.in_ok-under.ensures in
    both_tests c.args.index.now c.args.count c.in-Some.under c.in-Some-2.expr one (rw c.in-Some-2.is at c.in_ok-expr.ensures)
