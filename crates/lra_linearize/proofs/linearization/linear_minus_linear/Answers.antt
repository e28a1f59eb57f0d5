-- Goals of `linear_minus_linear`: a linear form minus another one.
use Rattle.lra_linearize.proofs.LinearizationSteps.{linear_differs}
use Rattle.lra_linearize.proofs.linearization.linear_minus_linear.Goals as goal

pub returns : goal.returns
returns c =
    linear_differs c.args.f.now c.args.g.now c.in_ok-difference.difference c.linear_if_some.result c.in_ok-difference.ensures c.linear_if_some.ensures
