-- Goals of `linear_minus_divided`: a linear form minus one over a division's variables.
use Rattle.lra_linearize.proofs.LinearizationSteps.{divided_right, handed_on}
use Rattle.lra_linearize.proofs.linearization.linear_minus_divided.Goals as goal

pub returns : goal.returns
returns c =
    handed_on c.divided_if_some.result _ _
    (divided_right c.args.division.now c.args.f.now c.args.g.now c.in_ok-wide.wide c.in_ok-difference.difference
    c.in_ok-wide.ensures c.in_ok-difference.ensures)
    c.divided_if_some.ensures
