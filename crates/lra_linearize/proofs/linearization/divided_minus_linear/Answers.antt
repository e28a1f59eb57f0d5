-- Goals of `divided_minus_linear`: a form over a division's variables minus a linear one.
use Rattle.lra_linearize.proofs.LinearizationSteps.{divided_left, handed_on}
use Rattle.lra_linearize.proofs.linearization.divided_minus_linear.Goals as goal

pub returns : goal.returns
returns c =
    handed_on c.divided_if_some.result _ _
    (divided_left c.args.division.now c.args.f.now c.args.g.now c.in_ok-wide.wide c.in_ok-difference.difference
    c.in_ok-wide.ensures c.in_ok-difference.ensures)
    c.divided_if_some.ensures
