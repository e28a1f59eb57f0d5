-- Goals of `linearize_difference`: what is seen of the left side minus the right one.
use Rattle.lra_linearize.specs.Crates.lra_program.ProgramViews.{expr_view}
use Rattle.lra_linearize.proofs.LinearizationSteps.{difference_is_seen, handed_on}
use Rattle.lra_linearize.proofs.linearization.linearize_difference.Goals as goal

pub returns : goal.returns
returns c =
    handed_on c.subtract.result _ _
    (difference_is_seen c.args.live c.args.base (expr_view c.args.left.now) (expr_view c.args.right.now) c.in_ok-one.one c.in_ok-other.other c.in_ok-one.ensures
    c.in_ok-other.ensures)
    c.subtract.ensures
