-- Goals of `difference_of`: the form of the left side minus the right one.
use Rattle.lra_linearize.specs.Crates.lra_program.ProgramViews.{expr_view}
use Rattle.lra_linearize.proofs.CondSteps.{difference_is}
use Rattle.lra_linearize.proofs.comparisons.difference_of.Goals as goal

pub returns : goal.returns
returns c =
    let one = rw c.in-Some.is at c.in_ok-one.ensures in
    let other = rw c.in-Some-2.is at c.in_ok-other.ensures in
    difference_is c.args.live c.args.base (expr_view c.args.left.now) (expr_view c.args.right.now) c.in-Some.one c.in-Some-2.other c.in_ok-form.form one other c.in_ok-form.ensures
