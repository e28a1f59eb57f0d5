-- Goals of `filter_number`: what is left of a value if an expression has a number, or another one.
use Rattle.lra_transfer.specs.Crates.lra_base.OperatorViews.{comparison_view}
use Rattle.lra_transfer.proofs.{ChangeSteps.number_fits, CompareSteps.number_left}
use Rattle.lra_transfer.proofs.comparisons.filter_number.Goals as goal

pub leave_difference-requires-clause-width : goal.leave_difference-requires-clause-width
leave_difference-requires-clause-width g c =
    number_fits c.dims.result (g.D.Domain.abstraction.dims c.args.value.now) c.args.seen.now c.in_ok-difference.difference c.args.number.now
    c.dims.ensures c.requires.width c.in_ok-difference.ensures

pub returns-clause-leaves : goal.returns-clause-leaves
returns-clause-leaves g c =
    number_left g.D.Domain.abstraction c.leave_difference.result c.args.value.now c.leave_difference.new.value c.dims.result c.args.wanted c.args.seen.now
    c.in_ok-difference.difference c.args.number.now (comparison_view c.comparison_where-op.result) c.dims.ensures c.comparison_where-op.ensures
    c.in_ok-difference.ensures c.leave_difference.ensures.leaves
