-- Goals of `filter_comparison`: what a comparison leaves of the value.
use Rattle.std.proofs.Common.{◌≡◌, sym, ap, ◌∙◌, ℕ}
use Rattle.lra_program.specs.ProgramViews.{expr_view}
use Rattle.lra_transfer.specs.Crates.{lra_analysis_spec.Linearization.linearized_difference, lra_analysis_spec.MovesOf.comparison_moves, lra_base.OperatorViews.comparison_view}
use Rattle.lra_transfer.proofs.{ChangeSteps.difference_fits, SideSteps.leaves_as}
use Rattle.lra_transfer.proofs.comparisons.filter_comparison.Goals as goal

pub leave_difference-requires-clause-width : goal.leave_difference-requires-clause-width
leave_difference-requires-clause-width g c =
    difference_fits c.dims.result (g.D.Domain.abstraction.dims c.args.value.now) c.args.around.base (expr_view c.args.left.now) (expr_view c.args.right.now)
    c.in_ok-seen.seen c.dims.ensures c.in_ok-seen.ensures

pub returns-clause-leaves : goal.returns-clause-leaves
returns-clause-leaves g c =
    let n = g.D.Domain.abstraction.dims c.args.value.now in
    let op = comparison_view c.args.op in
    let s = c.in_ok-seen.seen in
    let difference = λ (k : ℕ). linearized_difference k c.args.around.base (expr_view c.args.left.now) (expr_view c.args.right.now) in
    let is : difference n ≡ s = ap difference (sym c.dims.ensures) ∙ sym c.in_ok-seen.ensures in
    leaves_as g.D.Domain.abstraction c.leave_difference.result c.args.value.now c.args.before c.leave_difference.new.value (comparison_moves n op s)
    (comparison_moves n op (difference n)) (ap (comparison_moves n op) is) c.leave_difference.ensures.leaves
