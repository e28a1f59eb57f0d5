-- Goals of `push_comparison_guards`: what is seen of the difference fits.
use Rattle.std.proofs.Common.{refl}
use Rattle.lra_transfer.proofs.ChangeSteps.{difference_fits}
use Rattle.lra_program.specs.ProgramViews.{expr_view}
use Rattle.lra_path_disjuncts.proofs.conditions.push_comparison_guards.Goals as goal

pub push_comparison-requires-clause-width : goal.push_comparison-requires-clause-width
push_comparison-requires-clause-width c = difference_fits c.args.frame.live c.args.frame.live c.args.frame.base (expr_view c.args.left.now)
    (expr_view c.args.right.now) c.in_ok-seen.seen refl c.in_ok-seen.ensures

pub push_comparison-requires-2-clause-width : goal.push_comparison-requires-2-clause-width
push_comparison-requires-2-clause-width c = difference_fits c.args.frame.live c.args.frame.live c.args.frame.base (expr_view c.args.left.now)
    (expr_view c.args.right.now) c.in_ok-seen.seen refl c.in_ok-seen.ensures
