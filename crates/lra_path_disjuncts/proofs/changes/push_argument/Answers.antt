-- The goal of `push_argument`: what is seen of its value fits.
use Rattle.lra_program.specs.ProgramViews.{expr_view}
use Rattle.lra_path_disjuncts.proofs.SegmentMoveSteps.{seen_so}
use Rattle.lra_path_disjuncts.proofs.changes.push_argument.Goals as goal

pub push_new-requires-clause-width : goal.push_new-requires-clause-width
push_new-requires-clause-width c = seen_so c.in_ok-live.live c.args.frame.base (expr_view c.args.argument.now.value) c.in_ok-seen.seen c.in_ok-seen.ensures
