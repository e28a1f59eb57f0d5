-- The goal of `push_give`: what is seen of its value fits.
use Rattle.lra_program.specs.ProgramViews.{expr_view}
use Rattle.lra_path_disjuncts.proofs.SegmentMoveSteps.{seen_so}
use Rattle.lra_path_disjuncts.proofs.changes.push_give.Goals as goal

pub push_target-requires-clause-width : goal.push_target-requires-clause-width
push_target-requires-clause-width c = seen_so c.args.frame.live c.args.frame.base (expr_view c.args.e.now) c.in_ok-seen-in-Some.seen
    c.in_ok-seen-in-Some.ensures
