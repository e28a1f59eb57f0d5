-- Goals of `pass_on`: a tree with none in it is followed.
use Rattle.std.proofs.Common.{ap}
use Rattle.lra_pass_results.specs.Crates.lra_domain.Interference.{no_interference}
use Rattle.lra_pass_results.specs.TreeForms.{leaf_view}
use Rattle.lra_pass_results.proofs.LeafSteps.{followed_given, goes_nowhere}
use Rattle.lra_pass_results.proofs.leaves.pass_on.Goals as goal

pub returns-in-Empty : goal.returns-in-Empty
returns-in-Empty g c = goes_nowhere no_interference g.D.Domain.abstraction c.args.plan.now c.args.so_far.now (leaf_view c.args.leaf.now)
    (ap leaf_view c.in-Empty.is)

pub returns-in-Point : goal.returns-in-Point
returns-in-Point g c = followed_given no_interference g.D.Domain.abstraction c.args.plan.now c.args.so_far.now (leaf_view c.args.leaf.now) _
    c.pass_point.new.so_far c.pass_point.result (ap leaf_view c.in-Point.is) (c.pass_point.ensures c.args.plan.now)

pub returns-in-Act : goal.returns-in-Act
returns-in-Act g c = followed_given no_interference g.D.Domain.abstraction c.args.plan.now c.args.so_far.now (leaf_view c.args.leaf.now) _
    c.pass_act.new.so_far c.pass_act.result (ap leaf_view c.in-Act.is) (c.pass_act.ensures c.args.plan.now)

pub returns-in-Check : goal.returns-in-Check
returns-in-Check g c = followed_given no_interference g.D.Domain.abstraction c.args.plan.now c.args.so_far.now (leaf_view c.args.leaf.now) _
    c.pass_check.new.so_far c.pass_check.result (ap leaf_view c.in-Check.is) (c.pass_check.ensures c.args.plan.now)

pub returns-in-Leave : goal.returns-in-Leave
returns-in-Leave g c = followed_given no_interference g.D.Domain.abstraction c.args.plan.now c.args.so_far.now (leaf_view c.args.leaf.now) _
    c.pass_leave.new.so_far c.pass_leave.result (ap leaf_view c.in-Leave.is) c.pass_leave.ensures
