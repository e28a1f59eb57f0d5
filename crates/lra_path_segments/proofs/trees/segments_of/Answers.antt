-- Goals of `segments_of`: the segments of a tree, along a list of what is due.
use Rattle.std.proofs.Common.{◌∙◌, refl, sym}
use Rattle.lra_operations.specs.TreeViews.{node_view}
use Rattle.lra_path_segments.specs.{Tasks.stack, TreeSegments.tree_segments}
use Rattle.lra_path_segments.proofs.TaskSteps.{run_first, run_last, step_falls, step_runs, ways_made}
use Rattle.lra_path_segments.proofs.trees.segments_of.Goals as goal

pub trees-init : goal.trees-init
trees-init c = run_first c.new-left.result.items c.push.new.self.items _ c.new-done.result.items (tree_segments (node_view c.args.node.now))
    c.in_ok-push.ensures.items
    c.new-left.ensures.items c.new-done.ensures.items refl

pub trees-preserved : goal.trees-preserved
trees-preserved c = step_runs c.pop.new.self.items c.trees.left.items c.do_next.new.left.items c.in-Some.due (stack c.trees.done.items)
    (stack c.do_next.new.done.items)
    (tree_segments (node_view c.args.node.now))
    c.in-Some.ensures.items c.trees.invariant c.in_ok-do_next.ensures.runs

pub trees-smaller : goal.trees-smaller
trees-smaller c = step_falls c.pop.new.self.items c.trees.left.items c.do_next.new.left.items c.in-Some.due c.in-Some.ensures.items
    c.in_ok-do_next.ensures.falls

pub returns-clause-are : goal.returns-clause-are
returns-clause-are c = run_last c.trees.left.items c.trees.done.items c.take_last.result.items (tree_segments (node_view c.args.node.now))
    (sym c.trees.left.ok.0 ∙ c.in_default.ensures.cases.0) c.trees.invariant c.take_last.ensures.top

pub returns-clause-ways : goal.returns-clause-ways
returns-clause-ways c = ways_made c.take_last.result.items (node_view c.args.node.now)
    (run_last c.trees.left.items c.trees.done.items c.take_last.result.items (tree_segments (node_view c.args.node.now))
    (sym c.trees.left.ok.0 ∙ c.in_default.ensures.cases.0) c.trees.invariant c.take_last.ensures.top)
