-- Goals of `push_arm`: a label or a tree is due.
use Rattle.lra_path_segments.proofs.TaskSteps.{entry_run, entry_size, tree_run, tree_size}
use Rattle.lra_path_segments.proofs.trees.push_arm.Goals as goal

pub returns-in-Entry-clause-runs : goal.returns-in-Entry-clause-runs
returns-in-Entry-clause-runs c = entry_run c.push_task.result c.args.left.now.items c.push_task.new.left.items c.args.selection c.args.arm.now
    c.in-Entry.label c.in-Entry.is c.push_task.ensures.runs

pub returns-in-Entry-clause-size : goal.returns-in-Entry-clause-size
returns-in-Entry-clause-size c = entry_size c.push_task.result c.args.left.now.items c.push_task.new.left.items c.args.arm.now c.in-Entry.label
    c.in-Entry.is c.push_task.ensures.size

pub returns-in-Tree-clause-runs : goal.returns-in-Tree-clause-runs
returns-in-Tree-clause-runs c = tree_run c.push_both.result c.args.left.now.items c.push_both.new.left.items c.args.selection c.args.arm.now
    c.in-Tree.tree c.in-Tree.is c.push_both.ensures.runs

pub returns-in-Tree-clause-size : goal.returns-in-Tree-clause-size
returns-in-Tree-clause-size c = tree_size c.push_both.result c.args.left.now.items c.push_both.new.left.items c.args.arm.now c.in-Tree.tree
    c.in-Tree.is c.push_both.ensures.size
