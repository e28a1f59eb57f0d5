-- Goals of `open_node`: a row's last tree, and then those before it, are due; all but five have no tree in them.
use Rattle.lra_path_segments.specs.Tasks.{stack}
use Rattle.lra_path_segments.proofs.TaskSteps.{leaf_falls, rest_is_leaf, select_runs, select_shown, selection_falls, seq_runs}
use Rattle.lra_path_segments.proofs.trees.open_node.Goals as goal

pub returns-in-Seq-clause-runs : goal.returns-in-Seq-clause-runs
returns-in-Seq-clause-runs c =
    seq_runs c.push_both.result c.args.node.now c.args.left.now.items c.push_both.new.left.items (stack c.args.done.now.items)
    c.in-Seq.trees c.in-Seq.last c.in-Seq.is (rw (c.deref.ensures, c.as_slice.ensures.value) at c.push_both.ensures.runs)

pub put_leaf-requires : goal.put_leaf-requires
put_leaf-requires c =
    rest_is_leaf c.args.node.now c.in_default.not-Seq c.in_default.not-Choose c.in_default.not-Iterate c.in_default.not-Catch c.in_default.not-Select

pub returns-in_default-clause-falls : goal.returns-in_default-clause-falls
returns-in_default-clause-falls c = leaf_falls c.put_leaf.result c.args.node.now c.args.left.now.items
    (rest_is_leaf c.args.node.now c.in_default.not-Seq c.in_default.not-Choose c.in_default.not-Iterate c.in_default.not-Catch c.in_default.not-Select)

pub returns-in-Select-clause-runs : goal.returns-in-Select-clause-runs
returns-in-Select-clause-runs c =
    let done = rw c.as_slice-in-Select.ensures.value at c.open_selection.ensures.runs in
    select_runs c.open_selection.result c.args.node.now c.args.left.now.items c.open_selection.new.left.items (stack c.args.done.now.items)
    (stack c.open_selection.new.done.items) c.in-Select.field-0 c.in-Select.base c.in-Select.value c.in-Select.arms c.in-Select.is
    (select_shown c.open_selection.result c.args.left.now.items c.open_selection.new.left.items (stack c.args.done.now.items)
    (stack c.open_selection.new.done.items) c.in-Select.field-0 c.in-Select.base c.in-Select.value c.in-Select.arms done)

pub returns-in-Select-clause-falls : goal.returns-in-Select-clause-falls
returns-in-Select-clause-falls c =
    let size = rw c.as_slice-in-Select.ensures.value at c.open_selection.ensures.size in
    selection_falls c.open_selection.result c.args.node.now c.args.left.now.items c.open_selection.new.left.items
    c.in-Select.field-0 c.in-Select.base c.in-Select.value c.in-Select.arms c.in-Select.is size
