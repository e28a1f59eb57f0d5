-- Goals of `put_past`: past all labels there is a segment if none of them is `default`.
use Rattle.lra_path_segments.specs.{Tasks.stack, TreeSegmentViews.selection_view}
use Rattle.lra_path_segments.proofs.TaskSteps.{past_none, past_one}
use Rattle.lra_path_segments.proofs.trees.put_past.Goals as goal

pub returns-then-any_default : goal.returns-then-any_default
returns-then-any_default c = past_none c.put_last.result (selection_view c.args.selection) c.any_default.result c.args.selection.arms.now
    (stack c.args.done.now.items) (stack c.put_last.new.done.items) c.new.result.items c.any_default.ensures c.if-any_default.true c.new.ensures.items
    c.put_last.ensures

pub returns-else-any_default : goal.returns-else-any_default
returns-else-any_default c = past_one c.put_short.result (selection_view c.args.selection) c.any_default.result c.args.selection.arms.now
    (stack c.args.done.now.items) (stack c.put_short.new.done.items) c.any_default.ensures c.if-any_default.false c.put_short.ensures
