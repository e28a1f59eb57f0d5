-- The goal of `label_last`: the last stays, and its beginnings are after the label.
use Rattle.lra_path_segments.specs.{Tasks.stack, TreeSegmentViews.move_view, TreeSegmentViews.seen}
use Rattle.lra_path_segments.proofs.TaskSteps.{one_labelled}
use Rattle.lra_path_segments.proofs.trees.label_last.Goals as goal

pub returns : goal.returns
returns c = one_labelled c.put_last-2.result (move_view c.args.first) (stack c.args.done.now.items) (stack c.take_last-row.new.done.items)
    (stack c.take_last-later.new.done.items) (stack c.put_last.new.done.items) (stack c.put_last-2.new.done.items)
    (seen c.take_last-row.result.items) (seen c.take_last-later.result.items) (seen c.in_ok-all.all.items)
    c.take_last-row.ensures.top c.take_last-row.ensures.below c.take_last-later.ensures.top c.take_last-later.ensures.below
    (rw c.as_slice.ensures.value at c.in_ok-all.ensures) c.in_ok-put_last.ensures c.put_last-2.ensures
