-- The goal of `choose_last`: the last two are the branches of a choice.
use Rattle.lra_path_segments.specs.Crates.lra_program.ProgramViews.{cond_view}
use Rattle.lra_path_segments.specs.{Tasks.stack, TreeSegmentViews.seen, TreeSegments.chosen_segments}
use Rattle.lra_path_segments.proofs.TaskSteps.{two_used}
use Rattle.lra_path_segments.proofs.trees.choose_last.Goals as goal

pub returns : goal.returns
returns c = two_used c.put_last.result (chosen_segments c.args.base (cond_view c.args.condition.now)) (stack c.args.done.now.items)
    (stack c.take_last-on_true.new.done.items)
    (stack c.take_last-on_false.new.done.items)
    (stack c.put_last.new.done.items) (seen c.take_last-on_true.result.items) (seen c.take_last-on_false.result.items) (seen c.in_ok-whole.whole.items)
    c.take_last-on_true.ensures.top c.take_last-on_true.ensures.below c.take_last-on_false.ensures.top c.take_last-on_false.ensures.below c.in_ok-whole.ensures
    c.put_last.ensures
