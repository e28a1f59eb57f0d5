-- The goal of `go_round_last`: the last is the body of a loop.
use Rattle.lra_path_segments.specs.Crates.lra_program.ProgramViews.{cond_view}
use Rattle.lra_path_segments.specs.{Tasks.stack, TreeSegmentViews.seen, TreeSegments.looped}
use Rattle.lra_path_segments.proofs.TaskSteps.{one_used}
use Rattle.lra_path_segments.proofs.trees.go_round_last.Goals as goal

pub returns : goal.returns
returns c = one_used c.put_last.result (looped c.args.point c.args.base (cond_view c.args.condition.now)) (stack c.args.done.now.items)
    (stack c.take_last-body.new.done.items)
    (stack c.put_last.new.done.items) (seen c.take_last-body.result.items) (seen c.in_ok-whole.whole.items)
    c.take_last-body.ensures.top c.take_last-body.ensures.below c.in_ok-whole.ensures c.put_last.ensures
