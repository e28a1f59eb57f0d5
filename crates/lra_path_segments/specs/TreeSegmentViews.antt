-- The segments, their moves and ends, that values of the code's types stand for.
use Rattle.std.specs.Prelude.{List, map}
use Rattle.lra_path_segments.specs.Crates.lra_base.declared.case_labels.CaseLabel.{CaseLabel}
use Rattle.lra_path_segments.specs.Crates.lra_program.ProgramViews.{cond_view, expr_view}
use Rattle.lra_path_segments.specs.Crates.lra_program.Step as step
use Rattle.lra_operations.specs.Tree as graph
use Rattle.lra_operations.specs.TreeViews.{arm_view, arms_of, exit_view, op_view}
use Rattle.lra_path_segments.specs.Segments as ways
use Rattle.lra_path_segments.specs.TreeSegments as stretches
use Rattle.lra_path_segments.specs.{declared.segments.Completion.Completion, declared.segments.TreeSegment.TreeSegment}
use Rattle.lra_path_segments.specs.{declared.segments.End.End, declared.segments.Goal.Goal, declared.segments.Kind.Kind}
use Rattle.lra_path_segments.specs.{declared.segments.Move.Move, declared.segments.Selection.Selection}
use Rattle.lra_path_segments.specs.declared.segments.End.TheVariants as end
use Rattle.lra_path_segments.specs.declared.segments.Goal.TheVariants as goal
use Rattle.lra_path_segments.specs.declared.segments.Completion.TheVariants as how
use Rattle.lra_path_segments.specs.declared.segments.Kind.TheVariants as kind
use Rattle.lra_path_segments.specs.declared.segments.Move.TheVariants as move

-- the arms of a `switch`, and the value that goes to this one of its labels
abbrev pub arms_seen : Selection → graph.Arms
arms_seen s = arms_of (map arm_view s.arms.now)

abbrev pub selection_view : Selection → CaseLabel → ways.SegmentStep
selection_view s l = ways.goes_in s.base (expr_view s.value.now) (arms_seen s) l

abbrev pub move_view : Move → ways.SegmentStep
move_view (move.Change op) = ways.does (op_view op.now)
move_view (move.Test base c wanted) = ways.does (step.test base (cond_view c.now) wanted)
move_view (move.Select s l) = selection_view s l

abbrev pub goal_view : Goal → ways.Goal
goal_view (goal.ComesTo q) = ways.comes_to q
goal_view (goal.Violates q) = ways.violates q

abbrev pub completion_view : Completion → graph.Completion
completion_view how.Normal = graph.normal
completion_view (how.Jump k) = graph.jump (exit_view k)

abbrev pub end_view : End → stretches.End
end_view (end.Exits h) = stretches.exits (completion_view h)
end_view (end.Reaches g) = stretches.reaches (goal_view g)

abbrev pub kind_view : Kind → stretches.Kind
kind_view kind.Starting = stretches.starting
kind_view (kind.Leaving h) = stretches.leaving (completion_view h)

abbrev pub tree_segment_view : TreeSegment → stretches.TreeSegment
tree_segment_view s = record { source = s.source; ops = map move_view s.moves.items; end = end_view s.end }

abbrev pub seen : List TreeSegment → List stretches.TreeSegment
seen xs = map tree_segment_view xs
