-- The labels so far are written after the arms, and what is left comes after them.
use Rattle.std.proofs.Common.{map, length}
use Rattle.lra_program.specs.ProgramViews.{case_view, cases_of}
use Rattle.lra_inline_steps.specs.Stack.{PassesLabels}
use Rattle.lra_inline_steps.proofs.cases.pass_labels.Given as goal

abbrev pub invariant-labels : goal.invariant-labels
invariant-labels l = PassesLabels l.fn.arms.items l.arms.items l.cases (cases_of (map case_view l.rest))

abbrev pub decreases-labels : goal.decreases-labels
decreases-labels l = length l.rest
