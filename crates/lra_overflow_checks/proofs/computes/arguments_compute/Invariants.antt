use Rattle.std.proofs.Common.{◌≡◌, map, length}
use Rattle.lra_program.specs.{Overflow.arguments_compute, ProgramViews.argument_view}
use Rattle.lra_overflow_checks.proofs.computes.arguments_compute.Given as goal

abbrev pub invariant-loop-argument : goal.invariant-loop-argument
invariant-loop-argument l = arguments_compute (map argument_view l.arguments) ≡ arguments_compute (map argument_view l.left)

abbrev pub decreases-loop-argument : goal.decreases-loop-argument
decreases-loop-argument l = length l.left
