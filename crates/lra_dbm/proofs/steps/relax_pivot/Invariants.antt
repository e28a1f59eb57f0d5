use Rattle.std.proofs.Common.{◌≡◌}
use Rattle.lra_dbm.specs.Steps.{progress, in_turn, row_relaxed}
use Rattle.lra_dbm.proofs.steps.relax_pivot.Given as goal

abbrev pub invariant-loop-i : goal.invariant-loop-i
invariant-loop-i l = progress l.cells l.passed ≡ in_turn (row_relaxed l.n l.k) l.i (progress l.fn.cells l.fn.flagged)
