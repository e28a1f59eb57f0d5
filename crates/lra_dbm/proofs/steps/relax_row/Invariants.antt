use Rattle.std.proofs.Common.{◌≡◌}
use Rattle.lra_dbm.specs.Steps.{progress, in_turn, relaxed}
use Rattle.lra_dbm.proofs.steps.relax_row.Given as goal

abbrev pub invariant-loop-j : goal.invariant-loop-j
invariant-loop-j l = progress l.cells l.passed ≡ in_turn (relaxed l.k l.i) l.j (progress l.fn.cells l.fn.flagged)
