use Rattle.std.proofs.Common.{◌≡◌, ◌*◌}
use Rattle.lra_dbm.specs.Steps.{progress, in_turn, row_strengthened}
use Rattle.lra_dbm.proofs.steps.strengthen_all.Given as goal

abbrev pub invariant-loop-i : goal.invariant-loop-i
invariant-loop-i l = progress l.cells l.passed ≡ in_turn (λ i. row_strengthened i (2 * l.n)) l.i (progress l.fn.cells l.fn.flagged)
