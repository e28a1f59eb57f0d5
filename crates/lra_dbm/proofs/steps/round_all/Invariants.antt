use Rattle.std.proofs.Common.{◌≡◌}
use Rattle.lra_dbm.specs.Steps.{progress, in_turn, rounded}
use Rattle.lra_dbm.proofs.steps.round_all.Given as goal

abbrev pub invariant-loop-i : goal.invariant-loop-i
invariant-loop-i l = progress l.cells l.passed ≡ in_turn rounded l.i (progress l.fn.cells l.fn.flagged)
