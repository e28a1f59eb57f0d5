use Rattle.std.proofs.Common.{◌≡◌}
use Rattle.lra_dbm.specs.Steps.{negative_diagonal}
use Rattle.lra_dbm.proofs.steps.has_negative_diagonal.Given as goal

abbrev pub invariant-loop-i : goal.invariant-loop-i
invariant-loop-i l = l.negative ≡ negative_diagonal l.cells l.i
