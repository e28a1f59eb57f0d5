use Rattle.std.proofs.Common.{◌≤◌}
use Rattle.lra_double_description.proofs.sides.count_above.Given as goal

abbrev pub invariant-loop-k : goal.invariant-loop-k
invariant-loop-k l = l.count ≤ l.k
