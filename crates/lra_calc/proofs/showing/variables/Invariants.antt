use Rattle.std.proofs.Common.{◌≡◌, ◌++◌, ◌+◌, ◌-◌}
use Rattle.lra_calc.specs.ShownSets.{variables_from, variables}
use Rattle.lra_calc.proofs.showing.variables.Given as goal

abbrev pub invariant-loop-index : goal.invariant-loop-index
invariant-loop-index l = l.names ++ variables_from (l.index + 1) (l.n - l.index) ≡ variables l.n
