use Rattle.std.proofs.Common.{◌≡◌, ◌++◌, ◌+◌, ◌-◌, map}
use Rattle.lra_cone.specs.Crates.lra_linear_spec.OperationStrain.{unit_row}
use Rattle.lra_cone.specs.Cones.{columns_from, unit_lines}
use Rattle.lra_cone.proofs.cone.Cone.whole.Given as goal

abbrev pub invariant-loop-column : goal.invariant-loop-column
invariant-loop-column l = l.lines.items ++ map (unit_row l.n) (columns_from l.column (l.n + 1 - l.column)) ≡ unit_lines l.n
