use Rattle.std.proofs.Common.{◌≡◌, ◌++◌, take}
use Rattle.lra_double_description.specs.Steps.{lengthened_rows}
use Rattle.lra_double_description.proofs.saturation.push_lengthened.Given as goal

abbrev pub invariant-loop-k : goal.invariant-loop-k
invariant-loop-k l = l.wider ≡ record l.fn.wider { rows = l.fn.wider.rows ++ lengthened_rows (take l.k l.matrix.rows) (take l.k l.last) }
