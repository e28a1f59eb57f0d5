use Rattle.std.proofs.Common.{◌≡◌, take}
use Rattle.lra_bits.specs.Matrix.{lengthened_rows}
use Rattle.lra_bits.proofs.sat_matrix.SatMatrix.lengthened.Given as goal

abbrev pub invariant-loop-k : goal.invariant-loop-k
invariant-loop-k l = l.rows.items ≡ lengthened_rows (take l.k l.self.rows) (take l.k l.last)
