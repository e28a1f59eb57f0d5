use Rattle.lra_bits.proofs.Transposing.{IsPartlyTurned}
use Rattle.lra_bits.proofs.sat_matrix.SatMatrix.transposed.Given as goal

abbrev pub invariant-loop-k : goal.invariant-loop-k
invariant-loop-k l = IsPartlyTurned l.self l.k l.columns.items
