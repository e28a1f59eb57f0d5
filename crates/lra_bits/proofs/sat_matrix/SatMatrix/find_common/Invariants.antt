use Rattle.std.proofs.Common.{◌*◌}
use Rattle.lra_bits.specs.Matrix.{NoneCommon}
use Rattle.lra_bits.proofs.sat_matrix.SatMatrix.find_common.Given as goal

abbrev pub invariant-loop-at : goal.invariant-loop-at
invariant-loop-at l = NoneCommon l.self l.rows l.marked l.first l.second (l.at * 64)
