use Rattle.lra_bits.specs.Matrix.{NoneWithin}
use Rattle.lra_bits.proofs.sat_matrix.SatMatrix.find_within.Given as goal

abbrev pub invariant-loop-place : goal.invariant-loop-place
invariant-loop-place l = NoneWithin l.self l.first l.second l.place
