use Rattle.lra_bits.proofs.Lengthening.{ArePushed}
use Rattle.lra_bits.proofs.sat_matrix.push_values.Given as goal

abbrev pub invariant-loop-k : goal.invariant-loop-k
invariant-loop-k l = ArePushed l.initial.rows l.last l.k l.rows
