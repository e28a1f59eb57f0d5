use Rattle.std.proofs.Common.{◌≡◌}
use Rattle.lra_bits.proofs.Removal.{IsPartlyKept}
use Rattle.lra_bits.proofs.sat_matrix.SatMatrix.remove_rows.Given as goal

abbrev pub invariant-loop-k : goal.invariant-loop-k
invariant-loop-k l = (l.self-inside.width ≡ l.initial.self-inside.width) × IsPartlyKept l.gone l.initial.self-inside.rows.items l.self-inside.rows.items l.kept l.k
