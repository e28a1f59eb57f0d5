-- Goals of `SatMatrix::push_column`: puts a value after each row.
use Rattle.std.proofs.Common.{arith}
use Rattle.lra_bits.proofs.sat_matrix.SatMatrix.push_column.Goals as goal

pub push_in_place-requires-clause-room : goal.push_in_place-requires-clause-room
push_in_place-requires-clause-room c = λ z. absurd (omega (arith, z, c.width-width.ensures.width, c.if-width-eq0.false))
