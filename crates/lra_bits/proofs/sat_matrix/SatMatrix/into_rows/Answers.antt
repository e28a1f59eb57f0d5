-- Goals of `SatMatrix::into_rows`: the rows, handed on.
use Rattle.lra_bits.proofs.sat_matrix.SatMatrix.into_rows.Goals as goal

pub returns-clause-width : goal.returns-clause-width
returns-clause-width c = rw (← c.self.view_is) c.self.invariant
