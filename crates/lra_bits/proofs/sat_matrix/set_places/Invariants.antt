use Rattle.std.proofs.Common.{◌/◌, nat_lt}
use Rattle.std.specs.Prelude.{◌&&◌}
use Rattle.lra_bits.specs.{Transposed.IsMarked, TruthValues.value_at}
use Rattle.lra_bits.proofs.sat_matrix.set_places.Given as goal

abbrev pub invariant-loop-at : goal.invariant-loop-at
invariant-loop-at l = IsMarked l.initial.columns l.columns l.k (λ c. nat_lt (c / 64) l.at && value_at l.row c)
