use Rattle.std.proofs.Common.{◌*◌}
use Rattle.std.specs.Prelude.{min}
use Rattle.lra_bits.specs.TruthValues.{ArePlaces}
use Rattle.lra_bits.proofs.bit_row.BitRow.places.Given as goal

abbrev pub invariant-loop-at : goal.invariant-loop-at
invariant-loop-at l = ArePlaces l.self (min l.count (l.at * 64)) l.places.items
