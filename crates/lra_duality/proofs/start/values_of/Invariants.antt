use Rattle.std.proofs.Common.{◌∷◌}
use Rattle.lra_duality.specs.Crates.{lra_bits.TruthValues.value_at, lra_double_description.Steps.IsFilled}
use Rattle.lra_duality.specs.Saturations.{column}
use Rattle.lra_duality.proofs.start.values_of.Given as goal

abbrev pub invariant-loop-k : goal.invariant-loop-k
invariant-loop-k l = IsFilled (value_at (l.first ∷ column l.saturation l.place)) l.fn.width l.k l.bits
