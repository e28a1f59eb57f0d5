use Rattle.std.proofs.Common.{ℕ, ◌<◌}
use Rattle.lra_duality.specs.Saturations.{IsCoveredAt}
use Rattle.lra_duality.proofs.facets.is_covered.Given as goal

abbrev pub invariant-loop-place : goal.invariant-loop-place
invariant-loop-place l = (k : ℕ) → k < l.place → ¬ (IsCoveredAt l.kinds l.saturation.rows l.values k)
