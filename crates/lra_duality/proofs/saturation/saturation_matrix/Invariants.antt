use Rattle.std.proofs.Common.{◌≡◌, length, map, take}
use Rattle.lra_duality.specs.Crates.lra_systems.LinearSystems.{generators}
use Rattle.lra_duality.specs.Saturations.{saturated}
use Rattle.lra_duality.proofs.saturation.saturation_matrix.Given as goal

abbrev pub invariant-loop-place : goal.invariant-loop-place
invariant-loop-place l = l.matrix ≡ record {
  width = length (generators l.by_generators);
  rows = map (saturated (generators l.by_generators)) (take l.place l.rows);
}
