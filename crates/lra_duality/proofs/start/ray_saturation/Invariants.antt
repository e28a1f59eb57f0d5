use Rattle.std.proofs.Common.{◌≡◌, ◌∷◌, List, length, suc}
use Rattle.lra_duality.specs.Crates.lra_linear_spec.Descriptions.{LinearRow, inequality, rays_of}
use Rattle.lra_duality.specs.Crates.{lra_linear_spec.Kinds.is_line, lra_linear_spec.Polyhedra.positivity, lra_systems.LinearSystems.rows_by_kind}
use Rattle.lra_cone.specs.Cones.{cone_saturation as by_rays}
use Rattle.lra_duality.specs.Saturations.{saturation_of}
use Rattle.lra_duality.proofs.Crates.lra_systems.FirstMembers.{front}
use Rattle.lra_duality.proofs.start.ray_saturation.Given as goal

abbrev pub invariant-loop-place : goal.invariant-loop-place
invariant-loop-place l = record {
  width : l.matrix.width ≡ suc (length l.saturation.rows);
  rows : (given : List LinearRow) → l.saturation ≡ saturation_of given (rows_by_kind is_line l.rows l.kinds) →
      l.matrix ≡ by_rays (inequality (positivity l.list.dims) ∷ given) (rays_of (front is_line l.rows l.kinds l.place));
}
