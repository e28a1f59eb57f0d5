use Rattle.std.proofs.Common.{◌≡◌, List}
use Rattle.lra_duality.specs.Crates.{lra_linear_spec.Descriptions.LinearRow, lra_linear_spec.Descriptions.rays_of, lra_linear_spec.Kinds.is_equality, lra_systems.LinearSystems.rows_by_kind}
use Rattle.lra_cone.specs.Cones.{cone_saturation as by_rays}
use Rattle.lra_duality.specs.Saturations.{saturation_of}
use Rattle.lra_duality.proofs.Crates.lra_systems.FirstMembers.{front}
use Rattle.lra_duality.proofs.facets.inequality_saturation.Given as goal

abbrev pub invariant-loop-place : goal.invariant-loop-place
invariant-loop-place l = record {
  width : l.matrix.width ≡ l.saturation.width;
  rows : (generators : List LinearRow) → l.saturation ≡ saturation_of (rows_by_kind is_equality l.list.rows l.kinds) generators →
      l.matrix ≡ by_rays generators (rays_of (front is_equality l.list.rows l.kinds l.place));
}
