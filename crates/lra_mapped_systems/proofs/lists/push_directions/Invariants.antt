use Rattle.std.proofs.Common.{◌≡◌, ◌++◌, length}
use Rattle.lra_mapped_systems.specs.Crates.{lra_linear_spec.Kinds.is_line, lra_linear_spec.OperationStrain.as_directions}
use Rattle.lra_systems.specs.LinearSystems.{FitKinds, generators}
use Rattle.lra_systems.proofs.FirstMembers.{front}
use Rattle.lra_mapped_systems.proofs.lists.push_directions.Given as goal

abbrev pub invariant-loop-place : goal.invariant-loop-place
invariant-loop-place l = record {
  dims : l.all.dims ≡ l.fn.first.dims;
  given : generators l.all ≡ generators l.fn.first ++ as_directions (front is_line l.rows l.kinds l.place);
  many : length l.all.rows ≡ length l.all.kinds;
  fit : FitKinds l.all.rows l.all.kinds;
}
