use Rattle.std.proofs.Common.{◌≡◌, ◌++◌, []}
use Rattle.std.specs.List.{filter}
use Rattle.lra_poly_widening.specs.Crates.{lra_linear_spec.Kinds.is_equality, lra_linear_spec.Widening.is_tight}
use Rattle.lra_systems.proofs.FirstMembers.{front}
use Rattle.lra_systems.specs.LinearSystems.{constraints}
use Rattle.lra_poly_widening.proofs.lists.tight_rows.Given as goal

abbrev pub invariant-loop-place : goal.invariant-loop-place
invariant-loop-place l = record {
  dims : l.tight.dims ≡ l.p.dims;
  rows : constraints l.tight ≡ [] ++ filter (is_tight l.p) (front is_equality l.rows l.kinds l.place);
}
