use Rattle.std.proofs.Common.{◌≡◌, ◌++◌, [], not}
use Rattle.std.specs.List.{filter}
use Rattle.lra_poly_widening.specs.Crates.lra_linear_spec.Kinds.{is_equality}
use Rattle.lra_systems.proofs.FirstMembers.{front}
use Rattle.lra_systems.specs.LinearSystems.{constraints}
use Rattle.lra_poly_widening.specs.Tightest.{is_loose}
use Rattle.lra_poly_widening.proofs.tightest.tightest.Given as goal

abbrev pub invariant-loop-place : goal.invariant-loop-place
invariant-loop-place l = record {
  dims : l.few.dims ≡ l.list.dims;
  rows : constraints l.few ≡ [] ++ filter (λ r. not (is_loose (constraints l.list) r)) (front is_equality l.rows l.kinds l.place);
}
