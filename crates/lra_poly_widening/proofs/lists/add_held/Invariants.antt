use Rattle.std.proofs.Common.{◌≡◌, ◌++◌}
use Rattle.lra_poly_widening.specs.Crates.lra_linear_spec.Kinds.{is_equality}
use Rattle.lra_systems.proofs.FirstMembers.{front}
use Rattle.lra_systems.specs.LinearSystems.{constraints}
use Rattle.lra_poly_widening.specs.Rank.{kept_thresholds}
use Rattle.lra_poly_widening.proofs.lists.add_held.Given as goal

abbrev pub invariant-loop-place : goal.invariant-loop-place
invariant-loop-place l = record {
  dims : l.list.dims ≡ l.p.dims;
  rows : constraints l.list ≡ constraints l.fn.list ++ kept_thresholds l.p l.q (front is_equality l.rows l.kinds l.place);
}
