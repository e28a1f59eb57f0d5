use Rattle.std.proofs.Common.{◌≡◌, ◌++◌, length, take}
use Rattle.lra_poly_queries.specs.Crates.lra_linear_spec.Kinds.{is_equality}
use Rattle.lra_systems.specs.LinearSystems.{constraints, rows_by_kind}
use Rattle.lra_poly_queries.specs.Moved.{moved}
use Rattle.lra_poly_queries.proofs.joining.push_moved.Given as goal

abbrev pub invariant-loop-place : goal.invariant-loop-place
invariant-loop-place l = record {
  dims : l.all.dims ≡ l.fn.own.dims;
  given : constraints l.all ≡ constraints l.fn.own ++
      moved l.dims (rows_by_kind is_equality (take l.place l.rows) (take l.place l.kinds));
  count : length l.all.kinds ≡ length l.all.rows;
}
