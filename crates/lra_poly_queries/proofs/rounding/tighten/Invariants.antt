use Rattle.std.proofs.Common.{◌≡◌, length, take}
use Rattle.lra_poly_queries.specs.Crates.lra_linear_spec.Kinds.{is_equality}
use Rattle.lra_systems.specs.LinearSystems.{constraints, rows_by_kind}
use Rattle.lra_poly_queries.specs.Tightened.{AreTightened}
use Rattle.lra_poly_queries.proofs.rounding.tighten.Given as goal

abbrev pub invariant-loop-place : goal.invariant-loop-place
invariant-loop-place l = record {
  dims : l.all.dims ≡ l.list.dims;
  count : length l.all.kinds ≡ length l.all.rows;
  each : AreTightened l.list.dims (rows_by_kind is_equality (take l.place l.rows) (take l.place l.kinds))
      (constraints l.all);
}
