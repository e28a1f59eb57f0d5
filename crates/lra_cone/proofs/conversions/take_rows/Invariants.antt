use Rattle.std.proofs.Common.{◌≡◌, take}
use Rattle.lra_systems.specs.LinearSystems.{constraints, rows_by_kind}
use Rattle.lra_cone.specs.Crates.lra_linear_spec.Kinds.{is_equality}
use Rattle.lra_cone.specs.Conversions.{IsConversion}
use Rattle.lra_cone.proofs.conversions.take_rows.Given as goal

abbrev pub invariant-loop-place : goal.invariant-loop-place
invariant-loop-place l = record {
  dims : l.conversion.cone.dims ≡ l.fn.start.dims;
  kept_dims : l.conversion.kept.dims ≡ l.fn.start.dims;
  taken : IsConversion l.fn.start.taken (rows_by_kind is_equality (take l.place l.listed) (take l.place l.kinds)) (constraints l.conversion.kept) l.conversion.cone l.conversion.losses.items;
}
