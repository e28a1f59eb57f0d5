use Rattle.std.proofs.Common.{◌≡◌, drop}
use Rattle.lra_multipliers.specs.Crates.lra_linear_spec.Range.{InRange}
use Rattle.lra_multipliers.specs.Columns.{column_sum}
use Rattle.lra_multipliers.proofs.CheckLoops.{placed_sum}
use Rattle.lra_multipliers.proofs.columns.sum_column.Given as goal

abbrev pub invariant-loop-place : goal.invariant-loop-place
invariant-loop-place l = record {
  so_far : placed_sum l.sum (drop l.place-index l.used) l.factors l.rows l.column ≡ column_sum l.fn.first l.factors l.rows l.column;
  in_range : InRange l.sum;
}
