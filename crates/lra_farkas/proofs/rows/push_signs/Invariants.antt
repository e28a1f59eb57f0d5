use Rattle.std.proofs.Common.{◌≡◌, ◌++◌, map, length}
use Rattle.lra_systems.specs.LinearSystems.{constraints}
use Rattle.lra_farkas.specs.{MultiplierRows.sign_row, RowsByKinds.columns_by_kinds}
use Rattle.lra_farkas.proofs.ListedRows.{signs_from}
use Rattle.lra_farkas.proofs.rows.push_signs.Given as goal

abbrev pub invariant-loop-place : goal.invariant-loop-place
invariant-loop-place l = record {
  so_far : constraints l.rows ++ signs_from l.initial.rows.dims l.place l.kinds ≡
      constraints l.initial.rows ++ map (sign_row l.initial.rows.dims) (columns_by_kinds 2 l.kinds);
  dims : l.rows.dims ≡ l.initial.rows.dims;
  kinds : length l.rows.kinds ≡ length l.rows.rows;
}
