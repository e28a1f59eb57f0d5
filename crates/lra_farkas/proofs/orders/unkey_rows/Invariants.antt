use Rattle.std.proofs.Common.{◌≡◌, map, take, length}
use Rattle.lra_systems.specs.LinearSystems.{constraints}
use Rattle.lra_farkas.specs.KeyedRows.{row_of_keyed}
use Rattle.lra_farkas.proofs.orders.unkey_rows.Given as goal

abbrev pub invariant-loop-item : goal.invariant-loop-item
invariant-loop-item l = record {
  so_far : constraints l.rows ≡ map row_of_keyed (take l.item-index l.keyed);
  dims : l.rows.dims ≡ l.dims;
  kinds : length l.rows.kinds ≡ length l.rows.rows;
}
