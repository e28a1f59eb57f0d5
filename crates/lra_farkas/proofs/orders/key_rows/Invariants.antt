use Rattle.std.proofs.Common.{◌≡◌, suc, map, take, length}
use Rattle.std.specs.List.{All}
use Rattle.lra_farkas.specs.Crates.lra_linear_spec.Kinds.{is_equality}
use Rattle.lra_systems.specs.LinearSystems.{rows_by_kind}
use Rattle.lra_farkas.specs.{KeyedRows.row_of_keyed, declared.orders.Keyed.Keyed}
use Rattle.lra_farkas.proofs.orders.key_rows.Given as goal

abbrev pub invariant-loop-place : goal.invariant-loop-place
invariant-loop-place l = record {
  so_far : map row_of_keyed l.keyed.items ≡ rows_by_kind is_equality (take l.place l.rows.rows) (take l.place l.rows.kinds);
  widths : All (λ (k : Keyed). length k.row ≡ suc l.rows.dims) l.keyed.items;
}
