use Rattle.std.proofs.Common.{◌≡◌, ◌++◌, map, length}
use Rattle.std.specs.List.{range_with_len}
use Rattle.lra_farkas.specs.Crates.lra_linear_spec.Descriptions.{equality}
use Rattle.lra_systems.specs.LinearSystems.{constraints}
use Rattle.lra_farkas.specs.MultiplierRows.{balance_row}
use Rattle.lra_farkas.proofs.rows.push_balances.Given as goal

abbrev pub invariant-loop-column : goal.invariant-loop-column
invariant-loop-column l = record {
  so_far : constraints l.rows ≡ constraints l.initial.rows ++ map (λ j. equality (balance_row l.premises l.claim j)) (range_with_len 0 l.column);
  dims : l.rows.dims ≡ l.initial.rows.dims;
  kinds : length l.rows.kinds ≡ length l.rows.rows;
}
