use Rattle.std.proofs.Common.{◌≡◌, ◌++◌, map, take}
use Rattle.std.specs.List.{All}
use Rattle.lra_farkas.specs.Crates.{lra_linear_spec.Range.InRange, lra_linear_spec.Vectors.entry}
use Rattle.lra_farkas.proofs.rows.push_column.Given as goal

abbrev pub invariant-loop-row : goal.invariant-loop-row
invariant-loop-row l = record {
  numbers : l.numbers.items ≡ l.initial.numbers.items ++ map (λ r. entry r l.column) (take l.row-index l.rows);
  in_range : All InRange l.numbers.items;
}
