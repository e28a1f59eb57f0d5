use Rattle.std.proofs.Common.{◌≡◌, ◌++◌}
use Rattle.std.specs.List.{All}
use Rattle.lra_mapped_systems.specs.Crates.{lra_linear_spec.Range.InRange, lra_linear_spec.Vectors.zeros}
use Rattle.lra_mapped_systems.proofs.lists.lengthen.Given as goal

abbrev pub invariant-loop : goal.invariant-loop
invariant-loop l = record {
  items : l.numbers.items ≡ l.row ++ zeros l.counter;
  range : All InRange l.numbers.items;
}
