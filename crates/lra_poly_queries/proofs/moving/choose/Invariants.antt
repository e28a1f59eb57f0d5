use Rattle.std.proofs.Common.{◌≡◌, take}
use Rattle.std.specs.List.{All}
use Rattle.lra_poly_queries.specs.Crates.lra_linear_spec.Range.{InRange}
use Rattle.lra_poly_queries.specs.Moved.{chosen}
use Rattle.lra_poly_queries.proofs.moving.choose.Given as goal

abbrev pub invariant-loop-dim : goal.invariant-loop-dim
invariant-loop-dim l = record {
  items : l.numbers.items ≡ chosen (take l.dim-index l.dims) l.row;
  range : All InRange l.numbers.items;
}
