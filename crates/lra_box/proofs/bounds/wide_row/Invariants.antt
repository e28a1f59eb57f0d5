use Rattle.std.proofs.Common.{◌≡◌, take}
use Rattle.std.specs.List.{All}
use Rattle.lra_box.specs.Crates.lra_linear_spec.Range.{InRange}
use Rattle.lra_box.proofs.bounds.wide_row.Given as goal

abbrev pub invariant-loop-factor : goal.invariant-loop-factor
invariant-loop-factor l = record {
  items : l.row.items ≡ take l.factor-index l.factor-items;
  range : All InRange l.row.items;
}
