use Rattle.std.proofs.Common.{◌≡◌, ◌++◌, length, map}
use Rattle.std.specs.{List.All, Prelude.neg_ℤ}
use Rattle.lra_box.specs.Crates.lra_linear_spec.Range.{InRange}
use Rattle.lra_box.proofs.bounds.opposite_row.Given as goal

abbrev pub invariant-loop-factor : goal.invariant-loop-factor
invariant-loop-factor l = record {
  items : l.row.items ++ map neg_ℤ l.left ≡ map neg_ℤ l.e.coefficients;
  range : All InRange l.row.items;
}

abbrev pub decreases-loop-factor : goal.decreases-loop-factor
decreases-loop-factor l = length l.left
