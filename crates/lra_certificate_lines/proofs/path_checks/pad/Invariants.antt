use Rattle.std.proofs.Common.{◌≡◌, ◌≤◌, ◌++◌, ◌-◌, length}
use Rattle.lra_certificate_lines.specs.Crates.lra_linear_spec.Vectors.{zeros}
use Rattle.lra_certificate_lines.proofs.path_checks.pad.Given as goal

abbrev pub invariant-columns : goal.invariant-columns
invariant-columns l = record {
  so_far : l.numbers.items ≡ l.row ++ zeros (length l.numbers.items - length l.row);
  from : length l.row ≤ length l.numbers.items;
  within : length l.numbers.items ≤ l.width;
}

abbrev pub decreases-columns : goal.decreases-columns
decreases-columns l = l.width - length l.numbers.items
