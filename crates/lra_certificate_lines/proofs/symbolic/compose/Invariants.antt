use Rattle.std.proofs.Common.{◌≡◌, ◌-◌, length}
use Rattle.std.specs.List.{All}
use Rattle.lra_certificate_lines.specs.Crates.lra_linear_spec.Range.{InRange}
use Rattle.lra_certificate_lines.proofs.WalkSteps.{IsSoFar}
use Rattle.lra_certificate_lines.proofs.symbolic.compose.Given as goal

abbrev pub invariant-columns : goal.invariant-columns
invariant-columns l = record {
  so_far : IsSoFar l.width l.row l.forms l.place l.sum;
  width : length l.sum ≡ l.width;
  in_range : All InRange l.sum;
}

abbrev pub decreases-columns : goal.decreases-columns
decreases-columns l = length l.forms - l.place
