use Rattle.std.proofs.Common.{◌≡◌, ◌≤◌, length, map, drop}
use Rattle.lra_operations.specs.TreeViews.{site_view}
use Rattle.lra_verify.specs.EdgeViews.{violations_by, listed_by, sites_in}
use Rattle.lra_verify.specs.Crates.lra_certificate_spec.Lines.{left_at}
use Rattle.lra_verify.proofs.ListedSteps.{listed_after}
use Rattle.lra_verify.proofs.annotated.AnnotatedProgram.take_listed.Given as goal

abbrev pub invariant-loop-point : goal.invariant-loop-point
invariant-loop-point l = record {
  so_far : listed_after l.listed.proved (listed_by (violations_by l.self) l.point (map site_view (drop l.point l.self.sites.now)) (left_at l.bytes l.listed.behind)) ≡
      listed_by (violations_by l.self) 0 (sites_in l.self) (left_at l.bytes l.at);
  within : l.listed.behind ≤ length l.bytes;
  few : l.listed.proved ≤ l.point;
}
