-- So far the points of the first sites are there, with the first states.
use Rattle.std.proofs.Common.{◌≡◌, length, map, take, vec_len, Vec, Global}
use Rattle.lra_report_build.specs.Crates.lra_operations.TreeViews.{site_view}
use Rattle.lra_row_text.specs.Part.{Part}
use Rattle.lra_report.specs.{Listing.AreListed, View.point_report_of}
use Rattle.lra_report_build.specs.AnalysisResults.{state_of}
use Rattle.lra_report_build.proofs.listing.list_points.Given as goal

abbrev pub invariant-states : goal.invariant-states
invariant-states l = record {
  count : vec_len l.points ≡ length l.yielded;
  listed : AreListed l.globals l.labels.labels 1 (map site_view (take (length l.yielded) l.sites)) (map point_report_of l.points.items);
  states : map state_of (map point_report_of l.points.items) ≡ map (λ (x : Vec Part Global). x.items) l.yielded;
}
