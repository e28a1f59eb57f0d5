-- So far the points of the first threads are listed.
use Rattle.std.proofs.Common.{map, take}
use Rattle.lra_threads_source.specs.Crates.lra_syntax.Views.{tree_view}
use Rattle.lra_report.specs.View.{point_report_of}
use Rattle.lra_threads_source.specs.Listed.{ShowsPoints}
use Rattle.lra_threads_source.proofs.listing.list_threads.Given as goal

abbrev pub invariant-threads : goal.invariant-threads
invariant-threads l = ShowsPoints (tree_view l.outline.tree.now) (take l.k l.found) (map point_report_of l.listed.items)
