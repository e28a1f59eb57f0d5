-- So far those that were taken are added.
use Rattle.std.proofs.Common.{◌≡◌, ◌++◌, map}
use Rattle.lra_report.specs.View.{point_report_of}
use Rattle.lra_threads_source.specs.Listed.{point_in_thread}
use Rattle.lra_threads_source.proofs.listing.push_points.Given as goal

abbrev pub invariant-points : goal.invariant-points
invariant-points l =
    map point_report_of l.listed.items ≡ map point_report_of l.initial.listed.items ++ map (point_in_thread l.turn.before l.turn.thread) (map point_report_of l.yielded)
