-- The verdicts so far and those on the threads that are left are all.
use Rattle.std.proofs.Common.{◌≡◌, ◌++◌, map, drop}
use Rattle.lra_threads_source.specs.Crates.lra_syntax.Views.{tree_view}
use Rattle.lra_report.specs.View.{verdict_of}
use Rattle.lra_threads_source.specs.Listed.{assertions_alone, one_by_one, reported_verdicts}
use Rattle.lra_threads_source.proofs.listing.push_assertions.Given as goal

abbrev pub invariant-threads : goal.invariant-threads
invariant-threads l =
    map verdict_of l.listed.items ++ one_by_one (reported_verdicts (tree_view l.outline.tree.now) assertions_alone) l.k (drop l.k l.found)
    ≡ map verdict_of l.initial.listed.items ++ one_by_one (reported_verdicts (tree_view l.outline.tree.now) assertions_alone) 0 l.found
