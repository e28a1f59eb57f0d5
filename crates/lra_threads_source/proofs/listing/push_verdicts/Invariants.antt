-- So far those that were taken are added.
use Rattle.std.proofs.Common.{◌≡◌, ◌++◌, map}
use Rattle.lra_report.specs.View.{verdict_of}
use Rattle.lra_threads_source.specs.Listed.{verdict_in_thread}
use Rattle.lra_threads_source.proofs.listing.push_verdicts.Given as goal

abbrev pub invariant-verdicts : goal.invariant-verdicts
invariant-verdicts l =
    map verdict_of l.listed.items ≡ map verdict_of l.initial.listed.items ++ map (verdict_in_thread l.turn.before l.turn.thread) (map verdict_of l.yielded)
