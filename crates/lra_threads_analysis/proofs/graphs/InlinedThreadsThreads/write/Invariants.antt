use Rattle.std.proofs.Common.{◌≡◌, drop, length, map}
use Rattle.lra_threads_fixpoint.specs.Interference.{taken_all, written_by}
use Rattle.lra_threads_analysis.specs.Found.{write_in}
use Rattle.lra_threads_analysis.proofs.graphs.InlinedThreadsThreads.write.Given as goal

abbrev pub invariant-notes : goal.invariant-notes
invariant-notes l =
    taken_all l.row (map write_in (drop l.note-index l.note-items)) ≡ written_by (length l.self.globals.now) (map write_in l.note-items)
