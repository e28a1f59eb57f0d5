use Rattle.std.proofs.Common.{◌≡◌, ◌+◌, ◌-◌, ◌≤◌, length, take}
use Rattle.std.specs.Io.KnownBytes.{Appends}
use Rattle.lra_io.specs.Calls.{Calls}
use Rattle.lra_io.proofs.sink.write_whole.Given as goal

-- the first bytes are written, each write succeeded, and no more spare room is lost than that
abbrev pub invariant-loop-done : goal.invariant-loop-done
invariant-loop-done g l = (l.done ≤ length l.bytes)
    × Appends (g.K.Sink.held l.initial.sink) (g.K.Sink.held l.sink) (take l.done l.bytes)
    × (g.K.Sink.faults l.sink ≡ g.K.Sink.faults l.initial.sink)
    × Calls g.K.Sink.succeeds l.initial.sink l.sink
    × (g.K.Sink.spare l.initial.sink ≤ g.K.Sink.spare l.sink + l.done)

abbrev pub decreases-loop-done : goal.decreases-loop-done
decreases-loop-done g l = length l.bytes - l.done
