use Rattle.std.proofs.Common.{◌≡◌}
use Rattle.std.specs.Io.KnownBytes.{Keeps}
use Rattle.lra_io.proofs.real.RealSinkSink.write.Given as goal

-- an interrupted write takes no byte and is no fault yet
abbrev pub invariant-tries : goal.invariant-tries
invariant-tries g l = (l.self-inside.faults ≡ l.initial.self-inside.faults)
    × Keeps (g.W.Write.contents l.initial.self-inside.inner) (g.W.Write.contents l.self-inside.inner)
