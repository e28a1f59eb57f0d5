use Rattle.std.proofs.Common.{◌≡◌}
use Rattle.std.specs.Io.KnownBytes.{Keeps}
use Rattle.lra_io.proofs.real.RealSourceSource.read.Given as goal

-- an interrupted read takes no byte and is no fault yet
abbrev pub invariant-tries : goal.invariant-tries
invariant-tries g l = (l.self-inside.faults ≡ l.initial.self-inside.faults)
    × Keeps (g.R.Read.remaining l.initial.self-inside.inner) (g.R.Read.remaining l.self-inside.inner)
