use Rattle.std.proofs.Common.{ℕ, ◌<◌}
use Rattle.lra_canonical.specs.Irredundant.{IsCoveredBy}
use Rattle.lra_canonical.proofs.redundancy.has_cover.Given as goal

abbrev pub invariant-loop-other : goal.invariant-loop-other
invariant-loop-other l = (k : ℕ) → k < l.other → ¬ (IsCoveredBy l.saturation.rows l.gone l.place k)
