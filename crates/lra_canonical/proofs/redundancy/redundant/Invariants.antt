use Rattle.lra_canonical.specs.Irredundant.{AreMarks}
use Rattle.lra_canonical.proofs.redundancy.redundant.Given as goal

abbrev pub invariant-loop-place : goal.invariant-loop-place
invariant-loop-place l = AreMarks l.rows l.saturation l.gone l.place
