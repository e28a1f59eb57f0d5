use Rattle.std.proofs.Common.{length, ◌≡◌}
use Rattle.lra_analysis_spec.specs.Thresholds.{is_among}
use Rattle.lra_linearize.proofs.thresholds.is_among.Given as goal

abbrev pub invariant-loop-other : goal.invariant-loop-other
invariant-loop-other l = is_among l.rows l.row ≡ is_among l.left l.row

abbrev pub decreases-loop-other : goal.decreases-loop-other
decreases-loop-other l = length l.left
