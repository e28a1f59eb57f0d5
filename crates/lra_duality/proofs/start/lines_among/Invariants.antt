use Rattle.std.proofs.Common.{◌≡◌}
use Rattle.lra_duality.specs.Crates.{lra_linear_spec.Descriptions.lines_of, lra_linear_spec.Kinds.is_line}
use Rattle.lra_duality.proofs.Crates.lra_systems.FirstMembers.{front}
use Rattle.lra_duality.proofs.start.lines_among.Given as goal

abbrev pub invariant-loop-place : goal.invariant-loop-place
invariant-loop-place l = l.lines.items ≡ lines_of (front is_line l.rows l.kinds l.place)
