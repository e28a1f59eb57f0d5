use Rattle.std.proofs.Common.{◌≡◌}
use Rattle.lra_duality.specs.Crates.{lra_linear_spec.Descriptions.lines_of, lra_linear_spec.Kinds.is_equality}
use Rattle.lra_duality.proofs.Crates.lra_systems.FirstMembers.{front}
use Rattle.lra_duality.proofs.facets.equalities_among.Given as goal

abbrev pub invariant-loop-place : goal.invariant-loop-place
invariant-loop-place l = l.lines.items ≡ lines_of (front is_equality l.rows l.kinds l.place)
