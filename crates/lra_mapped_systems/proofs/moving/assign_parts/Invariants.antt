use Rattle.lra_mapped_systems.specs.Crates.{lra_linear_spec.Kinds.is_line, lra_linear_spec.SetOperations.assigned}
use Rattle.lra_mapped_systems.proofs.MovedLists.{ArePartsOf}
use Rattle.lra_mapped_systems.proofs.moving.assign_parts.Given as goal

abbrev pub invariant-loop-place : goal.invariant-loop-place
invariant-loop-place l = ArePartsOf (assigned l.column l.form) is_line l.rows l.kinds l.place l.parts.lines.items l.parts.rays.items
