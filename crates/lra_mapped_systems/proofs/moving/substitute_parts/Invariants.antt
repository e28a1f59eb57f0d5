use Rattle.lra_mapped_systems.specs.Crates.{lra_linear_spec.Kinds.is_equality, lra_linear_spec.Vectors.substituted}
use Rattle.lra_mapped_systems.proofs.MovedLists.{ArePartsOf}
use Rattle.lra_mapped_systems.proofs.moving.substitute_parts.Given as goal

abbrev pub invariant-loop-place : goal.invariant-loop-place
invariant-loop-place l = ArePartsOf (substituted l.column l.form) is_equality l.rows l.kinds l.place l.parts.lines.items l.parts.rays.items
