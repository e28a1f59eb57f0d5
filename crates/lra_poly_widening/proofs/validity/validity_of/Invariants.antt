use Rattle.std.specs.List.{All}
use Rattle.lra_poly_widening.specs.Crates.{lra_duality.Inclusions.Satisfies, lra_linear_spec.Kinds.is_equality, lra_linear_spec.Kinds.is_line}
use Rattle.lra_systems.proofs.FirstMembers.{front}
use Rattle.lra_poly_widening.proofs.validity.validity_of.Given as goal

abbrev pub invariant-loop-place : goal.invariant-loop-place
invariant-loop-place l = All (λ g. Satisfies g (record { row = l.row; equal = is_equality l.fn.kind })) (front is_line l.rows l.kinds l.place)
