use Rattle.std.proofs.Common.{◌≡◌}
use Rattle.lra_poly_widening.specs.Crates.{lra_linear_spec.Kinds.is_equality, lra_linear_spec.OperationStrain.valid_on}
use Rattle.lra_systems.proofs.FirstMembers.{front}
use Rattle.lra_poly_widening.specs.Rank.{kept_thresholds}
use Rattle.lra_poly_widening.proofs.lists.given_loss.Given as goal

abbrev pub invariant-loop-place : goal.invariant-loop-place
invariant-loop-place l = kept_thresholds l.p l.q (front is_equality l.rows l.kinds l.place) ≡ valid_on l.p l.q (front is_equality l.rows l.kinds l.place)
