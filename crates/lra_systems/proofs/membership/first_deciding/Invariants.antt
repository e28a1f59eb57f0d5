use Rattle.std.proofs.Common.{◌∷◌}
use Rattle.std.specs.List.{All}
use Rattle.lra_linear_spec.specs.Kinds.{is_equality}
use Rattle.lra_systems.specs.Membership.{HoldsInRange}
use Rattle.lra_systems.proofs.FirstMembers.{front}
use Rattle.lra_systems.proofs.membership.first_deciding.Given as goal

abbrev pub invariant-loop-place : goal.invariant-loop-place
invariant-loop-place l = All (HoldsInRange (l.den ∷ l.num)) (front is_equality l.rows l.kinds l.place)
