use Rattle.std.specs.List.{All}
use Rattle.lra_duality.specs.Crates.{lra_linear_spec.Kinds.is_line, lra_systems.LinearSystems.constraints}
use Rattle.lra_duality.specs.Inclusions.{SatisfiesAll}
use Rattle.lra_duality.proofs.Crates.lra_systems.FirstMembers.{front}
use Rattle.lra_duality.proofs.inclusion.inclusion_of.Given as goal

abbrev pub invariant-loop-place : goal.invariant-loop-place
invariant-loop-place l = All (SatisfiesAll (constraints l.list)) (front is_line l.rows l.kinds l.place)
