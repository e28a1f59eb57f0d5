use Rattle.std.specs.List.{All}
use Rattle.lra_duality.specs.Crates.lra_linear_spec.Kinds.{is_line}
use Rattle.lra_duality.specs.Maxima.{DoesNotImprove, directed}
use Rattle.lra_duality.proofs.Crates.lra_systems.FirstMembers.{front}
use Rattle.lra_duality.proofs.maximum.first_improving.Given as goal

abbrev pub invariant-loop-place : goal.invariant-loop-place
invariant-loop-place l = All (DoesNotImprove (directed l.form l.is_opposite)) (front is_line l.rows l.kinds l.place)
