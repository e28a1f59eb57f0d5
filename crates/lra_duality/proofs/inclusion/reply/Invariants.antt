use Rattle.std.specs.List.{All}
use Rattle.lra_duality.specs.Crates.lra_linear_spec.Kinds.{is_equality}
use Rattle.lra_duality.specs.Inclusions.{Satisfies}
use Rattle.lra_duality.proofs.Crates.lra_systems.FirstMembers.{front}
use Rattle.lra_duality.proofs.inclusion.reply.Given as goal

abbrev pub invariant-loop-place : goal.invariant-loop-place
invariant-loop-place l = All (Satisfies (record { row = l.generator; equal = l.line })) (front is_equality l.rows l.kinds l.place)
