use Rattle.std.proofs.Common.{◌≡◌, take}
use Rattle.lra_systems.specs.LinearSystems.{rows_by_kind}
use Rattle.lra_cone.specs.Crates.lra_linear_spec.Kinds.{is_equality}
use Rattle.lra_cone.proofs.losses.given_rows.Given as goal

abbrev pub invariant-loop-place : goal.invariant-loop-place
invariant-loop-place l = l.rows.items ≡ rows_by_kind is_equality (take l.place l.listed) (take l.place l.kinds)
