use Rattle.std.proofs.Common.{take}
use Rattle.lra_systems.specs.LinearSystems.{rows_by_kind}
use Rattle.lra_descriptions.specs.Crates.lra_linear_spec.Kinds.{is_equality}
use Rattle.lra_descriptions.specs.ShownLists.{IsSeenValid}
use Rattle.lra_descriptions.proofs.lists.is_valid.Given as goal

abbrev pub invariant-loop-place : goal.invariant-loop-place
invariant-loop-place l = IsSeenValid (is_equality l.kind) l.row (rows_by_kind is_equality (take l.place l.listed) (take l.place l.kinds))
