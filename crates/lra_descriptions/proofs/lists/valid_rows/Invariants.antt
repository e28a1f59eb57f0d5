use Rattle.std.proofs.Common.{take}
use Rattle.lra_systems.specs.LinearSystems.{constraints}
use Rattle.lra_descriptions.specs.Crates.lra_linear_spec.Kinds.{is_equality}
use Rattle.lra_descriptions.proofs.Validity.{AreSeen}
use Rattle.lra_descriptions.proofs.lists.valid_rows.Given as goal

abbrev pub invariant-loop-row : goal.invariant-loop-row
invariant-loop-row l = AreSeen (is_equality l.kind) (constraints l.list) (take l.row-index l.rows) l.valid.items
