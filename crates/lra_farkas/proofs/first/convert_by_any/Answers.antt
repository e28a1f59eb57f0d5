-- Goals of `convert_by_any`: the polyhedron of the rows, if their own order exceeds a limit by another.
use Rattle.std.proofs.Common.{subst}
use Rattle.lra_systems.specs.LinearSystems.{constraints}
use Rattle.lra_farkas.specs.RowsByKinds.{HasNoFirst}
use Rattle.lra_farkas.proofs.KeyedRows.{tried_fails}
use Rattle.lra_farkas.proofs.first.convert_by_any.Goals as goal

pub returns-in-Err-Strained-clause-failure : goal.returns-in-Err-Strained-clause-failure
returns-in-Err-Strained-clause-failure c =
    let n = c.args.rows.now.dims in
    let rows = constraints c.args.rows.now in
    tried_fails n rows c.convert_otherwise.result
    (subst (HasNoFirst n rows) c.in-Err-Strained.field-0-is c.in-Err-Strained.ensures.failure) c.convert_otherwise.ensures.failure
