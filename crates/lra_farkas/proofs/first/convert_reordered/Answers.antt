-- Goals of `convert_reordered`: the polyhedron of the rows, as they are converted in another order.
use Rattle.std.proofs.lemmas.Result.{IfErr-weaker, IfOk-weaker}
use Rattle.lra_systems.specs.LinearSystems.{constraints}
use Rattle.lra_farkas.proofs.{KeyedRows.reordered_is, KeyedRows.reordered_fails}
use Rattle.lra_farkas.proofs.first.convert_reordered.Goals as goal

pub returns-clause-failure : goal.returns-clause-failure
returns-clause-failure c =
    IfErr-weaker c.convert.result _ _ (λ failure. reordered_fails c.args.rows.now.dims c.in_ok-reordered.reordered.dims (constraints c.args.rows.now)
    (constraints c.in_ok-reordered.reordered) failure c.in_ok-reordered.ensures.dims c.in_ok-reordered.ensures.same) c.convert.ensures.failure

pub returns-clause-is : goal.returns-clause-is
returns-clause-is c =
    IfOk-weaker c.convert.result _ _ (λ made. reordered_is c.args.rows.now.dims c.in_ok-reordered.reordered.dims (constraints c.args.rows.now) (constraints c.in_ok-reordered.reordered)
    made c.in_ok-reordered.ensures.dims c.in_ok-reordered.ensures.same) c.convert.ensures.is
