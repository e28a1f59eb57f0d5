-- Goals of `find_first`: the first generator of the polyhedron of all multipliers, or why there is none.
use Rattle.lra_systems.specs.LinearSystems.{constraints}
use Rattle.lra_multipliers.specs.MultiplierViews.{multipliers_view}
use Rattle.lra_farkas.specs.FirstMultipliers.{IsMultipliersFailure}
use Rattle.lra_farkas.proofs.FirstPoints.{are_first, exit_fails, no_first_fails}
use Rattle.lra_farkas.proofs.first.find_first.Goals as goal

pub returns-in_err-all-clause-failure : goal.returns-in_err-all-clause-failure
returns-in_err-all-clause-failure c =
    exit_fails (IsMultipliersFailure (constraints c.args.premises.now) c.args.claim.now) c.from_residual-in_err-all.result _
    c.from_residual-in_err-all.ensures.1
    (no_first_fails c.in_ok-rows.rows.dims (constraints c.in_ok-rows.rows) (constraints c.args.premises.now) c.args.claim.now _ c.in_ok-rows.ensures.dims
    c.in_ok-rows.ensures.rows c.in_err-all.ensures.failure)

pub returns-clause-first : goal.returns-clause-first
returns-clause-first c =
    are_first c.in_ok-rows.rows.dims (constraints c.in_ok-rows.rows) c.in_ok-all.all (constraints c.args.premises.now) c.args.claim.now
    (multipliers_view c.in_ok-first_multipliers.field-0) c.in_ok-all.ensures.is c.in_ok-rows.ensures.dims c.in_ok-rows.ensures.rows c.in_ok-first_multipliers.ensures.first
