-- Goals of `multipliers`: the first multipliers that show the claim, or why there are none.
use Rattle.std.proofs.Common.{◌∙◌, ap, sym, length, List}
use Rattle.lra_farkas.specs.Crates.lra_linear_spec.declared.ConKind.{ConKind}
use Rattle.lra_systems.specs.LinearSystems.{constraints}
use Rattle.lra_multipliers.specs.MultiplierViews.{multipliers_view}
use Rattle.lra_farkas.specs.FirstMultipliers.{IsMultipliersFailure}
use Rattle.lra_farkas.proofs.FirstPoints.{as_wide, as_many, exit_fails, first_many, first_answer, first_strained}
use Rattle.lra_farkas.proofs.first.multipliers.Goals as goal

pub check-requires-clause-count : goal.check-requires-clause-count
check-requires-clause-count c =
    let premises = c.args.premises.now in
    let m = multipliers_view c.in_ok-first.first in
    as_many premises m.factors (ap (λ (ks : List ConKind). length ks) (sym c.kinds-kinds.ensures.kinds) ∙ c.kinds-kinds.ensures.len)
    (first_many (constraints premises) c.args.claim.now m c.in_ok-first.ensures.first)

pub returns-in_err-first-clause-failure : goal.returns-in_err-first-clause-failure
returns-in_err-first-clause-failure c =
    exit_fails (IsMultipliersFailure (constraints c.args.premises.now) c.args.claim.now) c.from_residual.result _ c.from_residual.ensures.1
    c.in_err-first.ensures.failure

pub returns-in-Wide-clause-failure : goal.returns-in-Wide-clause-failure
returns-in-Wide-clause-failure c =
    first_strained (constraints c.args.premises.now) c.args.claim.now (multipliers_view c.in_ok-first.first) c.in_ok-first.ensures.first c.in-Wide.ensures.exact

pub returns-in-Yes-clause-shows : goal.returns-in-Yes-clause-shows
returns-in-Yes-clause-shows c =
    let premises = c.args.premises.now in
    first_answer (constraints premises) c.args.claim.now (multipliers_view c.in_ok-first.first) c.in_ok-first.ensures.first c.check.result
    (as_wide premises c.rows-rows.result.now c.args.claim.now c.rows-rows.ensures.rows c.rows-rows.ensures.widths c.requires.width)
    c.check.ensures.exact c.in-Yes.is
