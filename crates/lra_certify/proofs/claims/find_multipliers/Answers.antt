-- Goals of `find_multipliers`: the first multipliers of a claim, or why there are none.
use Rattle.lra_certify.specs.Crates.lra_certificate_lines.PathCheckViews.{claim_row}
use Rattle.lra_farkas.proofs.FirstPoints.{as_wide}
use Rattle.lra_certify.proofs.ClaimSteps.{line_found, line_fails}
use Rattle.lra_certify.proofs.claims.find_multipliers.Goals as goal

pub returns-in-Ok-clause-line : goal.returns-in-Ok-clause-line
returns-in-Ok-clause-line c =
    line_found c.args.grounds.now (claim_row c.args.claim) c.in-Ok.row c.in-Ok.ensures.made c.multipliers.result c.multipliers.ensures.first
    c.multipliers.ensures.shows c.multipliers.ensures.numbers

pub returns-in-Ok-clause-failure : goal.returns-in-Ok-clause-failure
returns-in-Ok-clause-failure c =
    line_fails c.args.grounds.now (claim_row c.args.claim) c.in-Ok.row c.in-Ok.ensures.made c.multipliers.result
    (as_wide c.args.grounds.now.premises c.rows-premises.result.now c.in-Ok.row c.rows-premises.ensures.rows c.rows-premises.ensures.widths
    c.in-Ok.ensures.width)
    c.multipliers.ensures.failure
