-- Goals of `push_claim`: the line of a claim that holds wherever the premises do.
use Rattle.std.proofs.Common.{Some, subst, string_bytes}
use Rattle.lra_certify.specs.Crates.lra_multipliers.MultiplierViews.{multipliers_view}
use Rattle.lra_farkas.specs.declared.first.MultipliersFailure.{MultipliersFailure}
use Rattle.lra_certify.specs.PathFactViews.{IsLineFailure}
use Rattle.lra_certify.proofs.{ClaimSteps.claim_added, ClaimSteps.claim_stops, FarkasLaws.laws, FoundPaths.claim_shown}
use Rattle.lra_certify.proofs.claims.push_claim.Goals as goal

pub unreachable-requires : goal.unreachable-requires
unreachable-requires c =
    claim_shown laws c.args.grounds.now c.args.claim.now c.requires.are c.requires.row c.requires.holds c.requires.alive
    (subst (λ (e : MultipliersFailure). IsLineFailure c.args.grounds.now (Some c.args.claim.now) e)
    c.in-Err-NotImplied.field-0-is c.in-Err-NotImplied.ensures.failure)

pub returns-in_ok-push_multipliers-in-Ok-clause-lines : goal.returns-in_ok-push_multipliers-in-Ok-clause-lines
returns-in_ok-push_multipliers-in-Ok-clause-lines c =
    claim_added c.args.grounds.now c.args.claim.now (multipliers_view c.in-Ok.shown) (string_bytes c.args.text.now)
    (string_bytes c.push_multipliers.new.text) c.in-Ok.ensures.line c.in_ok-push_multipliers-in-Ok.ensures

pub returns-in-Err-Strained-clause-failure : goal.returns-in-Err-Strained-clause-failure
returns-in-Err-Strained-clause-failure c =
    claim_stops c.args.grounds.now c.args.claim.now
    (subst (λ (e : MultipliersFailure). IsLineFailure c.args.grounds.now (Some c.args.claim.now) e)
    c.in-Err-Strained.field-0-is c.in-Err-Strained.ensures.failure)
