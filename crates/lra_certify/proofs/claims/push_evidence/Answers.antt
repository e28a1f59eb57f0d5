-- Goals of `push_evidence`: what is said of a path with these grounds.
use Rattle.std.proofs.Common.{None, ap, subst, string_bytes}
use Rattle.lra_certify.specs.Crates.lra_multipliers.MultiplierViews.{multipliers_view}
use Rattle.lra_certify.specs.Crates.{lra_certificate_lines.PathCheckViews.target_rows, lra_certificate_spec.Judged.RowsAtPoint, lra_systems.LinearSystems.constraints}
use Rattle.lra_farkas.specs.declared.first.MultipliersFailure.{MultipliersFailure}
use Rattle.lra_certify.specs.PathFactViews.{AllLead, IsLineFailure}
use Rattle.lra_certify.proofs.{ClaimSteps.dead_added, ClaimSteps.dead_stops, ClaimSteps.claims_told, ClaimSteps.claims_failed, FarkasLaws.laws, FoundPaths.dead_shown, FoundPaths.target_holds}
use Rattle.lra_certify.proofs.claims.push_evidence.Goals as goal

pub unreachable-requires : goal.unreachable-requires
unreachable-requires c =
    dead_shown laws c.args.grounds.now
    (subst (λ (s : RowsAtPoint). AllLead c.args.grounds.now s) (ap target_rows c.in-None.is) c.requires.lead)
    (subst (λ (e : MultipliersFailure). IsLineFailure c.args.grounds.now None e)
    c.in-Err-NotImplied.field-0-is c.in-Err-NotImplied.ensures.failure)

pub push_claims-requires-clause-holds : goal.push_claims-requires-clause-holds
push_claims-requires-clause-holds c =
    target_holds c.args.grounds.now (constraints c.in-Some.rows.now)
    (subst (λ (s : RowsAtPoint). AllLead c.args.grounds.now s) (ap target_rows c.in-Some.is) c.requires.lead)

pub returns-in_ok-push_multipliers-in-Ok-clause-evidence : goal.returns-in_ok-push_multipliers-in-Ok-clause-evidence
returns-in_ok-push_multipliers-in-Ok-clause-evidence c =
    dead_added c.args.grounds.now (target_rows c.args.target) (multipliers_view c.in-Ok.shown) (string_bytes c.args.text.now)
    (string_bytes c.push_multipliers.new.text) c.in-Ok.ensures.line c.in_ok-push_multipliers-in-Ok.ensures

pub returns-in-Some-clause-evidence : goal.returns-in-Some-clause-evidence
returns-in-Some-clause-evidence c =
    claims_told c.args.grounds.now (target_rows c.args.target) (constraints c.in-Some.rows.now)
    (ap target_rows c.in-Some.is) (string_bytes c.args.text.now) (string_bytes c.push_claims.new.text)
    (subst (λ (e : MultipliersFailure). IsLineFailure c.args.grounds.now None e)
    c.in-Err-NotImplied.field-0-is c.in-Err-NotImplied.ensures.failure)
    c.push_claims.result c.push_claims.ensures.lines

pub returns-in-Some-clause-failure : goal.returns-in-Some-clause-failure
returns-in-Some-clause-failure c =
    claims_failed c.args.grounds.now (target_rows c.args.target) (constraints c.in-Some.rows.now)
    (ap target_rows c.in-Some.is)
    (subst (λ (e : MultipliersFailure). IsLineFailure c.args.grounds.now None e)
    c.in-Err-NotImplied.field-0-is c.in-Err-NotImplied.ensures.failure)
    c.push_claims.result c.push_claims.ensures.failure

pub returns-in-Err-Strained-clause-failure : goal.returns-in-Err-Strained-clause-failure
returns-in-Err-Strained-clause-failure c =
    dead_stops c.args.grounds.now (target_rows c.args.target)
    (subst (λ (e : MultipliersFailure). IsLineFailure c.args.grounds.now None e)
    c.in-Err-Strained.field-0-is c.in-Err-Strained.ensures.failure)
