-- Goals of `push_row_claims`: the lines of a row's claims.
use Rattle.std.proofs.Common.{◌∙◌, ◌∷◌, [], sym, string_bytes}
use Rattle.lra_certify.specs.Crates.{lra_linear_spec.Cones.with_row, lra_linear_spec.Kinds.is_equality}
use Rattle.lra_certify.specs.PathFactViews.{SomeStrains, IfStrained}
use Rattle.lra_certify.proofs.{ClaimSteps.row_holds, ClaimSteps.opposite_holds, ClaimSteps.row_stops, ClaimSteps.two_told, ClaimSteps.opposite_failed, PathSteps.exit_with, PathSteps.strained_weaker}
use Rattle.lra_certify.proofs.claims.push_row_claims.Goals as goal

pub push_claim-requires-clause-holds : goal.push_claim-requires-clause-holds
push_claim-requires-clause-holds c = row_holds c.args.grounds.now c.args.row.now (is_equality c.args.kind) c.requires.holds

pub push_claim-requires-then-is_equality-clause-holds : goal.push_claim-requires-then-is_equality-clause-holds
push_claim-requires-then-is_equality-clause-holds c =
    opposite_holds c.args.grounds.now c.args.row.now (is_equality c.args.kind) c.in_ok-opposite.opposite
    (sym c.is_equality.ensures ∙ c.if-is_equality.true) c.in_ok-opposite.ensures c.requires.holds

pub returns-in_err-push_claim-clause-failure : goal.returns-in_err-push_claim-clause-failure
returns-in_err-push_claim-clause-failure c =
    let g = c.args.grounds.now in
    let claims = with_row (is_equality c.args.kind) c.args.row.now [] in
    exit_with (IfStrained (SomeStrains g claims)) c.from_residual.result _ c.from_residual.ensures.1
    (strained_weaker (SomeStrains g (c.args.row.now ∷ [])) (SomeStrains g claims) _ (row_stops g c.args.row.now (is_equality c.args.kind))
    c.in_err-push_claim.ensures.failure)

pub returns-in_ok-opposite-clause-lines : goal.returns-in_ok-opposite-clause-lines
returns-in_ok-opposite-clause-lines c =
    two_told c.args.grounds.now c.args.row.now c.in_ok-opposite.opposite (is_equality c.args.kind) (sym c.is_equality.ensures ∙ c.if-is_equality.true)
    c.in_ok-opposite.ensures (string_bytes c.args.text.now) (string_bytes c.push_claim.new.text) c.in_ok-push_claim.ensures.lines
    (string_bytes c.push_claim-then-is_equality.new.text) c.push_claim-then-is_equality.result c.push_claim-then-is_equality.ensures.lines

pub returns-in_ok-opposite-clause-failure : goal.returns-in_ok-opposite-clause-failure
returns-in_ok-opposite-clause-failure c =
    opposite_failed c.args.grounds.now c.args.row.now c.in_ok-opposite.opposite (is_equality c.args.kind) (sym c.is_equality.ensures ∙ c.if-is_equality.true)
    c.in_ok-opposite.ensures (string_bytes c.args.text.now) (string_bytes c.push_claim.new.text) c.in_ok-push_claim.ensures.lines
    c.push_claim-then-is_equality.result c.push_claim-then-is_equality.ensures.failure
