-- Goals of `push_claims`: the lines of the claims of all rows.
use Rattle.std.proofs.{Common.◌+◌, Common.[], Common.drop, Common.ap, Common.arith, Common.string_bytes, lemmas.List.drop_all}
use Rattle.lra_certify.specs.Crates.{lra_linear_spec.Cones.with_row, lra_linear_spec.Descriptions.system_of, lra_linear_spec.Kinds.is_equality, lra_systems.LinearSystems.constraints}
use Rattle.lra_certify.proofs.Crates.{lra_certificate_lines.ShowSteps.constraint_from, lra_certificate_lines.TrackSteps.constraints_few}
use Rattle.lra_certify.specs.PathFactViews.{IsClaimLine, ClaimStrained, by_line, SomeStrains, IfStrained}
use Rattle.lra_certify.proofs.EachSteps.{left_all, left_next, left_stops, left_end}
use Rattle.lra_certify.proofs.{ClaimSteps.system_next, ClaimSteps.hold_row, PathSteps.exit_with, PathSteps.strained_weaker}
use Rattle.lra_certify.proofs.claims.push_claims.Goals as goal

pub loop-place-init : goal.loop-place-init
loop-place-init c =
    let g = c.args.grounds.now in
    left_all (IsClaimLine g) by_line (ClaimStrained g) (system_of (constraints c.args.rows.now)) (string_bytes c.args.text.now)

pub push_row_claims-requires-clause-holds : goal.push_row_claims-requires-clause-holds
push_row_claims-requires-clause-holds c =
    let all = constraints c.args.rows.now in
    let i = c.loop-place.place in
    let row = c.at-kind.result.0.now in
    let kind = c.at-kind.result.1 in
    hold_row c.args.grounds.now all i (record { row = row; equal = is_equality kind })
    (constraint_from c.args.rows.now i row kind c.at-kind.ensures.row c.at-kind.ensures.kind) c.requires.holds

pub loop-place-preserved : goal.loop-place-preserved
loop-place-preserved c =
    let g = c.args.grounds.now in
    let all = constraints c.args.rows.now in
    let i = c.loop-place.place in
    let row = c.at-kind.result.0.now in
    let kind = c.at-kind.result.1 in
    let next = system_next (record { row = row; equal = is_equality kind }) (drop (i + 1) all) (drop i all)
    (constraint_from c.args.rows.now i row kind c.at-kind.ensures.row c.at-kind.ensures.kind) in
    left_next (IsClaimLine g) by_line (ClaimStrained g) (with_row (is_equality kind) row []) (system_of (drop (i + 1) all)) (system_of (drop i all))
    (system_of all) next (string_bytes c.loop-place.text) (string_bytes c.args.text.now) c.loop-place.invariant (string_bytes c.push_row_claims.new.text)
    c.in_ok-push_row_claims.ensures.lines

pub returns-in_err-push_row_claims-clause-failure : goal.returns-in_err-push_row_claims-clause-failure
returns-in_err-push_row_claims-clause-failure c =
    let g = c.args.grounds.now in
    let all = constraints c.args.rows.now in
    let i = c.loop-place.place in
    let row = c.at-kind.result.0.now in
    let kind = c.at-kind.result.1 in
    let next = system_next (record { row = row; equal = is_equality kind }) (drop (i + 1) all) (drop i all)
    (constraint_from c.args.rows.now i row kind c.at-kind.ensures.row c.at-kind.ensures.kind) in
    exit_with (IfStrained (SomeStrains g (system_of all))) c.from_residual.result _ c.from_residual.ensures.1
    (strained_weaker (SomeStrains g (with_row (is_equality kind) row [])) (SomeStrains g (system_of all)) _
    (λ stops. (
      stops.0,
      left_stops (IsClaimLine g) by_line (ClaimStrained g) (with_row (is_equality kind) row []) (system_of (drop (i + 1) all))
          (system_of (drop i all)) (system_of all) next (string_bytes c.loop-place.text) (string_bytes c.args.text.now) c.loop-place.invariant stops.0 stops.1,
    ))
    c.in_err-push_row_claims.ensures.failure)

pub returns-clause-lines : goal.returns-clause-lines
returns-clause-lines c =
    let g = c.args.grounds.now in
    let all = constraints c.args.rows.now in
    let h = c.loop-place-test.false in
    let l = c.len-place-end.ensures.rows in
    let k = constraints_few c.args.rows.now in
    left_end (IsClaimLine g) by_line (ClaimStrained g) (system_of (drop c.loop-place.place all)) (system_of all) (string_bytes c.loop-place.text)
    (string_bytes c.args.text.now) (ap system_of (drop_all c.loop-place.place all (omega (arith, h, l, k)))) c.loop-place.invariant
