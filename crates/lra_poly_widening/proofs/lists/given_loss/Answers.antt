-- Goals of `given_loss`: the loss of the first given constraint that isn't known to fail and a product of which
-- passes the range.
use Rattle.std.proofs.Common.{arith, ap, sym, subst, ◌∙◌, ◌≡◌, ◌+◌, ◌++◌, length, List}
use Rattle.lra_poly_widening.specs.Crates.lra_linear_spec.Kinds.{is_equality}
use Rattle.lra_poly_widening.specs.Crates.{lra_linear_spec.Descriptions.LinearRow, lra_linear_spec.OperationStrain.valid_on, lra_linear_spec.declared.ConKind.TheVariants.Ge}
use Rattle.lra_systems.proofs.FirstMembers.{front, member}
use Rattle.lra_systems.specs.LinearSystems.{constraints}
use Rattle.lra_poly_widening.specs.{Rank.kept_thresholds, Validity.IsValidity}
use Rattle.lra_poly_widening.proofs.{Loops.front_seen, Loops.front_step, Places.given_passes, Places.row_among, Validities.kept_valid}
use Rattle.lra_poly_widening.proofs.lists.given_loss.Goals as goal

pub returns-in-Some-clause-flagged : goal.returns-in-Some-clause-flagged
returns-in-Some-clause-flagged c =
    let g : LinearRow = member is_equality c.kinds-kinds.result.now c.loop-place.place c.index-rows-place.result Ge in
    given_passes c.args.p.now c.args.q.now (constraints c.args.given.now) g c.in-Some.excess c.in_ok-loss-in-Some.loss
    (row_among is_equality c.args.given.now c.rows-rows.result.now c.kinds-kinds.result.now c.loop-place.place c.index-rows-place.result Ge c.rows-rows.ensures.rows c.kinds-kinds.ensures.kinds
    c.kinds-kinds.ensures.len c.loop-place-test.true c.index-rows-place.is)
    (subst (IsValidity (c.args.p.now.generators ++ c.args.q.now.generators) g) c.in-Some.ensures c.validity_on_both.ensures) c.in_ok-loss-in-Some.ensures

pub loop-place-preserved : goal.loop-place-preserved
loop-place-preserved c =
    let rows = c.rows-rows.result.now in
    let kinds = c.kinds-kinds.result.now in
    let i = c.loop-place.place in
    let many : length kinds ≡ length rows = c.kinds-kinds.ensures.len ∙ ap length (sym c.rows-rows.ensures.rows) in
    kept_valid c.args.p.now c.args.q.now (front is_equality rows kinds i) (front is_equality rows kinds (i + 1)) (member is_equality kinds i c.index-rows-place.result Ge) c.validity_on_both.result
    (front_step is_equality rows kinds i c.index-rows-place.result Ge many c.loop-place-test.true c.index-rows-place.is) c.validity_on_both.ensures c.in-None.ensures c.loop-place.invariant

pub returns-clause-exact : goal.returns-clause-exact
returns-clause-exact c =
    subst (λ (l : List LinearRow). kept_thresholds c.args.p.now c.args.q.now l ≡ valid_on c.args.p.now c.args.q.now l)
    (front_seen is_equality c.args.given.now c.rows-rows.result.now c.kinds-kinds.result.now c.loop-place.place c.rows-rows.ensures.rows c.kinds-kinds.ensures.kinds c.kinds-kinds.ensures.len
    (omega (arith, c.loop-place-test.false))) c.loop-place.invariant
