-- Goals of `give_comparison`: the rows of a comparison; none if its difference isn't linear.
use Rattle.lra_linearize.specs.Crates.lra_program.ProgramViews.{expr_view}
use Rattle.lra_linearize.proofs.{CondSteps.difference_wide, CondSteps.difference_there, GuardThresholdSteps.rows_by_test}
use Rattle.std.proofs.Common.{sym}
use Rattle.lra_linearize.proofs.guard_thresholds.give_comparison.Goals as goal

pub give_difference-requires : goal.give_difference-requires
give_difference-requires c =
    let n = c.args.rows.now.dims in
    let is = difference_there c.dims.result n c.args.base (expr_view c.args.left.now) (expr_view c.args.right.now) c.in_ok-d.field-0 c.in-Some.d c.dims.ensures c.in-Some.is c.in_ok-d.ensures in
    difference_wide n c.args.base (expr_view c.args.left.now) (expr_view c.args.right.now) c.in-Some.d is

pub give_test-requires : goal.give_test-requires
give_test-requires c =
    let n = c.args.rows.now.dims in
    let is = difference_there c.dims.result n c.args.base (expr_view c.args.left.now) (expr_view c.args.right.now) c.in_ok-d.field-0 c.in-Some.d c.dims.ensures c.in-Some.is c.in_ok-d.ensures in
    let width = difference_wide n c.args.base (expr_view c.args.left.now) (expr_view c.args.right.now) c.in-Some.d is in
    record { few = rw width c.requires; width = width }

pub returns : goal.returns
returns c =
    let n = c.args.rows.now.dims in
    let is = difference_there c.dims.result n c.args.base (expr_view c.args.left.now) (expr_view c.args.right.now) c.in_ok-d.field-0 c.in-Some.d c.dims.ensures c.in-Some.is c.in_ok-d.ensures in
    rw (
      sym is,
      rows_by_test c.args.op c.in-Some.d c.in_default-op.not-Equal c.in_default-op.not-Differs,
    ) c.in_ok-give_test-in_default-op.ensures
