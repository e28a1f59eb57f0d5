-- Goals of `take_comparison`: the rows around a comparison; none if its difference isn't linear, or a variable doesn't
-- live.
use Rattle.std.proofs.Common.{sym}
use Rattle.lra_linearize.specs.Crates.lra_program.ProgramViews.{expr_view}
use Rattle.lra_linearize.proofs.CondSteps.{difference_wide, difference_there}
use Rattle.lra_linearize.proofs.thresholds.take_comparison.Goals as goal

pub take_around-requires : goal.take_around-requires
take_around-requires c =
    let n = c.args.rows.now.dims in
    let is = difference_there c.dims.result n c.args.base (expr_view c.args.left.now) (expr_view c.args.right.now) c.in_ok-d.field-0 c.in-Some.d c.dims.ensures c.in-Some.is c.in_ok-d.ensures in
    difference_wide n c.args.base (expr_view c.args.left.now) (expr_view c.args.right.now) c.in-Some.d is

pub returns : goal.returns
returns c =
    let n = c.args.rows.now.dims in
    let is = difference_there c.dims.result n c.args.base (expr_view c.args.left.now) (expr_view c.args.right.now) c.in_ok-d.field-0 c.in-Some.d c.dims.ensures c.in-Some.is c.in_ok-d.ensures in
    rw (sym is) c.take_around.ensures
