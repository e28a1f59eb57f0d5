-- Goals of `thresholds_of`: the rows that thresholds give to a loop's head.
use Rattle.std.proofs.Common.{◌≡◌, ◌++◌, arith}
use Rattle.lra_linearize.specs.Crates.{lra_operations.TreeViews.node_view, lra_program.ProgramViews.cond_view}
use Rattle.lra_analysis_spec.specs.Thresholds.{condition_rows, round_rows, rows_once}
use Rattle.lra_linearize.proofs.ThresholdSteps.{variables_added, whole_is}
use Rattle.lra_linearize.proofs.thresholds.thresholds_of.Goals as goal

pub variables-preserved : goal.variables-preserved
variables-preserved c =
    variables_added c.in_ok-own.own.rows c.args.constants.now c.variables.place c.in_ok-own.own c.variables.rows c.add_constants.new.rows c.variables.invariant c.in_ok-add_constants.ensures

pub returns : goal.returns
returns c =
    let all : c.variables.place ≡ c.args.live = omega (arith, c.variables.auto.place-end, c.variables-test.false) in
    let own = rows_once (condition_rows c.args.live c.args.base (cond_view c.args.condition.now) ++ round_rows c.args.live (node_view c.args.body.now)) in
    whole_is c.args.live c.variables.place c.args.constants.now own c.in_ok-own.own c.variables.rows all c.in_ok-own.ensures c.variables.invariant
