-- Goals of `own_rows`: the rows around a loop's own condition and around those in it, each once.
use Rattle.lra_linearize.specs.Crates.{lra_operations.TreeViews.node_view, lra_program.ProgramViews.cond_view}
use Rattle.lra_linearize.proofs.ThresholdSteps.{own_is}
use Rattle.lra_linearize.proofs.thresholds.own_rows.Goals as goal

pub returns : goal.returns
returns c =
    own_is c.args.live c.args.base (cond_view c.args.condition.now) (node_view c.args.body.now) c.new-rows.result c.take_condition.new.rows c.take_round.new.rows
    c.new-rows.ensures.dims c.new-rows.ensures.rows c.new-rows.ensures.kinds c.in_ok-take_condition.ensures c.in_ok-take_round.ensures
