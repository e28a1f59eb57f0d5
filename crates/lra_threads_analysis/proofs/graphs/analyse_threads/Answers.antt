-- Goals of `analyse_threads`: what the rounds end with.
use Rattle.lra_threads_fixpoint.specs.Found.{fixpoint_view}
use Rattle.lra_threads_analysis.proofs.RoundsHold.{all_found, all_hold, are_flagged}
use Rattle.lra_threads_analysis.proofs.graphs.analyse_threads.Goals as goal

pub returns-clause-rounds : goal.returns-clause-rounds
returns-clause-rounds c P trees same opens =
    all_found c.args.plan.now c.args.globals.now c.args.graphs.now P trees same opens (fixpoint_view c.in_ok-end.end) c.in_ok-end.ensures

pub returns-clause-holds : goal.returns-clause-holds
returns-clause-holds c =
    all_hold c.args.plan.now c.args.globals.now c.args.graphs.now (fixpoint_view c.in_ok-end.end) c.in_ok-end.ensures

pub returns-clause-flagged : goal.returns-clause-flagged
returns-clause-flagged c P trees same opens =
    are_flagged c.args.plan.now P trees (fixpoint_view c.in_ok-end.end)
    (all_found c.args.plan.now c.args.globals.now c.args.graphs.now P trees same opens (fixpoint_view c.in_ok-end.end) c.in_ok-end.ensures)
