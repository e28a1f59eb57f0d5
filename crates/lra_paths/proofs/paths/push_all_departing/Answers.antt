-- Goals of `push_all_departing`: one segment more.
use Rattle.lra_path_disjuncts.proofs.GuardSteps.{still_in}
use Rattle.lra_paths.proofs.DepartureSteps.{adds_next}
use Rattle.lra_paths.proofs.paths.push_all_departing.Goals as goal

pub push_departing-requires-clause-before : goal.push_departing-requires-clause-before
push_departing-requires-clause-before c = still_in c.args.source.now.entries.items c.ways.source.entries.items c.ways.invariant.grows c.args.departure.before
    c.requires.before

pub ways-preserved : goal.ways-preserved
ways-preserved c = adds_next c.args.source.now c.ways.source c.push_departing.new.source c.args.departure.before c.args.departure.live c.args.departure.point
    c.args.ways.now c.ways.stretch-index c.stretch-item.result c.ways-test.true c.stretch-item.is c.requires.before c.ways.invariant
    c.in_ok-push_departing.ensures
