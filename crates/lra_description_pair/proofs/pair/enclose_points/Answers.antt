-- Goals of `enclose_points`: the polyhedron of constraints that hold at each of the points, after a loss.
use Rattle.lra_description_pair.specs.Crates.lra_systems.LinearSystems.{constraints}
use Rattle.lra_description_pair.proofs.GeneratorPairs.{of_first}
use Rattle.lra_description_pair.proofs.pair.enclose_points.Goals as goal

pub returns-clause-first : goal.returns-clause-first
returns-clause-first c =
    let kept = c.in_ok-kept.kept in
    let list = c.args.list.now in
    of_first list.dims kept.dims (constraints list) (constraints kept) c.in_ok-pair.pair _ c.in_ok-kept.ensures.dims c.in_ok-kept.ensures.first c.in_ok-pair.ensures.tried
