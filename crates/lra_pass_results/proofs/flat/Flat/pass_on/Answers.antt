-- Goals of `pass_on`: a tree that is passed where it stands is followed.
use Rattle.std.proofs.Common.{ap}
use Rattle.lra_pass_results.specs.Crates.lra_domain.Interference.{no_interference}
use Rattle.lra_pass_results.specs.Flat.{flat_view}
use Rattle.lra_pass_results.proofs.LeafSteps.{followed_given}
use Rattle.lra_pass_results.proofs.flat.Flat.pass_on.Goals as goal

pub returns-in-Leaf : goal.returns-in-Leaf
returns-in-Leaf g c = followed_given no_interference g.D.Domain.abstraction c.args.plan.now c.args.so_far.now (flat_view c.args.self) _
    c.pass_on.new.so_far c.pass_on.result (ap flat_view c.in-Leaf.is) c.pass_on.ensures

pub returns-in-Row : goal.returns-in-Row
returns-in-Row g c = followed_given no_interference g.D.Domain.abstraction c.args.plan.now c.args.so_far.now (flat_view c.args.self) _
    c.pass_along.new.so_far c.pass_along.result (ap flat_view c.in-Row.is) c.pass_along.ensures
