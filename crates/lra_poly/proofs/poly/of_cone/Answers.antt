-- Goals of `of_cone`: the polyhedron of the constraints that were added to the cone after the positivity row,
-- and of further ones.
use Rattle.lra_poly.specs.Crates.lra_systems.LinearSystems.{constraints}
use Rattle.lra_poly.proofs.MetRows.{tried_of}
use Rattle.lra_poly.proofs.poly.of_cone.Goals as goal

pub returns : goal.returns
returns c = tried_of c.args.more.now.dims c.args.cone.taken (constraints c.args.more.now) c.of_pair-made.result c.in_ok-pair.pair c.outcome_of.result c.in_ok-pair.losses.items
    c.of_pair-made.ensures c.outcome_of.ensures c.in_ok-pair.ensures.tried
