-- Goals of `DescriptionPair::generators`: the points, rays and lines, in canonical order.
use Rattle.lra_description_pair.proofs.pair.DescriptionPair.generators.Goals as goal

pub returns-clause-limit : goal.returns-clause-limit
returns-clause-limit c = rw (← c.self.view_is) c.self.invariant.3
