-- Goals of `Poly::generators`: the points, rays and lines.
use Rattle.lra_poly.proofs.RepresentableLemmas.{formed_lists}
use Rattle.lra_poly.proofs.poly.Poly.generators.Goals as goal

pub returns-clause-formed : goal.returns-clause-formed
returns-clause-formed c = rw (← c.self.view_is)
    (formed_lists c.self.inside.rows c.self.inside.by_generators c.self.invariant.0 c.self.invariant.4
    c.rows-rows.result.now c.rows-others.result.now c.rows-rows.ensures.rows c.rows-others.ensures.rows
    c.rows-rows.ensures.in_range c.rows-others.ensures.in_range)
