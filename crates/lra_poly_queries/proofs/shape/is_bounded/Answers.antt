-- Goals of `is_bounded`: whether each form has a bound.
use Rattle.lra_poly_queries.proofs.ShapeLemmas.{bounded_told}
use Rattle.lra_poly_queries.proofs.shape.is_bounded.Goals as goal

pub returns : goal.returns
returns c = bounded_told c.args.p.now c.generators-list.result.now c.kinds.result.now c.are_points.result
    c.generators-list.ensures.canonical c.generators-list.ensures.generators c.kinds.ensures.kinds c.kinds.ensures.len
    c.generators-list.ensures.kinds c.are_points.ensures
