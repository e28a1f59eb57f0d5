-- Goals of `is_universe`: whether it has all points.
use Rattle.lra_poly_queries.proofs.ShapeLemmas.{universe_told}
use Rattle.lra_poly_queries.proofs.shape.is_universe.Goals as goal

pub returns : goal.returns
returns c = universe_told c.args.p.now c.rows-list.result.now c.kinds.result.now c.is_empty.result
    c.rows-list.ensures.canonical c.rows-list.ensures.rows c.kinds.ensures.kinds c.kinds.ensures.len c.is_empty.ensures
