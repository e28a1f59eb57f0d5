-- Goals of `of_facets`: the polyhedron of the generators that were added to the cone, and of further ones, if none
-- of these is left out.
use Rattle.lra_poly.proofs.poly.of_facets.Goals as goal

pub returns-in-None-clause-none : goal.returns-in-None-clause-none
returns-in-None-clause-none c = rw c.in-None.is at c.in_ok-pair.ensures.none
