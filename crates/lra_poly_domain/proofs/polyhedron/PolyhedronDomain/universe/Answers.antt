-- Goals of `PolyhedronDomain::universe`.
use Rattle.lra_poly_domain.proofs.PartLemmas.{universe_stores}
use Rattle.lra_poly_domain.proofs.polyhedron.PolyhedronDomain.universe.Goals as goal

pub returns-clause-stores : goal.returns-clause-stores
returns-clause-stores c = universe_stores c.args.n c.in_ok-poly.poly c.in_ok-poly.ensures

pub returns-clause-dims : goal.returns-clause-dims
returns-clause-dims c = c.in_ok-poly.ensures.dimensions
