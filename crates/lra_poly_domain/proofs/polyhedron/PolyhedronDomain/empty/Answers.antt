-- Goals of `PolyhedronDomain::empty`.
use Rattle.lra_poly_domain.proofs.PartLemmas.{void_stores}
use Rattle.lra_poly_domain.proofs.polyhedron.PolyhedronDomain.empty.Goals as goal

pub returns-clause-stores : goal.returns-clause-stores
returns-clause-stores c = void_stores c.args.n c.in_ok-poly.poly c.in_ok-poly.ensures.dims c.in_ok-poly.ensures.none

pub returns-clause-defined : goal.returns-clause-defined
returns-clause-defined c = (c.in_ok-poly.ensures.dims, c.in_ok-poly.ensures.none, c.in_ok-poly.ensures.canonical)
