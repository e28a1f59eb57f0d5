-- Goals of `PolyhedronDomain::is_empty`: yes exactly if there is no rational point.
use Rattle.lra_poly_domain.proofs.PartLemmas.{empty_none, parts_where_empty}
use Rattle.lra_poly_domain.proofs.polyhedron.PolyhedronDomain.is_empty.Goals as goal

pub returns-clause-parts : goal.returns-clause-parts
returns-clause-parts c = rw (← c.self.view_is) (parts_where_empty c.self.inside.poly c.is_empty.result c.rows-canonical.ensures.canonical c.is_empty.ensures)

pub returns-clause-stores : goal.returns-clause-stores
returns-clause-stores c = rw (← c.self.view_is) (empty_none c.self.inside.poly c.is_empty.result c.is_empty.ensures)
