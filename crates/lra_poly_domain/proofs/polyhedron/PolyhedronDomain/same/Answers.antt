-- Goals of `PolyhedronDomain::same`.
use Rattle.lra_poly_domain.proofs.polyhedron.PolyhedronDomain.same.Goals as goal

pub returns : goal.returns
returns c = rw (← c.self.view_is, ← c.other.view_is) c.same.ensures.lists
