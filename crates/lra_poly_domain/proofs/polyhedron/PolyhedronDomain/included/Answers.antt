-- Goals of `PolyhedronDomain::included`.
use Rattle.lra_domain.specs.declared.Included.TheVariants.{Yes, No, Wide}
use Rattle.lra_poly_domain.specs.Covering.{covered_has}
use Rattle.lra_poly_domain.proofs.InsideLemmas.{said}
use Rattle.lra_poly_domain.proofs.polyhedron.PolyhedronDomain.included.Goals as goal

pub returns-clause-stores : goal.returns-clause-stores
returns-clause-stores c = λ e.
    rw (← c.self.view_is, ← c.other.view_is)
    (covered_has c.self.inside.poly c.other.inside.poly (said c.self.inside.poly c.other.inside.poly c.included.result Yes e c.included.ensures))

pub returns-clause-yes : goal.returns-clause-yes
returns-clause-yes c = λ e. rw (← c.self.view_is, ← c.other.view_is) (said c.self.inside.poly c.other.inside.poly c.included.result Yes e c.included.ensures)

pub returns-clause-no : goal.returns-clause-no
returns-clause-no c = λ e. rw (← c.self.view_is, ← c.other.view_is) (said c.self.inside.poly c.other.inside.poly c.included.result No e c.included.ensures)

pub returns-clause-wide : goal.returns-clause-wide
returns-clause-wide c = λ e. rw (← c.self.view_is, ← c.other.view_is) (said c.self.inside.poly c.other.inside.poly c.included.result Wide e c.included.ensures)
