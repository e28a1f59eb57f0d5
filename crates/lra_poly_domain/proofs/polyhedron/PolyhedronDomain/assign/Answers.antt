-- Goals of `PolyhedronDomain::assign`.
use Rattle.lra_domain.specs.Actions as action
use Rattle.lra_poly_domain.proofs.ChangeLemmas.{changes}
use Rattle.lra_poly_domain.proofs.polyhedron.PolyhedronDomain.assign.Goals as goal

pub returns-clause-meets : goal.returns-clause-meets
returns-clause-meets c =
    rw (← c.self.view_is, c.exactness_of.ensures)
    (changes (action.assign c.args.x c.args.e.now) c.self.inside.poly c.image.new.p c.in_ok-outcome.outcome
    (rw (← c.self.view_is) at c.requires.place, rw (← c.self.view_is) at c.requires.width)
    c.rows-formed.ensures.formed c.in_ok-outcome.ensures.becomes)
