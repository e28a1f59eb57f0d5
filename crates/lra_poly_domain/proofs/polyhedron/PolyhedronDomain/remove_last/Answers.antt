-- Goals of `PolyhedronDomain::remove_last`.
use Rattle.lra_domain.specs.Actions as action
use Rattle.lra_poly_domain.proofs.ChangeLemmas.{changes}
use Rattle.lra_poly_domain.proofs.polyhedron.PolyhedronDomain.remove_last.Goals as goal

pub returns-clause-meets : goal.returns-clause-meets
returns-clause-meets c =
    rw (← c.self.view_is, c.exactness_of.ensures)
    (changes (action.remove_last c.args.k) c.self.inside.poly c.remove_last.new.p c.in_ok-outcome.outcome
    (rw (← c.self.view_is) at c.requires) c.rows-formed.ensures.formed c.in_ok-outcome.ensures.becomes)
