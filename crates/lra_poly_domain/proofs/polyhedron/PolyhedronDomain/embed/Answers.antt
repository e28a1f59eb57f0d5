-- Goals of `PolyhedronDomain::embed`.
use Rattle.lra_domain.specs.Actions as action
use Rattle.lra_poly_domain.proofs.ChangeLemmas.{changes}
use Rattle.lra_poly_domain.proofs.polyhedron.PolyhedronDomain.embed.Goals as goal

pub returns-clause-meets : goal.returns-clause-meets
returns-clause-meets c =
    rw (← c.self.view_is, c.exactness_of.ensures)
    (changes (action.embed c.args.k) c.self.inside.poly c.embed.new.p c.in_ok-outcome.outcome tt
    c.rows-formed.ensures.formed c.in_ok-outcome.ensures.becomes)
