-- Goals of `PolyhedronBackward::meet`.
use Rattle.lra_poly_domain.proofs.BackLemmas.{meets_both}
use Rattle.lra_poly_domain.proofs.polyhedron.PolyhedronBackward.meet.Goals as goal

pub returns-clause-meets : goal.returns-clause-meets
returns-clause-meets c =
    rw (← c.self.view_is, ← c.other.view_is, c.exactness_of.ensures)
    (meets_both c.self.inside.poly c.other.inside.poly c.meet.new.self c.in_ok-outcome.outcome
    c.rows-formed.ensures.formed c.in_ok-outcome.ensures.becomes)
