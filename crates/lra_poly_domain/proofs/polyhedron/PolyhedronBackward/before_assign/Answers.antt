-- Goals of `PolyhedronBackward::before_assign`: what was so before dimension `x` got the value of the form.
use Rattle.lra_poly_domain.proofs.BackLemmas.{undoes_assignment}
use Rattle.lra_poly_domain.proofs.polyhedron.PolyhedronBackward.before_assign.Goals as goal

pub returns-clause-back : goal.returns-clause-back
returns-clause-back c =
    rw (← c.self.view_is, c.exactness_of.ensures)
    (undoes_assignment c.args.x c.args.e.now c.self.inside.poly c.preimage.new.p c.in_ok-outcome.outcome
    c.rows-formed.ensures.formed c.in_ok-outcome.ensures.becomes)
