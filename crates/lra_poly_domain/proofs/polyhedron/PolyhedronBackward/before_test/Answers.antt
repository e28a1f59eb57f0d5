-- Goals of `PolyhedronBackward::before_test`: what was so before the test passed.
use Rattle.lra_poly_domain.proofs.BackLemmas.{undoes_test}
use Rattle.lra_poly_domain.proofs.polyhedron.PolyhedronBackward.before_test.Goals as goal

pub returns-clause-back : goal.returns-clause-back
returns-clause-back c =
    rw (← c.self.view_is, c.exactness_of.ensures)
    (undoes_test c.args.t.now.kind c.args.t.now.expr c.self.inside.poly c.add_test.new.self c.in_ok-told.told
    (rw (← c.self.view_is) at c.requires) c.rows-formed.ensures.formed c.in_ok-told.ensures.becomes)
